use Rattle.std.proofs.Common.{◌≤◌, ◌<◌, length, ap, ◌∙◌, arith}
use Rattle.part_calc.specs.Parts.{Part}
use Rattle.part_calc.specs.Text.{part_lines}
use Rattle.part_calc.proofs.LengthLaws.{text_fits, low_number, high_number}
use Rattle.part_calc.proofs.part.Part.text_len.Goals as goal

pub overflow_add-result : goal.overflow_add-result
overflow_add-result c =
    let cells = c.self.inside.cells.entries in
    let high : 10 ≤ c.args.number = omega arith in
    let long = high_number c.args.number cells c.self.inside.kept c.len.result high c.requires c.self.invariant.2 c.len.ensures.len in
    let short = text_fits c.args.number cells c.requires c.self.invariant.0 in
    omega (arith, long, short)

pub returns-then-number-lt10-clause-length : goal.returns-then-number-lt10-clause-length
returns-then-number-lt10-clause-length c =
    let low : c.args.number < 10 = omega arith in
    low_number c.args.number c.self.inside.cells.entries c.self.inside.kept low c.self.invariant.2 ∙ ap (λ (s : Part). length (part_lines c.args.number s)) c.self.view_is

pub returns-then-number-lt10-clause-small : goal.returns-then-number-lt10-clause-small
returns-then-number-lt10-clause-small c =
    let short = text_fits 0 c.self.inside.cells.entries (omega arith) c.self.invariant.0 in
    omega (arith, short, c.self.invariant.2)

pub returns-else-number-lt10-clause-length : goal.returns-else-number-lt10-clause-length
returns-else-number-lt10-clause-length c =
    let high : 10 ≤ c.args.number = omega arith in
    high_number c.args.number c.self.inside.cells.entries c.self.inside.kept c.len.result high c.requires c.self.invariant.2 c.len.ensures.len
    ∙ ap (λ (s : Part). length (part_lines c.args.number s)) c.self.view_is

pub returns-else-number-lt10-clause-small : goal.returns-else-number-lt10-clause-small
returns-else-number-lt10-clause-small c =
    let cells = c.self.inside.cells.entries in
    let high : 10 ≤ c.args.number = omega arith in
    let long = high_number c.args.number cells c.self.inside.kept c.len.result high c.requires c.self.invariant.2 c.len.ensures.len in
    let short = text_fits c.args.number cells c.requires c.self.invariant.0 in
    omega (arith, long, short)
