use Rattle.std.proofs.Common.{ℕ, ◌+◌, length, refl, ap, ◌∙◌}
use Rattle.std.specs.Fmt.{decimal}
use Rattle.part_calc.proofs.LengthLaws.{line_is}
use Rattle.part_calc.proofs.lengths.line_len.Goals as goal

pub returns-clause-length : goal.returns-clause-length
returns-clause-length c =
    line_is c.args.number c.args.position c.args.raw.now c.digits-part.result c.letters-column.result c.digits-row.result _
    (c.digits-part.ensures.length ∙ ap (λ (n : ℕ). length (decimal n)) c.from.ensures) c.letters-column.ensures.letters
    (c.digits-row.ensures.length ∙ ap (λ (n : ℕ). length (decimal (n + 1))) c.from-2.ensures) refl
