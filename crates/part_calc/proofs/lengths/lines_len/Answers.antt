use Rattle.std.proofs.Common.{ℕ, List, length, ap, ◌∙◌, arith}
use Rattle.part_calc.specs.Text.{cell_line}
use Rattle.part_calc.proofs.LengthLaws.{lines_step, lines_end}
use Rattle.part_calc.proofs.lengths.lines_len.Goals as goal

pub overflow_add-total : goal.overflow_add-total
overflow_add-total c =
    let told = lines_step 0 c.loop-position.total c.line_len-total.result (c.in-Some.position.now, c.in-Some.cell.now) c.loop-position.position-iterator c.next.new.self c.args.cells.now.entries c.loop-position.invariant c.in-Some.ensures.steps
    (c.line_len-total.ensures.length ∙ ap (λ (raw : List ℕ). length (cell_line 0 (c.in-Some.position.now, raw))) c.raw.ensures) in
    let short = c.requires in
    omega (arith, told, short)

pub loop-position-preserved : goal.loop-position-preserved
loop-position-preserved c =
    lines_step 0 c.loop-position.total c.line_len-total.result (c.in-Some.position.now, c.in-Some.cell.now) c.loop-position.position-iterator c.next.new.self c.args.cells.now.entries c.loop-position.invariant c.in-Some.ensures.steps
    (c.line_len-total.ensures.length ∙ ap (λ (raw : List ℕ). length (cell_line 0 (c.in-Some.position.now, raw))) c.raw.ensures)

pub returns : goal.returns
returns c = lines_end 0 c.loop-position.total c.loop-position.position-iterator c.args.cells.now.entries c.loop-position.invariant c.in-None.ensures.steps.0
