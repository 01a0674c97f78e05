use Rattle.std.proofs.Common.{List, ℕ, ◌++◌, ap, ◌∙◌}
use Rattle.part_calc.specs.Text.{cell_line}
use Rattle.part_calc.proofs.LengthLaws.{written_step, written_left, written_end}
use Rattle.part_calc.proofs.lines.write_lines.Goals as goal

pub write_line-requires : goal.write_line-requires
write_line-requires c = (written_left (c.in-Some.position.now, c.in-Some.cell.now) c.loop-position.position-iterator c.next.new.self c.loop-position.invariant.left c.in-Some.ensures.steps).0.column

pub loop-position-preserved : goal.loop-position-preserved
loop-position-preserved c = record {
  told =
      written_step c.args.number (c.in-Some.position.now, c.in-Some.cell.now) c.loop-position.position-iterator c.next.new.self c.loop-position.out.items c.write_line.new.out.items _ c.loop-position.invariant.told c.in-Some.ensures.steps
      (c.in_ok-write_line.ensures ∙ ap (λ (raw : List ℕ). c.loop-position.out.items ++ cell_line c.args.number (c.in-Some.position.now, raw)) c.raw.ensures);
  left = (written_left (c.in-Some.position.now, c.in-Some.cell.now) c.loop-position.position-iterator c.next.new.self c.loop-position.invariant.left c.in-Some.ensures.steps).1;
}

pub returns : goal.returns
returns c = written_end c.args.number c.loop-position.position-iterator c.loop-position.out.items _ c.loop-position.invariant.told c.in-None.ensures.steps.0
