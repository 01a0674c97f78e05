use Rattle.std.proofs.Common.{sym, ◌∙◌}
use Rattle.cell_damage.proofs.Gathering.{first_more, first_right, cell_at}
use Rattle.cell_damage.proofs.cells.first_stretch.Goals as goal

pub loop-i-preserved : goal.loop-i-preserved
loop-i-preserved c =
    let cells = c.args.cells.now in
    let next = sym c.is_next.ensures ∙ c.if-not-is_next.false in
    record {
      first = first_more cells _ c.loop-i.i (0, 0) c.loop-i-test.true next c.loop-i.invariant.first;
      lower = c.loop-i.invariant.lower;
      right = first_right cells _ c.loop-i.i (0, 0) c.requires.cells c.loop-i-test.true next;
    }
