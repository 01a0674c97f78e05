use Rattle.part_calc.proofs.KnowLaws.{KnowsSo}
use Rattle.part_calc.proofs.lanes.index_of.Given as goal

abbrev pub invariant-loop-position : goal.invariant-loop-position
invariant-loop-position l = KnowsSo l.cells.entries l.position-iterator l.index.entries
