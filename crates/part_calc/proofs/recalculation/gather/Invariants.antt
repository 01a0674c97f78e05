use Rattle.std.specs.Vec.Iter.{into_iter_items}
use Rattle.part_calc.proofs.FoundLaws.{IsGathered}
use Rattle.part_calc.proofs.recalculation.gather.Given as goal

abbrev pub invariant-loop-position : goal.invariant-loop-position
invariant-loop-position l = IsGathered l.fn.fates.items l.kept.entries (into_iter_items l.position-iterator)
