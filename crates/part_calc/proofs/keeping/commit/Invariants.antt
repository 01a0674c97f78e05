use Rattle.std.specs.Vec.Iter.{into_iter_items}
use Rattle.part_calc.proofs.FoundLaws.{IsPut}
use Rattle.part_calc.proofs.keeping.commit.Given as goal

abbrev pub invariant-loop-position : goal.invariant-loop-position
invariant-loop-position l = IsPut l.fn.kept.entries l.fn.fates.items l.kept.entries (into_iter_items l.position-iterator)
