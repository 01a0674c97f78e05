use Rattle.std.proofs.Common.{◌≡◌, take}
use Rattle.std.specs.List.{filter}
use Rattle.std.specs.Map.{keys_of}
use Rattle.part_calc.specs.Shown.{differs}
use Rattle.part_calc.proofs.recalculation.changes.Given as goal

abbrev pub invariant-loop-item : goal.invariant-loop-item
invariant-loop-item l = l.changed ≡ filter (differs l.cells.entries l.edited) (keys_of (take l.item-index l.fates))
