use Rattle.std.proofs.Common.{◌≡◌, ◌++◌}
use Rattle.part_calc.specs.Readers.{readers_of}
use Rattle.part_calc.proofs.readers.readers.Given as goal

abbrev pub invariant-loop-position : goal.invariant-loop-position
invariant-loop-position l = l.readers.items ++ readers_of l.position-iterator l.at ≡ readers_of l.cells.entries l.at
