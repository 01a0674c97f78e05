use Rattle.std.proofs.Common.{◌≡◌, ◌+◌, ◌≤◌, length}
use Rattle.std.specs.List.{AllByRecursion}
use Rattle.cell_damage.specs.Cells.{IsInReach, stretches}
use Rattle.cell_damage.proofs.cells.count.Given as goal

abbrev pub invariant-loop-rest : goal.invariant-loop-rest
invariant-loop-rest l = record {
  told : l.number + length (stretches l.rest) ≡ length (stretches l.cells);
  few : l.number + length l.rest ≤ length l.cells;
  cells : AllByRecursion IsInReach l.rest;
}

abbrev pub decreases-loop-rest : goal.decreases-loop-rest
decreases-loop-rest l = length l.rest
