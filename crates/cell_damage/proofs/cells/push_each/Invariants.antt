use Rattle.std.proofs.Common.{◌≡◌, ◌+◌, ◌++◌, ◌≤◌, length, map, vec_len, vec_capacity}
use Rattle.std.specs.List.{AllByRecursion}
use Rattle.cell_damage.specs.Rectangles.{damaged}
use Rattle.cell_damage.specs.Cells.{IsInReach, stretches, rect_of}
use Rattle.cell_damage.proofs.cells.push_each.Given as goal

abbrev pub invariant-loop-rest : goal.invariant-loop-rest
invariant-loop-rest l = record {
  told : l.damage.items ++ map (damaged l.part) (map rect_of (stretches l.rest)) ≡ map (damaged l.part) (map rect_of (stretches l.cells));
  room : vec_len l.damage + length (stretches l.rest) ≤ vec_capacity l.damage;
  cells : AllByRecursion IsInReach l.rest;
}

abbrev pub decreases-loop-rest : goal.decreases-loop-rest
decreases-loop-rest l = length l.rest
