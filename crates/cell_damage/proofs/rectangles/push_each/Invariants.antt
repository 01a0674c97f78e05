use Rattle.std.proofs.Common.{◌≡◌, ◌≤◌, length, map, take, vec_capacity}
use Rattle.cell_damage.specs.Rectangles.{damaged}
use Rattle.cell_damage.proofs.rectangles.push_each.Given as goal

abbrev pub invariant-loop-rect : goal.invariant-loop-rect
invariant-loop-rect l = record {
  told : l.damage.items ≡ map (damaged l.part) (take l.rect-index l.rects);
  room : length l.rects ≤ vec_capacity l.damage;
}
