use Rattle.std.proofs.Common.{◌≡◌, ◌+◌, ◌++◌, drop, sum_by}
use Rattle.tile_key.specs.Places.{place_of_keys}
use Rattle.tile_combine.specs.Parts.{parts_from}
use Rattle.tile_combine.proofs.parts.cut.Given as goal

abbrev pub invariant-loop-key : goal.invariant-loop-key
invariant-loop-key l = record {
  parts : l.parts.items ++ parts_from l.pixels l.left (drop l.key-index l.group) ≡ parts_from l.pixels 0 l.group;
  left : l.left + sum_by (λ k. k.width) (drop l.key-index l.group) ≡ (place_of_keys l.group).width;
}
