use Rattle.std.proofs.Common.{◌≡◌, ◌+◌, ◌*◌, ◌&&◌, length, take}
use Rattle.std.specs.Str.{chars}
use Rattle.cool_base.specs.Points.{has_point}
use Rattle.tile_raster.specs.Painting.{IsPainted}
use Rattle.tile_raster.specs.Lettering.{text_dot, black}
use Rattle.tile_raster.specs.Bytes.{painting_on}
use Rattle.tile_raster.proofs.letters.write_letters.Given as goal

abbrev pub invariant-loop-c : goal.invariant-loop-c
invariant-loop-c l = record {
  place : l.left ≡ l.fn.x + 90 * length l.yielded;
  painted : IsPainted l.area (λ px py. has_point l.fn.clip px py && text_dot l.fn.x l.y (take (length l.yielded) (chars l.text)) px py) black (painting_on l.area l.initial.rgba) (painting_on l.area l.rgba);
}
