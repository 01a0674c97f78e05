use Rattle.std.proofs.Common.{◌≡◌}
use Rattle.tile_combine.specs.Parts.{columns}
use Rattle.tile_combine.proofs.parts.part_at.Given as goal

abbrev pub invariant-loop-row : goal.invariant-loop-row
invariant-loop-row l = l.rgba.items ≡ columns l.pixels l.left l.key.width l.row
