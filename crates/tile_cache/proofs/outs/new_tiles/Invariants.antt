use Rattle.std.proofs.Common.{◌≡◌, ◌++◌, drop}
use Rattle.tile_cache.specs.Calls.{new_tiles}
use Rattle.tile_cache.proofs.outs.new_tiles.Given as goal

abbrev pub invariant-loop-i : goal.invariant-loop-i
invariant-loop-i l = l.tiles.items ++ new_tiles (drop l.i l.outs) (drop l.i l.pictures) ≡ new_tiles l.outs l.pictures
