use Rattle.std.proofs.Common.{◌≡◌, map, take}
use Rattle.tile_cache.specs.Calls.{end_of}
use Rattle.tile_cache.proofs.outs.ends.Given as goal

abbrev pub invariant-loop-out : goal.invariant-loop-out
invariant-loop-out l = l.ends.items ≡ map end_of (take l.out-index l.outs)
