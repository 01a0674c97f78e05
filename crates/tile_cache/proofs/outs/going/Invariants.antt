use Rattle.std.proofs.Common.{◌≡◌, map, take}
use Rattle.tile_cache.specs.Calls.{going}
use Rattle.tile_cache.proofs.outs.going.Given as goal

abbrev pub invariant-loop-key : goal.invariant-loop-key
invariant-loop-key l = l.outs.items ≡ map (going l.ticket l.n) (take l.key-index l.keys)
