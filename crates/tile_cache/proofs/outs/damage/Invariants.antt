use Rattle.std.proofs.Common.{◌≡◌, ◌++◌, map, take, drop}
use Rattle.tile_cache.specs.Calls.{hit_out}
use Rattle.tile_cache.proofs.outs.damage.Given as goal

abbrev pub invariant-loop-out : goal.invariant-loop-out
invariant-loop-out l = l.outs ≡ map (hit_out l.part l.rect l.n) (take l.out-index l.fn.outs) ++ drop l.out-index l.fn.outs
