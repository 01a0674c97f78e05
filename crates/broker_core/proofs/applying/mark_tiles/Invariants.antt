use Rattle.std.proofs.Common.{◌≡◌, drop}
use Rattle.broker_core.specs.Serving.{cache_damaged}
use Rattle.broker_core.proofs.applying.mark_tiles.Given as goal

abbrev pub invariant-loop-damage : goal.invariant-loop-damage
invariant-loop-damage l = cache_damaged l.damages l.n l.initial.tiles ≡ cache_damaged (drop l.damage-index l.damages) l.n l.tiles
