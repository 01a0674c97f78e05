use Rattle.std.proofs.Common.{take}
use Rattle.std.specs.Prelude.{All}
use Rattle.tile_cache.specs.Calls.{IsFree}
use Rattle.tile_readings.specs.Mirrors.{IsOne}
use Rattle.tile_readings.proofs.acts.are_ready.Given as goal

abbrev pub invariant-loop-key : goal.invariant-loop-key
invariant-loop-key l = record {
  free : All (λ key. IsFree l.cache key) (take l.key-index l.keys);
  ones : All IsOne (take l.key-index l.keys);
}
