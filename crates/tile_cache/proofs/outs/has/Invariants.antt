use Rattle.std.proofs.Common.{◌≡◌, drop}
use Rattle.std.specs.List.{list_any}
use Rattle.tile_key.specs.Places.{same_place}
use Rattle.tile_cache.proofs.outs.has.Given as goal

abbrev pub invariant-loop-out : goal.invariant-loop-out
invariant-loop-out l = list_any (λ out. same_place out.key l.key) l.outs ≡ list_any (λ out. same_place out.key l.key) (drop l.out-index l.outs)
