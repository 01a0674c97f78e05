use Rattle.std.proofs.Common.{◌≡◌, map, take}
use Rattle.tile_readings.proofs.acts.copies.Given as goal

abbrev pub invariant-loop-key : goal.invariant-loop-key
invariant-loop-key l = l.copies.items ≡ map (λ key. l.ticket) (take l._key-index l.keys)
