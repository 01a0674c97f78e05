use Rattle.std.proofs.Common.{◌≡◌, filter, nat_eq, take}
use Rattle.tile_readings.proofs.acts.own.Given as goal

abbrev pub invariant-loop-other : goal.invariant-loop-other
invariant-loop-other l = l.own.items ≡ filter (λ t. nat_eq t l.ticket) (take l.other-index l.tickets)
