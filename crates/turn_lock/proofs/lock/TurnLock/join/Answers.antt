use Rattle.std.proofs.Common.{arith, rules}
use Rattle.turn_lock.proofs.Keeps.{join_keeps, settle_keeps}
use Rattle.turn_lock.proofs.lock.TurnLock.join.Goals as goal

pub join_seat-requires : goal.join_seat-requires
join_seat-requires g c = (
  search rules,
  search rules,
  c.other.invariant.no_slot,
  omega (arith, c.self.invariant.0),
  join_keeps g.T.Booked.footing g.T.Booked.book _ _ _ _ c.seat.invariant.no_turn
      c.other.invariant.no_turn c.seat.invariant.settled c.other.invariant.settled,
)

pub load-requires : goal.load-requires
load-requires g c = (
  search rules,
  omega
      (arith, c.self.invariant.0),
  settle_keeps g.T.Booked.footing g.T.Booked.book _ _ _
      (rw c.join_seat.ensures.2 c.seat.invariant.no_turn),
)
