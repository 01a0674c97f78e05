use Rattle.std.proofs.Common.{arith, rules}
use Rattle.turn_lock.proofs.Keeps.{split_keeps}
use Rattle.turn_lock.proofs.lock.TurnLock.split.Goals as goal

pub split_seat-place-requires : goal.split_seat-place-requires
split_seat-place-requires g c = (
  search rules,
  omega
      (arith, c.self.invariant.0),
  split_keeps g.T.Booked.footing g.T.Booked.book _ _
      c.seat.invariant.no_turn,
)
