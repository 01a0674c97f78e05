use Rattle.std.proofs.Common.{arith, rules}
use Rattle.turn_lock.proofs.Keeps.{look_keeps}
use Rattle.turn_lock.proofs.lock.TurnLock.look.Goals as goal

pub load-requires : goal.load-requires
load-requires g c = (
  search rules,
  omega
      (arith, c.self.invariant.0),
  look_keeps g.T.Booked.footing g.T.Booked.book _ _ _
      c.seat.invariant.no_turn,
)
