use Rattle.std.proofs.Common.{arith, rules}
use Rattle.turn_lock.proofs.Keeps.{take_keeps}
use Rattle.turn_lock.proofs.steps.take_turn.Goals as goal

pub compare_exchange-requires : goal.compare_exchange-requires
compare_exchange-requires g c = (
  search rules,
  omega
      (arith, c.requires.table.1),
  take_keeps g.T.Booked.footing g.T.Booked.book _ _ _
      (rw c.loop.invariant.1 c.requires.idle),
)
