use Rattle.std.proofs.Common.{◌≡◌}
use Rattle.hall_tests.proofs.halls.all_in_order.Given as goal

abbrev pub invariant-loop-i : goal.invariant-loop-i
invariant-loop-i g l = (l.seat.lock ≡ l.hall.lock)
