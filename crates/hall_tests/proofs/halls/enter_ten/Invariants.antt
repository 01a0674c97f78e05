use Rattle.std.proofs.Common.{◌≡◌}
use Rattle.hall_tests.proofs.halls.enter_ten.Given as goal

abbrev pub invariant-loop-digit : goal.invariant-loop-digit
invariant-loop-digit g l = (l.seat.lock ≡ l.hall.lock)
