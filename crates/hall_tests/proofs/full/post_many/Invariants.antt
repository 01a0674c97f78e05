use Rattle.std.proofs.Common.{◌≡◌}
use Rattle.hall_tests.proofs.full.post_many.Given as goal

abbrev pub invariant-loop-k : goal.invariant-loop-k
invariant-loop-k g l = (l.seat.lock ≡ l.hall.lock)
