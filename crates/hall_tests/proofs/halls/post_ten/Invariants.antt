use Rattle.std.proofs.Common.{◌≡◌, ◌≤◌}
use Rattle.hall_tests.proofs.halls.post_ten.Given as goal

abbrev pub invariant-loop-k : goal.invariant-loop-k
invariant-loop-k g l = (l.seat.lock ≡ l.hall.lock) × (l.done ≤ l.k)
