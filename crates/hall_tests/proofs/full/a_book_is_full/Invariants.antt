use Rattle.std.proofs.Common.{◌≡◌}
use Rattle.hall_tests.proofs.full.a_book_is_full.Given as goal

abbrev pub invariant-loop-name : goal.invariant-loop-name
invariant-loop-name g l = (l.seat.lock ≡ l.hall.lock)
