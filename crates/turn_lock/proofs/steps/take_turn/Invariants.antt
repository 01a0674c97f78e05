use Rattle.std.proofs.Common.{◌≡◌}
use Rattle.turn_lock.proofs.steps.take_turn.Given as goal

-- until the turn is taken, the seat is as it was
abbrev pub invariant-loop : goal.invariant-loop
invariant-loop g l = (l.place.table_id ≡ l.initial.place.table_id)
    × (l.place.me ≡ l.initial.place.me)
    × ((goal.iterator-loop g).can_next l.iterator' × (goal.iterator-loop g).is_finite l.iterator')
