use Rattle.std.proofs.Common.{◌≤◌}
use Rattle.view_session.specs.Slots.{due_place}
use Rattle.view_session.proofs.slots.due_place.Given as goal

abbrev pub invariant-loop-i : goal.invariant-loop-i
invariant-loop-i l = l.i ≤ due_place l.slots
