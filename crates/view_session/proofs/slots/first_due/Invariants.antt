use Rattle.std.proofs.Common.{◌≡◌, drop, find}
use Rattle.view_session.specs.Slots.{slot_due}
use Rattle.view_session.proofs.slots.first_due.Given as goal

abbrev pub invariant-loop-slot : goal.invariant-loop-slot
invariant-loop-slot l = find slot_due l.slots ≡ find slot_due (drop l.slot-index l.slots)
