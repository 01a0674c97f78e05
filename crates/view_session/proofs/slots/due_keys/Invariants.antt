use Rattle.std.proofs.Common.{◌≡◌, take, filter}
use Rattle.view_session.specs.Slots.{keys_in, slot_due}
use Rattle.view_session.proofs.slots.due_keys.Given as goal

abbrev pub invariant-loop-slot : goal.invariant-loop-slot
invariant-loop-slot l = l.keys.items ≡ keys_in (filter slot_due (take l.slot-index l.slots))
