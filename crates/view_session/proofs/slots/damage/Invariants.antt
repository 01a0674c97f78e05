use Rattle.std.proofs.Common.{◌≡◌, ◌++◌, map, take, drop}
use Rattle.view_session.specs.Moves.{hit_slot}
use Rattle.view_session.proofs.slots.damage.Given as goal

abbrev pub invariant-loop-slot : goal.invariant-loop-slot
invariant-loop-slot l = l.slots ≡ map (hit_slot l.part l.rect) (take l.slot-index l.fn.slots) ++ drop l.slot-index l.fn.slots
