use Rattle.std.proofs.Common.{◌≡◌, map, take}
use Rattle.view_session.specs.Moves.{seen_slot}
use Rattle.view_session.proofs.slots.see.Given as goal

abbrev pub invariant-loop-key : goal.invariant-loop-key
invariant-loop-key l = l.slots.items ≡ map seen_slot (take l.key-index l.keys)
