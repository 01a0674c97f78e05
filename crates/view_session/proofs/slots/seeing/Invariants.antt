use Rattle.std.proofs.Common.{take}
use Rattle.view_session.proofs.SeeFacts.{IsCopied}
use Rattle.view_session.proofs.slots.seeing.Given as goal

abbrev pub invariant-loop-slot : goal.invariant-loop-slot
invariant-loop-slot l = IsCopied l.slots.items (take l.slot-index l.old) l.keys l.asked
