use Rattle.std.proofs.Common.{take}
use Rattle.broker_core.specs.Places.{LacksView}
use Rattle.broker_core.proofs.members.member_at.Given as goal

-- none of the views up to here has the id
abbrev pub invariant-loop-i : goal.invariant-loop-i
invariant-loop-i l = LacksView l.id (take l.i l.members.items)
