use Rattle.std.proofs.Common.{◌≡◌, drop}
use Rattle.broker_core.specs.Choosing.{next_member}
use Rattle.broker_core.proofs.choosing.next_member.Given as goal

abbrev pub invariant-loop-member : goal.invariant-loop-member
invariant-loop-member l = next_member l.tiles l.more l.members ≡ next_member l.tiles l.more (drop l.member-index l.members)
