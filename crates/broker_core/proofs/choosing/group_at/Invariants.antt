use Rattle.std.proofs.Common.{◌-◌, length}
use Rattle.broker_core.specs.Choosing.{joins_group}
use Rattle.broker_core.proofs.Groupings.{IsTaken}
use Rattle.broker_core.proofs.choosing.group_at.Given as goal

abbrev pub invariant-loop-last : goal.invariant-loop-last
invariant-loop-last l = IsTaken (joins_group l.tiles l.members) l.key l.keys.items l.last

abbrev pub decreases-loop-last : goal.decreases-loop-last
decreases-loop-last l = 8 - length l.keys.items
