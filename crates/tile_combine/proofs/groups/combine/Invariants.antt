use Rattle.std.proofs.Common.{◌≡◌, ◌++◌, length}
use Rattle.tile_combine.specs.Runs.{groups_of, in_key_order}
use Rattle.tile_combine.proofs.groups.combine.Given as goal

abbrev pub invariant-loop-rest : goal.invariant-loop-rest
invariant-loop-rest l = l.groups.items ++ groups_of l.rest ≡ groups_of (in_key_order l.keys)

abbrev pub decreases-loop-rest : goal.decreases-loop-rest
decreases-loop-rest l = length l.rest
