use Rattle.std.proofs.Common.{◌≡◌, take}
use Rattle.tile_combine.specs.Runs.{in_key_order}
use Rattle.tile_combine.proofs.groups.in_key_order.Given as goal

abbrev pub invariant-loop-key : goal.invariant-loop-key
invariant-loop-key l = l.distinct.keys ≡ in_key_order (take l.key-index l.keys)
