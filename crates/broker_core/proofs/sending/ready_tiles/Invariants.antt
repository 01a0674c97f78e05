use Rattle.std.proofs.Common.{◌≡◌, take}
use Rattle.broker_core.specs.Sending.{ready_tiles}
use Rattle.broker_core.proofs.sending.ready_tiles.Given as goal

abbrev pub invariant-loop-i : goal.invariant-loop-i
invariant-loop-i l = l.tiles.items ≡ ready_tiles (take l.i l.keys) (take l.i l.ends) (take l.i l.parts)
