use Rattle.std.proofs.Common.{◌≡◌, drop}
use Rattle.tile_key.specs.Places.{next_place}
use Rattle.broker_core.specs.Choosing.{is_owed}
use Rattle.broker_core.proofs.choosing.owed_right.Given as goal

abbrev pub invariant-loop-member : goal.invariant-loop-member
invariant-loop-member l = is_owed l.members (next_place l.key) ≡ is_owed (drop l.member-index l.members) (next_place l.key)
