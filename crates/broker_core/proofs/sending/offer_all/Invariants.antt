use Rattle.std.proofs.Common.{◌≡◌, ◌++◌, drop}
use Rattle.broker_core.specs.Sending.{all_offered, all_frames}
use Rattle.broker_core.proofs.sending.offer_all.Given as goal

abbrev pub invariant-loop-tile : goal.invariant-loop-tile
invariant-loop-tile l = record {
  members : all_offered l.version l.tiles l.initial.members.items ≡ all_offered l.version (drop l.tile-index l.tiles) l.members.items;
  frames : all_frames l.version l.tiles l.initial.members.items ≡ l.frames ++ all_frames l.version (drop l.tile-index l.tiles) l.members.items;
}
