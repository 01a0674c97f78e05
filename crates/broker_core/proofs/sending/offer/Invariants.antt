use Rattle.std.proofs.Common.{◌≡◌, ◌++◌, map, take, drop}
use Rattle.std.specs.List.{flat_map}
use Rattle.broker_core.specs.Sending.{offered, frames_for}
use Rattle.broker_core.proofs.sending.offer.Given as goal

abbrev pub invariant-loop-member : goal.invariant-loop-member
invariant-loop-member l = record {
  members : l.member-items ≡ map (offered l.version l.tile) (take l.member-index l.initial.member-items) ++ drop l.member-index l.initial.member-items;
  frames : l.frames ≡ l.initial.frames ++ flat_map (frames_for l.version l.tile) (take l.member-index l.initial.member-items);
}
