use Rattle.std.proofs.Common.{◌≡◌, take}
use Rattle.broker_core.proofs.Windows.{without_wids}
use Rattle.broker_core.proofs.members.Member.acknowledge.Given as goal

-- the tiles with the numbers up to here left
abbrev pub invariant-loop-wid : goal.invariant-loop-wid
invariant-loop-wid l = record {
  id : l.self.id ≡ l.initial.self.id;
  view : l.self.view ≡ without_wids (take l.wid-index l.wids) l.initial.self.view;
}
