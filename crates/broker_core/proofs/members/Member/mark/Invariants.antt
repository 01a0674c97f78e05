use Rattle.std.proofs.Common.{◌≡◌, drop}
use Rattle.broker_core.specs.Serving.{damaged_by}
use Rattle.broker_core.proofs.members.Member.mark.Given as goal

abbrev pub invariant-loop-damage : goal.invariant-loop-damage
invariant-loop-damage l = record {
  id : l.self.id ≡ l.initial.self.id;
  view : damaged_by l.damages l.initial.self.view ≡ damaged_by (drop l.damage-index l.damages) l.self.view;
}
