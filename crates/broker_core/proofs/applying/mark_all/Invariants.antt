use Rattle.std.proofs.Common.{◌≡◌, ◌++◌, map, take, drop}
use Rattle.broker_core.specs.Serving.{marked_by}
use Rattle.broker_core.proofs.applying.mark_all.Given as goal

abbrev pub invariant-loop-member : goal.invariant-loop-member
invariant-loop-member l =
    l.member-items ≡ map (marked_by l.damages) (take l.member-index l.initial.member-items) ++ drop l.member-index l.initial.member-items
