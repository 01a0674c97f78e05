use Rattle.std.proofs.Common.{◌≡◌, drop}
use Rattle.std.specs.List.{list_all}
use Rattle.broker_core.specs.Serving.{is_still}
use Rattle.broker_core.proofs.resting.are_still.Given as goal

abbrev pub invariant-loop-member : goal.invariant-loop-member
invariant-loop-member l = list_all (λ member. is_still member.view) l.members ≡ list_all (λ member. is_still member.view) (drop l.member-index l.members)
