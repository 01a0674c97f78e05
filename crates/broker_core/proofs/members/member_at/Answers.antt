-- Where the loop ends no view has the id.
use Rattle.std.proofs.Common.{◌≡◌, take, List, subst, arith}
use Rattle.std.proofs.lemmas.List.{take_all}
use Rattle.broker_core.specs.Places.{LacksView}
use Rattle.broker_core.specs.declared.members.Member.{Member}
use Rattle.broker_core.proofs.Places.{find_none}
use Rattle.broker_core.proofs.members.member_at.Goals as goal

pub returns-clause-none : goal.returns-clause-none
returns-clause-none c = λ _.
    let members : List Member = c.args.members.now.items in
    let all : take c.loop-i.i members ≡ members = take_all c.loop-i.i members (omega (arith, c.loop-i-test.false)) in
    find_none c.args.id members (subst (LacksView c.args.id) all c.loop-i.invariant)
