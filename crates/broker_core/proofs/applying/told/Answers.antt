use Rattle.broker_core.proofs.Steps.{told_more}
use Rattle.broker_core.proofs.applying.told.Goals as goal

pub loop-member-preserved : goal.loop-member-preserved
loop-member-preserved c =
    told_more c.args.members.now c.loop-member.member-index c.member-item.result c.args.damages.now c.loop-member.frames c.tell.new.frames _
    c.loop-member-test.true c.member-item.is c.in_ok-tell.ensures c.loop-member.invariant
