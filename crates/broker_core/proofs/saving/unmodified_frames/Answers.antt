use Rattle.broker_core.specs.Members.{views_of}
use Rattle.broker_core.proofs.Served.{same_there, unmodified_more}
use Rattle.broker_core.proofs.saving.unmodified_frames.Goals as goal

pub loop-id-preserved : goal.loop-id-preserved
loop-id-preserved c =
    unmodified_more (views_of c.args.members.now.items) c.args.number c.args.ids.now c.loop-id.id-index _ c.loop-id.frames c.tell_view.new.frames _ c.loop-id-test.true (same_there c.args.ids.now c.loop-id.id-index _ (record { 0 = 0 }) c.loop-id-test.true) c.in_ok-tell_view.ensures c.loop-id.invariant
