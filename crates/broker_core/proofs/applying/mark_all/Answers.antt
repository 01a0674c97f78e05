use Rattle.std.proofs.lemmas.List.Edits.{map_over_more}
use Rattle.broker_core.specs.Serving.{marked_by}
use Rattle.broker_core.proofs.applying.mark_all.Goals as goal

pub loop-member-preserved : goal.loop-member-preserved
loop-member-preserved c =
    rw (c.mark.ensures, ← c.member-item.is) (map_over_more (marked_by c.args.damages.now) c.deref_mut-member-items.result.now c.loop-member.member-items c.loop-member.member-index c.member-item.result c.loop-member-test.true c.loop-member.invariant c.member-item.is)
