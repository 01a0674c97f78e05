use Rattle.std.specs.Vec.Iter.{into_iter_items}
use Rattle.part_calc.proofs.FoundLaws.{put_more}
use Rattle.part_calc.proofs.keeping.commit.Goals as goal

pub loop-position-preserved : goal.loop-position-preserved
loop-position-preserved c =
    put_more c.args.kept.now.entries c.args.fates.items c.loop-position.kept.entries c.put_fate.new.kept.entries (into_iter_items c.loop-position.position-iterator) (c.in-Some.position, c.in-Some.fate) (into_iter_items c.next.new.self)
    c.loop-position.invariant c.in-Some.ensures.steps.0 c.put_fate.ensures
