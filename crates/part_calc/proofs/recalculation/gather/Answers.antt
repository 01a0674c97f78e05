use Rattle.std.specs.Vec.Iter.{into_iter_items}
use Rattle.part_calc.proofs.FoundLaws.{gather_more}
use Rattle.part_calc.proofs.recalculation.gather.Goals as goal

pub loop-position-preserved-in_ok-insert : goal.loop-position-preserved-in_ok-insert
loop-position-preserved-in_ok-insert c =
    gather_more c.args.fates.items c.loop-position.kept.entries c.insert.new.self.entries (into_iter_items c.loop-position.position-iterator) (c.in-Some.position, c.in-Some.fate) (into_iter_items c.next.new.self)
    c.loop-position.invariant c.in-Some.ensures.steps.0 c.in_ok-insert.ensures.entries

pub loop-position-preserved : goal.loop-position-preserved
loop-position-preserved c =
    gather_more c.args.fates.items c.loop-position.kept.entries c.insert.new.self.entries (into_iter_items c.loop-position.position-iterator) (c.in-Some.position, c.in-Some.fate) (into_iter_items c.next.new.self)
    c.loop-position.invariant c.in-Some.ensures.steps.0 c.in_ok-insert.ensures.entries
