use Rattle.std.specs.List.{list_any}
use Rattle.part_calc.specs.Lanes.{is_block, has_span}
use Rattle.std.proofs.lemmas.Bool.{or_right}
use Rattle.part_calc.proofs.KnowLaws.{on_ok, push_added}
use Rattle.part_calc.proofs.lanes.add_block.Goals as goal

pub returns-clause-added : goal.returns-clause-added
returns-clause-added c =
    on_ok _ _ c.push.result
    (λ put b same.
    or_right (list_any (is_block b) c.args.present.now) (has_span c.push.new.index.entries b c.args.reader)
    (push_added c.args.index.now.entries c.push.new.index.entries c.args.block c.args.reader c.lane_of.result c.lane_of.ensures put b same))
    c.push.ensures.ok
