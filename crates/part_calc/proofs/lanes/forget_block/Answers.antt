use Rattle.std.proofs.Common.{sym, ◌∙◌}
use Rattle.part_calc.proofs.KnowLaws.{cleared_stays}
use Rattle.part_calc.proofs.lanes.forget_block.Goals as goal

pub returns : goal.returns
returns c =
    cleared_stays c.args.index.now.entries c.clear.new.index.entries c.args.block c.args.reader c.lane_of.result c.args.staying.now c.lane_of.ensures (sym c.is_among.ensures ∙ c.if-is_among.false) c.clear.ensures
