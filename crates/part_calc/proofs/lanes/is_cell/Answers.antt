use Rattle.std.proofs.Common.{◌∙◌}
use Rattle.part_calc.proofs.PositionLaws.{at_parts}
use Rattle.part_calc.proofs.lanes.is_cell.Goals as goal

pub returns : goal.returns
returns c = c.eq.ensures ∙ at_parts c.args.cell c.args.other
