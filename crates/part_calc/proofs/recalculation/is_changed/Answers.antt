use Rattle.part_calc.proofs.ChangeLaws.{differs_is}
use Rattle.part_calc.proofs.recalculation.is_changed.Goals as goal

pub returns : goal.returns
returns c =
    differs_is c.args.cells.now.entries c.args.edited.now c.args.item.now c.old_text.result.now c.cell.result c.is_other_text.result
    c.requires.after c.old_text.ensures c.cell.ensures c.is_other_text.ensures
