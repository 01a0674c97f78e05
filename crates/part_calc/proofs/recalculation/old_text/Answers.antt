use Rattle.part_calc.proofs.ChangeLaws.{old_text_is}
use Rattle.part_calc.proofs.recalculation.old_text.Goals as goal

pub returns : goal.returns
returns c = old_text_is c.args.cells.now.entries c.args.kept.now.entries c.args.position c.get.result c.get-2.result c.cell_text.result.now c.requires c.get.ensures.value c.get-2.ensures.value c.cell_text.ensures
