use Rattle.part_calc.proofs.ShownLaws.{text_none}
use Rattle.part_calc.proofs.shown.cell_text.Goals as goal

pub returns-in-None : goal.returns-in-None
returns-in-None c = text_none c.args.cell c.args.found c.in-None.is
