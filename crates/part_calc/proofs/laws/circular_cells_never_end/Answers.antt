use Rattle.part_calc.proofs.PartLaws.{part_circular}
use Rattle.part_calc.proofs.laws.circular_cells_never_end.Goals as goal

pub returns : goal.returns
returns c = part_circular
