use Rattle.calc_base.proofs.ValueLaws.{lost_circular}
use Rattle.calc_base.proofs.lost_cells_are_circular.Goals as goal

pub returns : goal.returns
returns g c = λ reads formulas seen waits. lost_circular reads formulas seen waits
