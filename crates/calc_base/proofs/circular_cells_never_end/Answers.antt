use Rattle.calc_base.proofs.WalkLaws.{circular_iff}
use Rattle.calc_base.proofs.circular_cells_never_end.Goals as goal

pub returns : goal.returns
returns g c = λ reads formulas covers. circular_iff reads formulas covers
