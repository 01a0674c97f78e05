use Rattle.calc_base.proofs.EditLaws.{full_at_end}
use Rattle.calc_base.proofs.cells_left_are_circular.Goals as goal

pub returns : goal.returns
returns g c = λ error reads formulas step covers seen sound waits. full_at_end error reads formulas step covers seen sound waits
