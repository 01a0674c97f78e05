use Rattle.calc_base.proofs.ValueLaws.{found_follows}
use Rattle.calc_base.proofs.found_cells_have_their_values.Goals as goal

pub returns : goal.returns
returns g c = λ error reads formulas step covers local seen sound. found_follows error reads formulas step covers local seen sound
