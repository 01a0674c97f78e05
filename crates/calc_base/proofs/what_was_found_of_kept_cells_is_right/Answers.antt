use Rattle.calc_base.proofs.EditLaws.{sound_kept}
use Rattle.calc_base.proofs.what_was_found_of_kept_cells_is_right.Goals as goal

pub returns : goal.returns
returns g c = λ error reads reads' formulas formulas' step step' kept covers covers' local local' apart seen sound. sound_kept error reads reads' formulas formulas' step step' kept covers covers' local local' apart seen sound
