use Rattle.calc_base.proofs.EditLaws.{circular_kept, value_kept}
use Rattle.calc_base.proofs.kept_cells_keep_their_values.Goals as goal

pub returns-clause-circular : goal.returns-clause-circular
returns-clause-circular g c = λ reads reads' formulas formulas' step step' kept covers covers' apart. circular_kept reads reads' formulas formulas' step step' kept covers covers' apart

pub returns-clause-values : goal.returns-clause-values
returns-clause-values g c = λ error reads reads' formulas formulas' step step' kept covers covers' local local' apart. value_kept error reads reads' formulas formulas' step step' kept covers covers' local local' apart
