use Rattle.part_calc.proofs.DependantLaws.{circular_apart, value_apart, shown_apart}
use Rattle.part_calc.proofs.laws.other_cells_stay.Goals as goal

pub returns-clause-circular : goal.returns-clause-circular
returns-clause-circular c = circular_apart

pub returns-clause-value : goal.returns-clause-value
returns-clause-value c = value_apart

pub returns-clause-shown : goal.returns-clause-shown
returns-clause-shown c = shown_apart
