use Rattle.cell_damage.proofs.Points.{rects_few, cells_few}
use Rattle.cell_damage.proofs.laws.damage_is_of_few_rectangles.Goals as goal

pub returns-clause-rects : goal.returns-clause-rects
returns-clause-rects c = λ part rects. rects_few part rects

pub returns-clause-cells : goal.returns-clause-cells
returns-clause-cells c = λ part cells. cells_few part cells
