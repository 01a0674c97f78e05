use Rattle.cell_damage.proofs.Points.{had_damaged, cell_damaged}
use Rattle.cell_damage.proofs.laws.damage_has_its_points.Goals as goal

pub returns-clause-rects : goal.returns-clause-rects
returns-clause-rects c = λ part x y rects e. had_damaged part x y rects e

pub returns-clause-cells : goal.returns-clause-cells
returns-clause-cells c = λ part x y cells has. cell_damaged part x y cells has
