use Rattle.std.proofs.Common.{List, ap, ◌∙◌}
use Rattle.formula_base.specs.Ranges.{Position}
use Rattle.part_calc.specs.Finding.{is_listed}
use Rattle.part_calc.proofs.ListLaws.{listed_insert}
use Rattle.part_calc.proofs.positions.add.Goals as goal

pub returns : goal.returns
returns c = λ p. ap (λ (keys : List Position). is_listed keys p) c.in_ok-insert.ensures.keys ∙ listed_insert c.args.set.now.keys c.args.position p
