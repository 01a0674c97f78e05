use Rattle.part_calc.specs.Parts.{is_circular}
use Rattle.part_calc.proofs.PartLaws.{part_follows}
use Rattle.part_calc.proofs.laws.values_follow.Goals as goal

pub returns : goal.returns
unfolding is_circular
returns c = part_follows
