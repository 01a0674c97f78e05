use Rattle.calc_base.proofs.ValueLaws.{value_follows}
use Rattle.calc_base.proofs.values_follow.Goals as goal

pub returns : goal.returns
returns g c = λ error reads formulas step local. value_follows error reads formulas step local
