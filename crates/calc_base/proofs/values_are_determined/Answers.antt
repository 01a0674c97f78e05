use Rattle.calc_base.proofs.ValueLaws.{value_only}
use Rattle.calc_base.proofs.values_are_determined.Goals as goal

pub returns : goal.returns
returns g c = λ error reads formulas step local v follows. value_only error reads formulas step local v follows
