use Rattle.std.proofs.Common.{None, ap, ◌∙◌}
use Rattle.part_calc.specs.Fates.{Fates, fate_in}
use Rattle.part_calc.proofs.PositionLaws.{lookup_insert}
use Rattle.part_calc.proofs.dependants.mark.Goals as goal

pub returns-clause-marked : goal.returns-clause-marked
returns-clause-marked c = λ q. ap (λ (es : Fates). fate_in es q) c.in_ok-before.ensures.entries ∙ lookup_insert c.args.fresh.now.entries c.args.position None q
