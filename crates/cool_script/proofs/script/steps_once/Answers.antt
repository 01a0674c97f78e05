use Rattle.cool_script.proofs.Once.{acting_once, acting_good}
use Rattle.cool_script.proofs.script.steps_once.Goals as goal

pub returns-clause-once : goal.returns-clause-once
returns-clause-once g c = acting_once g.K.Kit.rules g.K.Kit.cut c.turns_have_one_record.ensures.once c.settling_has_one_record.ensures.once

pub returns-clause-stays : goal.returns-clause-stays
returns-clause-stays g c = acting_good g.K.Kit.rules g.K.Kit.cut c.turns_have_one_record.ensures.housed c.settling_has_one_record.ensures.housed
