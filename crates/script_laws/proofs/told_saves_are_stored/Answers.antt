use Rattle.script_laws.proofs.Saves as Law
use Rattle.script_laws.proofs.told_saves_are_stored.Goals as goal

pub returns : goal.returns
returns g c = λ out seats held played. Law.run_earned g.K.Kit.rules g.K.Kit.cut c.saves_are_stored.ensures.run _ held played.run
