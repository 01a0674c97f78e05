use Rattle.formula_laws.proofs.Sound as Sound
use Rattle.formula_laws.proofs.Complete as Complete
use Rattle.formula_laws.proofs.formulas_are_those_of_the_grammar.Goals as goal

pub returns-clause-sound : goal.returns-clause-sound
returns-clause-sound c = λ raw expression read. Sound.sound raw expression read

pub returns-clause-complete : goal.returns-clause-complete
returns-clause-complete c = λ raw expression says. Complete.complete raw expression says
