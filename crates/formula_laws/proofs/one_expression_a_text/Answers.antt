use Rattle.formula_laws.proofs.Complete as Complete
use Rattle.formula_laws.proofs.one_expression_a_text.Goals as goal

pub returns : goal.returns
returns c = λ raw one other a b. Complete.unique raw one other a b
