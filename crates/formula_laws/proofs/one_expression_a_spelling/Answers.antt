use Rattle.formula_laws.proofs.Readable as Readable
use Rattle.formula_laws.proofs.one_expression_a_spelling.Goals as goal

pub returns : goal.returns
returns c = λ raw one other a b. Readable.unique raw one other a b
