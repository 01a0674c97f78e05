use Rattle.document_laws.proofs.Acknowledged as Law
use Rattle.document_laws.proofs.acknowledging_adds_nothing.Goals as goal

pub returns : goal.returns
returns g c = λ d id wids. Law.acknowledging_adds_nothing g.K.Kit.rules d id wids
