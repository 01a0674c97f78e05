use Rattle.document_laws.proofs.Idle as Law
use Rattle.document_laws.proofs.due_is_under_way.Goals as goal

pub returns : goal.returns
returns g c = λ kept d. Law.due_is_under_way g.K.Kit.rules kept d
