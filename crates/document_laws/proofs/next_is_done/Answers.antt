use Rattle.document_laws.proofs.Onward as Law
use Rattle.document_laws.proofs.next_is_done.Goals as goal

pub returns : goal.returns
returns g c = λ held is. Law.next_is_done g.K.Kit.rules g.K.Kit.cut held is
