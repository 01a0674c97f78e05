use Rattle.document_laws.proofs.Lower as Law
use Rattle.document_laws.proofs.served_lowers.Goals as goal

pub returns : goal.returns
returns g c = λ old new outs step. Law.served_lowers g.K.Kit.rules old new outs step
