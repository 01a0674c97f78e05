use Rattle.document_laws.proofs.Lower as Law
use Rattle.document_laws.proofs.sent_lowers.Goals as goal

pub returns : goal.returns
returns g c = λ old new outs step kept. Law.sent_lowers g.K.Kit.rules old new outs step kept
