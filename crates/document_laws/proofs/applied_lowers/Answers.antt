use Rattle.document_laws.proofs.Lower as Law
use Rattle.document_laws.proofs.applied_lowers.Goals as goal

pub returns : goal.returns
returns g c = λ old new outs step few. Law.applied_lowers g.K.Kit.rules old new outs step few
