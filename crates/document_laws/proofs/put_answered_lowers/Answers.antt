use Rattle.document_laws.proofs.Lower as Law
use Rattle.document_laws.proofs.put_answered_lowers.Goals as goal

pub returns : goal.returns
returns g c =
    λ old new ticket result put outs taken step. Law.put_answered_lowers g.K.Kit.rules g.K.Kit.cut
    old new ticket result put outs taken step
