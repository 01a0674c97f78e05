use Rattle.document_laws.proofs.Lower as Law
use Rattle.document_laws.proofs.painted_lowers.Goals as goal

pub returns : goal.returns
returns g c =
    λ old new ticket job outs found kept step. Law.painted_lowers g.K.Kit.rules g.K.Kit.cut old new
    ticket job outs found kept step
