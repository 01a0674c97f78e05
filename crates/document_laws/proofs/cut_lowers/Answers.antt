use Rattle.document_laws.proofs.Lower as Law
use Rattle.document_laws.proofs.cut_lowers.Goals as goal

pub returns : goal.returns
returns g c =
    λ old new outs step kept. Law.cut_lowers g.K.Kit.rules g.K.Kit.cut old new outs step kept
