use Rattle.document_laws.proofs.Rank as Law
use Rattle.document_laws.proofs.work_lowers.Goals as goal

pub returns : goal.returns
returns g c =
    λ old new outs works kept. Law.work_lowers g.K.Kit.rules g.K.Kit.cut old new outs works kept
