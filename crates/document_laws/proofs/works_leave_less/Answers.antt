use Rattle.document_laws.proofs.Lower as Law
use Rattle.document_laws.proofs.works_leave_less.Goals as goal

pub returns : goal.returns
returns g c =
    λ old new outs works kept. Law.works_leave_less g.K.Kit.rules g.K.Kit.cut old new outs works
    kept
