use Rattle.document_laws.proofs.Ending as Law
use Rattle.document_laws.proofs.turns_end.Goals as goal

pub returns : goal.returns
returns g c =
    λ turns old new outs run kept. Law.turns_end g.K.Kit.rules g.K.Kit.cut turns old new outs run
    kept
