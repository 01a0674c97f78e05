use Rattle.document_laws.proofs.Tiles as Law
use Rattle.document_laws.proofs.inputs_go_on.Goals as goal

pub returns : goal.returns
returns g c =
    λ events old new outs run. Law.run_on g.K.Kit.rules g.K.Kit.cut events old new outs run
