use Rattle.document_laws.proofs.Numbered as Law
use Rattle.document_laws.proofs.tiles_are_numbered.Goals as goal

pub returns : goal.returns
returns g c =
    λ old new event outs whole step. Law.steps_numbered g.K.Kit.rules g.K.Kit.cut old new event outs
    whole step
