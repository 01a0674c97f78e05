use Rattle.document_laws.proofs.Rising as Law
use Rattle.document_laws.proofs.screens_never_step_back.Goals as goal

pub returns : goal.returns
returns g c =
    λ old new event outs whole step. Law.steps_rise g.K.Kit.rules g.K.Kit.cut old new event outs
    whole step
