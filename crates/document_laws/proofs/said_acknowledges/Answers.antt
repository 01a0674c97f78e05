use Rattle.document_laws.proofs.Acknowledged as Law
use Rattle.document_laws.proofs.said_acknowledges.Goals as goal

pub returns : goal.returns
returns g c =
    λ d new id wids text outs read says. Law.said_acknowledges g.K.Kit.rules d id wids text outs new
    read says
