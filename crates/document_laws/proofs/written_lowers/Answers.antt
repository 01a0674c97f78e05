use Rattle.document_laws.proofs.Acknowledged as Law
use Rattle.document_laws.proofs.written_lowers.Goals as goal

pub returns : goal.returns
returns g c =
    λ d new id view outs kept live some small says. Law.written_lowers g.K.Kit.rules d id view outs
    new kept live some small says
