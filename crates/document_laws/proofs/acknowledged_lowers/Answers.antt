use Rattle.document_laws.proofs.Acknowledged as Law
use Rattle.document_laws.proofs.acknowledged_lowers.Goals as goal

pub returns : goal.returns
returns g c = λ d id view live some. Law.acknowledged_lowers g.K.Kit.rules d id view live some
