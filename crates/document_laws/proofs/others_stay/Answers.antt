use Rattle.document_laws.proofs.Acknowledged as Law
use Rattle.document_laws.proofs.others_stay.Goals as goal

pub returns : goal.returns
returns g c = λ d id other wids apart. Law.others_stay g.K.Kit.rules d id other wids apart
