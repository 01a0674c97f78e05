use Rattle.http_laws.proofs.Finals.{body_stays}
use Rattle.http_laws.proofs.bodies.bodies_stay.Goals as goal

pub returns : goal.returns
returns c = body_stays
