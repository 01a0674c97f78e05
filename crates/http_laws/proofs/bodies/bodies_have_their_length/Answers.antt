use Rattle.http_laws.proofs.Counts.{by_length, to_the_end}
use Rattle.http_laws.proofs.bodies.bodies_have_their_length.Goals as goal

pub returns : goal.returns
returns c = record { by_length = by_length; to_the_end = to_the_end }
