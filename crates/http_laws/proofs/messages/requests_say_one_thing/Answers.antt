use Rattle.http_wire.specs.Kinds.{requests}
use Rattle.http_laws.proofs.Fronts.{one_front, front_stays}
use Rattle.http_laws.proofs.HeadLaws.{request_laws}
use Rattle.http_laws.proofs.messages.requests_say_one_thing.Goals as goal

pub returns : goal.returns
returns c = record { one = one_front requests request_laws; stays = front_stays requests request_laws }
