use Rattle.http_wire.specs.Kinds.{responses}
use Rattle.http_laws.proofs.Fronts.{one_front, front_stays}
use Rattle.http_laws.proofs.HeadLaws.{response_laws}
use Rattle.http_laws.proofs.messages.responses_say_one_thing.Goals as goal

pub returns : goal.returns
returns c = record { one = one_front responses response_laws; stays = front_stays responses response_laws }
