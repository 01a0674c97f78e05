use Rattle.std.proofs.Common.{[], refl, Ok, rules}
use Rattle.host_store.specs.Exchanges.{host_name}
use Rattle.host_store.proofs.Carried.{front_of}
use Rattle.host_store.proofs.carry.receive_request.Goals as goal

pub returns-in-Ok-clause-carried : goal.returns-in-Ok-clause-carried
returns-in-Ok-clause-carried c =
    let says = c.in-Ok.ensures.says in
    c.client_requests_are_within.ensures.answered host_name c.args.ask.now [] c.args.wire.now.talk
    c.read_request-answer.new.wire.talk (Ok c.in-Ok.request)
    refl (search rules) c.ask_is_sound.ensures
    (front_of _ says.0 says.1 _ _ c.requires c.is_loop-2.ensures.front says.2) says
