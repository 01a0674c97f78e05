use Rattle.host_store.proofs.Carried.{read_of}
use Rattle.host_store.proofs.carry.receive_response.Goals as goal

pub returns-in-Ok-clause-carried : goal.returns-in-Ok-clause-carried
returns-in-Ok-clause-carried c = read_of _ _ _ _ c.requires c.is_loop.ensures.front
    c.in-Ok.ensures.says
