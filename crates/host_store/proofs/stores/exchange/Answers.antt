use Rattle.host_store.proofs.Asked.{lost_first}
use Rattle.host_store.proofs.stores.exchange.Goals as goal

pub returns-in-Err : goal.returns-in-Err
returns-in-Err c = lost_first _ _ _ _ c.in-Err.ensures.lost
