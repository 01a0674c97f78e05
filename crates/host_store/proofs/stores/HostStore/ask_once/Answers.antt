use Rattle.host_store.proofs.Asked.{fails_once}
use Rattle.host_store.proofs.stores.HostStore.ask_once.Goals as goal

pub returns-then-self-gt0-clause-asked : goal.returns-then-self-gt0-clause-asked
returns-then-self-gt0-clause-asked c =
    fails_once _ _ _ _ _ _ c.if-self-gt0.true c.risen-self.ensures.later c.risen-self.ensures.rose
