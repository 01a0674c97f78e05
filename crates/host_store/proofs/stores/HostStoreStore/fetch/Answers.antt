use Rattle.host_store.proofs.Asked.{fetch_not_asked}
use Rattle.host_store.proofs.stores.HostStoreStore.fetch.Goals as goal

pub returns-in_default-clause-asked : goal.returns-in_default-clause-asked
returns-in_default-clause-asked c = fetch_not_asked _ _ _ _
