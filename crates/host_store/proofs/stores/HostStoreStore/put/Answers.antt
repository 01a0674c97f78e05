use Rattle.host_store.proofs.Asked.{put_not_asked}
use Rattle.host_store.proofs.stores.HostStoreStore.put.Goals as goal

pub returns-in_default-clause-asked : goal.returns-in_default-clause-asked
returns-in_default-clause-asked c = put_not_asked _ c.args.errand.now
