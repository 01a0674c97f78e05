use Rattle.wopi_client.specs.declared.asks.Ask.TheVariants.{Lock, Put}
use Rattle.wopi_client.specs.declared.asks.Told.TheVariants.{Done}
use Rattle.wopi_client.specs.Stores.{done_told}
use Rattle.wopi_client.specs.Kept.{dial_of, host_of}
use Rattle.wopi_client.proofs.Talking.{then_two}
use Rattle.wopi_client.proofs.stores.WopiStore.lock_and_put.Goals as goal

pub returns-in-Ok-clause-asked : goal.returns-in-Ok-clause-asked
returns-in-Ok-clause-asked g c =
    let errand = c.args.errand.now in
    then_two (host_of c.args.self.now) (host_of c.lock.new.self) (Lock errand.file errand.token) (Put errand.file errand.token errand.content)
    (g.D.Dial.told (dial_of c.args.self.now)) (g.D.Dial.told (dial_of c.lock.new.self)) (g.D.Dial.told (dial_of c.put_file.new.self))
    Done (done_told c.put_file.result) c.lock.ensures.host c.in-Ok.ensures.asked c.put_file.ensures.asked
