use Rattle.wopi_client.specs.declared.asks.Ask.TheVariants.{Lock, Get}
use Rattle.wopi_client.specs.declared.asks.Told.TheVariants.{Done}
use Rattle.wopi_client.specs.Stores.{content_told}
use Rattle.wopi_client.specs.Kept.{dial_of, host_of}
use Rattle.wopi_client.proofs.Talking.{then_two}
use Rattle.wopi_client.proofs.stores.WopiStore.lock_and_get.Goals as goal

pub returns-in-Ok-clause-asked : goal.returns-in-Ok-clause-asked
returns-in-Ok-clause-asked g c =
    then_two (host_of c.args.self.now) (host_of c.lock.new.self) (Lock c.args.file.now c.args.token.now) (Get c.args.file.now c.args.token.now)
    (g.D.Dial.told (dial_of c.args.self.now)) (g.D.Dial.told (dial_of c.lock.new.self)) (g.D.Dial.told (dial_of c.get_file.new.self))
    Done (content_told c.get_file.result) c.lock.ensures.host c.in-Ok.ensures.asked c.get_file.ensures.asked
