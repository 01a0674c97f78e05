use Rattle.std.proofs.Common.{◌≡◌, true, false, rules}
use Rattle.poll_documents.proofs.Working.{no_room, room_found}
use Rattle.poll_documents.proofs.owned.OwnedDocument.offered.Goals as goal

-- there is no room to spare
pub returns-then-not-spare : goal.returns-then-not-spare
returns-then-not-spare g c = λ served moment owned net store clock.
    let none : c.spare.result ≡ false = search rules in
    no_room _ _ c.args.doc.0 moment owned c.args.work net (g.P.Port.view c.args.port.now)
    (g.P.Port.view c.spare.new.self) store clock (g.Y.Yard.took c.args.yard.now) c.spare.result none
    c.spare.ensures

-- the yard takes it, or gives it back
pub returns : goal.returns
returns g c = λ served moment owned net store clock.
    let some : c.spare.result ≡ true = search rules in
    room_found _ _ c.args.doc moment owned c.args.work net (g.P.Port.view c.args.port.now)
    (g.P.Port.view c.spare.new.self) store clock (g.Y.Yard.took c.args.yard.now)
    (g.Y.Yard.took c.offer.new.self) c.spare.result c.offer.result some c.spare.ensures
    c.offer.ensures.told
