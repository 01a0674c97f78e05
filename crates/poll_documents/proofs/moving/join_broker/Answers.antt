use Rattle.poll_documents.proofs.Joining.{room_found}
use Rattle.poll_documents.proofs.moving.join_broker.Goals as goal

pub returns-in-Ok-clause-room : goal.returns-in-Ok-clause-room
returns-in-Ok-clause-room g c =
    (room_found g.K.Kit.rules g.K.Kit.cut c.args.rights c.in-Ok.joined.1 c.in-Ok.joined.0.0
    c.args.broker.now c.join.new.self c.in-Ok.ensures.step c.in-Ok.ensures.view).0

pub returns-in-Ok-clause-next : goal.returns-in-Ok-clause-next
returns-in-Ok-clause-next g c =
    (room_found g.K.Kit.rules g.K.Kit.cut c.args.rights c.in-Ok.joined.1 c.in-Ok.joined.0.0
    c.args.broker.now c.join.new.self c.in-Ok.ensures.step c.in-Ok.ensures.view).1
