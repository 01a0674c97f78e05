use Rattle.std.proofs.Common.{◌<◌, ◌≤◌, [], arith}
use Rattle.script_run.specs.Play.{Stopped}
use Rattle.script_world.specs.House.{document_of}
use Rattle.script_world.specs.Moved.{Came, MadeFrom, AllAcknowledge, left_of}
use Rattle.script_world.specs.World.{Moves}
use Rattle.script_world.proofs.Chains.{came_joined, stopped_later}
use Rattle.script_world.proofs.Rest.{first_turn}
use Rattle.script_world.proofs.Steps.{turn_came, on_ok, on_err}
use Rattle.script_world.proofs.settling.acknowledged.Goals as goal

pub returns-clause-ok : goal.returns-clause-ok
returns-clause-ok g c =
    on_ok c.all_events.result
    (λ new. Came (Moves g.K.Kit.rules g.K.Kit.cut) (record { waiting = c.one_turn.new.waiting.items; house = record { seats = c.one_turn.new.seats; document = document_of c.in_ok-next.next } }) (record { waiting = []; house = record { seats = c.all_events.new.seats; document = document_of new } }) (g.T.Sink.written c.one_turn.new.sink) (g.T.Sink.written c.all_events.new.sink))
    (λ new. Came (Moves g.K.Kit.rules g.K.Kit.cut) (record { waiting = c.args.waiting.now.items; house = record { seats = c.args.seats.now; document = document_of c.args.broker } }) (record { waiting = []; house = record { seats = c.all_events.new.seats; document = document_of new } }) (g.T.Sink.written c.args.sink.now) (g.T.Sink.written c.all_events.new.sink))
    (λ new later. came_joined (Moves g.K.Kit.rules g.K.Kit.cut) (record { waiting = c.args.waiting.now.items; house = record { seats = c.args.seats.now; document = document_of c.args.broker } }) (record { waiting = c.one_turn.new.waiting.items; house = record { seats = c.one_turn.new.seats; document = document_of c.in_ok-next.next } }) (record { waiting = []; house = record { seats = c.all_events.new.seats; document = document_of new } }) (g.T.Sink.written c.args.sink.now) (g.T.Sink.written c.one_turn.new.sink) (g.T.Sink.written c.all_events.new.sink)
    (turn_came g.K.Kit.rules g.K.Kit.cut c.args.waiting.now.items (record { seats = c.args.seats.now; document = document_of c.args.broker }) c.in_ok-next.field-0-1 c.one_turn.new.waiting.items (record { seats = c.one_turn.new.seats; document = document_of c.in_ok-next.next }) (g.T.Sink.written c.args.sink.now) (g.T.Sink.written c.one_turn.new.sink) c.in_ok-next.ensures.ok) later)
    c.all_events.ensures.ok

pub returns-clause-less : goal.returns-clause-less
returns-clause-less g c =
    let first = first_turn g.K.Kit.rules g.K.Kit.cut c.moves_keep.ensures.step c.args.waiting.now.items (record { seats = c.args.seats.now; document = document_of c.args.broker }) c.in_ok-next.field-0-1 c.one_turn.new.waiting.items (record { seats = c.one_turn.new.seats; document = document_of c.in_ok-next.next }) (g.T.Sink.written c.args.sink.now) (g.T.Sink.written c.one_turn.new.sink)
    c.requires.housed c.requires.are c.requires.some c.requires.small c.requires.sorted c.in_ok-next.ensures.ok in
    on_ok c.all_events.result
    (λ new. AllAcknowledge c.one_turn.new.waiting.items → left_of g.K.Kit.rules (document_of new) ≤ left_of g.K.Kit.rules (document_of c.in_ok-next.next))
    (λ new. left_of g.K.Kit.rules (document_of new) < left_of g.K.Kit.rules (document_of c.args.broker))
    (λ new later. omega (arith, first.1, later first.0))
    c.all_events.ensures.less

pub returns-clause-stop : goal.returns-clause-stop
returns-clause-stop g c =
    on_err c.all_events.result
    (λ stop. Stopped stop (MadeFrom (Moves g.K.Kit.rules g.K.Kit.cut) (record { waiting = c.one_turn.new.waiting.items; house = record { seats = c.one_turn.new.seats; document = document_of c.in_ok-next.next } })) (g.T.Sink.written c.one_turn.new.sink) (g.T.Sink.written c.all_events.new.sink))
    (λ stop. Stopped stop (MadeFrom (Moves g.K.Kit.rules g.K.Kit.cut) (record { waiting = c.args.waiting.now.items; house = record { seats = c.args.seats.now; document = document_of c.args.broker } })) (g.T.Sink.written c.args.sink.now) (g.T.Sink.written c.all_events.new.sink))
    (λ stop later. stopped_later (Moves g.K.Kit.rules g.K.Kit.cut) (record { waiting = c.args.waiting.now.items; house = record { seats = c.args.seats.now; document = document_of c.args.broker } }) (record { waiting = c.one_turn.new.waiting.items; house = record { seats = c.one_turn.new.seats; document = document_of c.in_ok-next.next } }) (g.T.Sink.written c.args.sink.now) (g.T.Sink.written c.one_turn.new.sink) (g.T.Sink.written c.all_events.new.sink) stop
    (turn_came g.K.Kit.rules g.K.Kit.cut c.args.waiting.now.items (record { seats = c.args.seats.now; document = document_of c.args.broker }) c.in_ok-next.field-0-1 c.one_turn.new.waiting.items (record { seats = c.one_turn.new.seats; document = document_of c.in_ok-next.next }) (g.T.Sink.written c.args.sink.now) (g.T.Sink.written c.one_turn.new.sink) c.in_ok-next.ensures.ok) later)
    c.all_events.ensures.stop
