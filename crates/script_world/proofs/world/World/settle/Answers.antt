use Rattle.script_run.specs.Play.{Stopped}
use Rattle.script_world.specs.House.{document_of}
use Rattle.script_world.specs.World.{Begun}
use Rattle.script_world.proofs.Steps.{handed_on}
use Rattle.script_world.proofs.Worlds.{settles, settle_stopped}
use Rattle.script_world.proofs.world.World.settle.Goals as goal

pub returns-in_err-self-inside-clause-stop : goal.returns-in_err-self-inside-clause-stop
returns-in_err-self-inside-clause-stop g c =
    handed_on c.from_residual-in_err-self-inside.result c.in_err-self-inside.field-0.0
    (λ stop. Stopped stop (Begun g.K.Kit.rules g.K.Kit.cut c.args.self.now) (g.T.Sink.written c.args.sink.now) (g.T.Sink.written c.comes_to_rest.new.sink))
    c.from_residual-in_err-self-inside.ensures.1
    (settle_stopped g.K.Kit.rules g.K.Kit.cut c.self.inside.waiting.items c.self.inside.seats c.take-broker.result c.self.inside.broker c.args.self.now (record { seats = c.all_events.new.seats; document = document_of c.in_ok-broker.broker })
    (g.T.Sink.written c.args.sink.now) (g.T.Sink.written c.all_events.new.sink) (g.T.Sink.written c.comes_to_rest.new.sink) c.in_err-self-inside.field-0.0
    c.take-broker.ensures.value c.self.view_is c.in_ok-broker.ensures.ok c.in_err-self-inside.ensures.stop)

pub returns-clause-ok : goal.returns-clause-ok
returns-clause-ok g c =
    settles g.K.Kit.rules g.K.Kit.cut c.self.inside.waiting.items c.comes_to_rest.new.waiting.items c.self.inside.seats c.take-broker.result c.self.inside.broker c.args.self.now
    (record { seats = c.all_events.new.seats; document = document_of c.in_ok-broker.broker }) (record { seats = c.comes_to_rest.new.seats; document = document_of c.in_ok-self-inside.field-0 })
    (g.T.Sink.written c.args.sink.now) (g.T.Sink.written c.all_events.new.sink) (g.T.Sink.written c.comes_to_rest.new.sink)
    c.take-broker.ensures.value c.self.view_is c.in_ok-self-inside.ensures.none_still c.in_ok-broker.ensures.ok c.in_ok-self-inside.ensures.ok c.in_ok-self-inside.ensures.rests
