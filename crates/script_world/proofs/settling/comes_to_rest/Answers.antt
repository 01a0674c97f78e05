use Rattle.std.proofs.Common.{◌≡◌, ◌∙◌, ◌<◌, ◌++◌, [], ap, sym, refl, arith}
use Rattle.script_lines.specs.declared.output.Stop.TheVariants.{Memory as NoMemory}
use Rattle.script_run.specs.Play.{Stopped}
use Rattle.script_world.specs.House.{document_of, acknowledgements}
use Rattle.script_world.specs.Moved.{MadeFrom}
use Rattle.script_world.specs.World.{Moves}
use Rattle.script_world.proofs.Chains.{came_joined, stopped_later, stopped_here}
use Rattle.script_world.proofs.Rest.{acks_came, at_rest}
use Rattle.script_world.proofs.Steps.{handed_on, none_left, not_none, is_none}
use Rattle.script_world.proofs.settling.comes_to_rest.Goals as goal

pub returns-in_err-still-clause-stop : goal.returns-in_err-still-clause-stop
returns-in_err-still-clause-stop g c =
    handed_on c.from_residual.result c.in_err-still.field-0.0
    (λ stop. Stopped stop (MadeFrom (Moves g.K.Kit.rules g.K.Kit.cut) (record { waiting = []; house = record { seats = c.args.seats.now; document = document_of c.args.broker } })) (g.T.Sink.written c.args.sink.now) (g.T.Sink.written c.works.new.sink))
    c.from_residual.ensures.1
    (stopped_later (Moves g.K.Kit.rules g.K.Kit.cut) (record { waiting = []; house = record { seats = c.args.seats.now; document = document_of c.args.broker } }) (record { waiting = []; house = record { seats = c.passes.seats; document = document_of c.passes.broker } }) (g.T.Sink.written c.args.sink.now) (g.T.Sink.written c.passes.sink) (g.T.Sink.written c.works.new.sink) c.in_err-still.field-0.0
    c.passes.invariant.came c.in_err-still.ensures.stop)

pub returns-in_err-broker-clause-stop : goal.returns-in_err-broker-clause-stop
returns-in_err-broker-clause-stop g c =
    handed_on c.from_residual-in_err-broker.result c.in_err-broker.field-0.0
    (λ stop. Stopped stop (MadeFrom (Moves g.K.Kit.rules g.K.Kit.cut) (record { waiting = []; house = record { seats = c.args.seats.now; document = document_of c.args.broker } })) (g.T.Sink.written c.args.sink.now) (g.T.Sink.written c.acknowledged.new.sink))
    c.from_residual-in_err-broker.ensures.1
    (stopped_later (Moves g.K.Kit.rules g.K.Kit.cut) (record { waiting = []; house = record { seats = c.args.seats.now; document = document_of c.args.broker } }) (record { waiting = c.acknowledge_all.new.waiting.items; house = record { seats = c.works.new.seats; document = document_of c.in_ok-still.still } }) (g.T.Sink.written c.args.sink.now) (g.T.Sink.written c.works.new.sink) (g.T.Sink.written c.acknowledged.new.sink) c.in_err-broker.field-0.0
    (acks_came g.K.Kit.rules g.K.Kit.cut (record { waiting = []; house = record { seats = c.args.seats.now; document = document_of c.args.broker } }) (record { seats = c.works.new.seats; document = document_of c.in_ok-still.still }) c.acknowledge_all.new.waiting.items (g.T.Sink.written c.args.sink.now) (g.T.Sink.written c.passes.sink) (g.T.Sink.written c.works.new.sink) (record { seats = c.passes.seats; document = document_of c.passes.broker })
    c.passes.invariant.came c.in_ok-still.ensures.ok c.in_ok-still.ensures.rests (c.in_ok-acknowledge_all.ensures.ok ∙ ap (λ w. w ++ acknowledgements (record { seats = c.works.new.seats; document = document_of c.in_ok-still.still })) c.in_ok-still.ensures.none_still) (let some : 0 < c.acknowledge_all.new.waiting.len = not_none c.acknowledge_all.new.waiting.len c.is_empty.result c.is_empty.ensures c.if-is_empty.false in omega (arith, some)))
    c.in_err-broker.ensures.stop)

pub passes-preserved : goal.passes-preserved
passes-preserved g c = record {
  came = came_joined (Moves g.K.Kit.rules g.K.Kit.cut) (record { waiting = []; house = record { seats = c.args.seats.now; document = document_of c.args.broker } }) (record { waiting = c.acknowledge_all.new.waiting.items; house = record { seats = c.works.new.seats; document = document_of c.in_ok-still.still } }) (record { waiting = []; house = record { seats = c.acknowledged.new.seats; document = document_of c.in_ok-broker.broker } }) (g.T.Sink.written c.args.sink.now) (g.T.Sink.written c.works.new.sink) (g.T.Sink.written c.acknowledged.new.sink)
      (acks_came g.K.Kit.rules g.K.Kit.cut (record { waiting = []; house = record { seats = c.args.seats.now; document = document_of c.args.broker } }) (record { seats = c.works.new.seats; document = document_of c.in_ok-still.still }) c.acknowledge_all.new.waiting.items (g.T.Sink.written c.args.sink.now) (g.T.Sink.written c.passes.sink) (g.T.Sink.written c.works.new.sink) (record { seats = c.passes.seats; document = document_of c.passes.broker })
      c.passes.invariant.came c.in_ok-still.ensures.ok c.in_ok-still.ensures.rests (c.in_ok-acknowledge_all.ensures.ok ∙ ap (λ w. w ++ acknowledgements (record { seats = c.works.new.seats; document = document_of c.in_ok-still.still })) c.in_ok-still.ensures.none_still) (let some : 0 < c.acknowledge_all.new.waiting.len = not_none c.acknowledge_all.new.waiting.len c.is_empty.result c.is_empty.ensures c.if-is_empty.false in omega (arith, some))) c.in_ok-broker.ensures.ok;
  none = c.in_ok-broker.ensures.none;
  housed = c.in_ok-broker.ensures.housed_still;
  faults = c.in_ok-broker.ensures.cause.kept (λ e. cc) ∙ c.in_ok-still.ensures.cause.kept (λ e. cc) ∙ c.passes.invariant.faults;
}

pub returns-in_err-acknowledge_all-clause-stop : goal.returns-in_err-acknowledge_all-clause-stop
returns-in_err-acknowledge_all-clause-stop g c =
    handed_on c.from_residual-in_err-acknowledge_all.result NoMemory
    (λ stop. Stopped stop (MadeFrom (Moves g.K.Kit.rules g.K.Kit.cut) (record { waiting = []; house = record { seats = c.args.seats.now; document = document_of c.args.broker } })) (g.T.Sink.written c.args.sink.now) (g.T.Sink.written c.works.new.sink))
    c.from_residual-in_err-acknowledge_all.ensures.1
    (stopped_later (Moves g.K.Kit.rules g.K.Kit.cut) (record { waiting = []; house = record { seats = c.args.seats.now; document = document_of c.args.broker } }) (record { waiting = []; house = record { seats = c.works.new.seats; document = document_of c.in_ok-still.still } }) (g.T.Sink.written c.args.sink.now) (g.T.Sink.written c.works.new.sink) (g.T.Sink.written c.works.new.sink) NoMemory (came_joined (Moves g.K.Kit.rules g.K.Kit.cut) (record { waiting = []; house = record { seats = c.args.seats.now; document = document_of c.args.broker } }) (record { waiting = []; house = record { seats = c.passes.seats; document = document_of c.passes.broker } }) (record { waiting = []; house = record { seats = c.works.new.seats; document = document_of c.in_ok-still.still } }) (g.T.Sink.written c.args.sink.now) (g.T.Sink.written c.passes.sink) (g.T.Sink.written c.works.new.sink) c.passes.invariant.came c.in_ok-still.ensures.ok)
    (stopped_here (Moves g.K.Kit.rules g.K.Kit.cut) (record { waiting = []; house = record { seats = c.works.new.seats; document = document_of c.in_ok-still.still } }) (g.T.Sink.written c.works.new.sink) (g.T.Sink.written c.works.new.sink) NoMemory refl refl))

pub returns-then-is_empty-clause-ok : goal.returns-then-is_empty-clause-ok
returns-then-is_empty-clause-ok g c = (came_joined (Moves g.K.Kit.rules g.K.Kit.cut) (record { waiting = []; house = record { seats = c.args.seats.now; document = document_of c.args.broker } }) (record { waiting = []; house = record { seats = c.passes.seats; document = document_of c.passes.broker } }) (record { waiting = []; house = record { seats = c.works.new.seats; document = document_of c.in_ok-still.still } }) (g.T.Sink.written c.args.sink.now) (g.T.Sink.written c.passes.sink) (g.T.Sink.written c.works.new.sink) c.passes.invariant.came c.in_ok-still.ensures.ok)

pub returns-then-is_empty-clause-rests : goal.returns-then-is_empty-clause-rests
returns-then-is_empty-clause-rests g c =
    at_rest g.K.Kit.rules g.K.Kit.cut c.works.new.seats (document_of c.in_ok-still.still) (λ held quiet seated. c.quiet_is_right.ensures held.document seated.kept.document quiet) c.in_ok-still.ensures.housed_still c.in_ok-still.ensures.rests
    (sym (c.in_ok-acknowledge_all.ensures.ok ∙ ap (λ w. w ++ acknowledgements (record { seats = c.works.new.seats; document = document_of c.in_ok-still.still })) c.in_ok-still.ensures.none_still) ∙ none_left c.acknowledge_all.new.waiting.items (λ some. let none : c.acknowledge_all.new.waiting.len ≡ 0 = is_none c.acknowledge_all.new.waiting.len c.is_empty.result c.is_empty.ensures c.if-is_empty.true in omega (arith, none)))
