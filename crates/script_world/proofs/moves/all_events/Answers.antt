use Rattle.std.proofs.Common.{◌∙◌}
use Rattle.script_run.specs.Play.{Stopped}
use Rattle.script_world.specs.House.{document_of}
use Rattle.script_world.specs.Moved.{MadeFrom, left_of}
use Rattle.script_world.specs.World.{Moves}
use Rattle.script_world.proofs.Chains.{stopped_later}
use Rattle.script_world.proofs.Steps.{handed_on, turn_more, acks_more}
use Rattle.script_world.proofs.moves.all_events.Goals as goal

pub returns-in_err-next-clause-stop : goal.returns-in_err-next-clause-stop
returns-in_err-next-clause-stop g c =
    handed_on c.from_residual.result c.in_err-next.field-0.0
    (λ stop. Stopped stop (MadeFrom (Moves g.K.Kit.rules g.K.Kit.cut) (record { waiting = c.args.waiting.now.items; house = record { seats = c.args.seats.now; document = document_of c.args.broker } })) (g.T.Sink.written c.args.sink.now) (g.T.Sink.written c.one_turn.new.sink))
    c.from_residual.ensures.1
    (stopped_later (Moves g.K.Kit.rules g.K.Kit.cut) (record { waiting = c.args.waiting.now.items; house = record { seats = c.args.seats.now; document = document_of c.args.broker } }) (record { waiting = c.events.waiting.items; house = record { seats = c.events.seats; document = document_of c.events.broker } })
    (g.T.Sink.written c.args.sink.now) (g.T.Sink.written c.events.sink) (g.T.Sink.written c.one_turn.new.sink) c.in_err-next.field-0.0
    c.events.invariant.came c.in_err-next.ensures.stop)

pub events-preserved : goal.events-preserved
events-preserved g c = record {
  came = turn_more g.K.Kit.rules g.K.Kit.cut (record { waiting = c.args.waiting.now.items; house = record { seats = c.args.seats.now; document = document_of c.args.broker } }) c.events.waiting.items (record { seats = c.events.seats; document = document_of c.events.broker }) c.in_ok-next.field-0-1 c.one_turn.new.waiting.items (record { seats = c.one_turn.new.seats; document = document_of c.in_ok-next.next })
      (g.T.Sink.written c.args.sink.now) (g.T.Sink.written c.events.sink) (g.T.Sink.written c.one_turn.new.sink) c.events.invariant.came c.in_ok-next.ensures.ok;
  housed = c.in_ok-next.ensures.housed;
  less = acks_more g.K.Kit.rules g.K.Kit.cut c.moves_keep.ensures.step c.args.waiting.now.items c.events.waiting.items (left_of g.K.Kit.rules (document_of c.args.broker)) (record { seats = c.events.seats; document = document_of c.events.broker }) c.in_ok-next.field-0-1 c.one_turn.new.waiting.items (record { seats = c.one_turn.new.seats; document = document_of c.in_ok-next.next })
      (g.T.Sink.written c.events.sink) (g.T.Sink.written c.one_turn.new.sink) c.events.invariant.housed c.events.invariant.less c.in_ok-next.ensures.ok;
  faults = c.in_ok-next.ensures.cause.kept (λ e. cc) ∙ c.events.invariant.faults;
}
