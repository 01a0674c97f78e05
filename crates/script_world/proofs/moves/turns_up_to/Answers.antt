use Rattle.std.proofs.Common.{◌∙◌, arith}
use Rattle.script_run.specs.Play.{Stopped}
use Rattle.script_world.specs.House.{document_of}
use Rattle.script_world.specs.Moved.{MadeFrom}
use Rattle.script_world.specs.World.{Moves}
use Rattle.script_world.proofs.Steps.{handed_on, made_stopped, made_further, made_some}
use Rattle.script_world.proofs.moves.turns_up_to.Goals as goal

pub returns-in_err-next-clause-stop : goal.returns-in_err-next-clause-stop
returns-in_err-next-clause-stop g c =
    handed_on c.from_residual.result c.in_err-next.field-0.0
    (λ stop. Stopped stop (MadeFrom (Moves g.K.Kit.rules g.K.Kit.cut) (record { waiting = c.args.waiting.now.items; house = record { seats = c.args.seats.now; document = document_of c.args.broker } })) (g.T.Sink.written c.args.sink.now) (g.T.Sink.written c.one_turn.new.sink))
    c.from_residual.ensures.1
    (made_stopped g.K.Kit.rules g.K.Kit.cut c.turns.made (record { waiting = c.args.waiting.now.items; house = record { seats = c.args.seats.now; document = document_of c.args.broker } }) (record { waiting = c.turns.waiting.items; house = record { seats = c.turns.seats; document = document_of c.turns.broker } })
    (g.T.Sink.written c.args.sink.now) (g.T.Sink.written c.turns.sink) (g.T.Sink.written c.one_turn.new.sink) c.in_err-next.field-0.0
    c.turns.invariant.made c.in_err-next.ensures.stop)

pub returns-then-not-worked-clause-ok : goal.returns-then-not-worked-clause-ok
returns-then-not-worked-clause-ok g c =
    made_some g.K.Kit.rules g.K.Kit.cut c.turns.made c.args.count (record { waiting = c.args.waiting.now.items; house = record { seats = c.args.seats.now; document = document_of c.args.broker } }) c.turns.waiting.items (record { seats = c.turns.seats; document = document_of c.turns.broker }) c.in_ok-next.worked c.one_turn.new.waiting.items (record { seats = c.one_turn.new.seats; document = document_of c.in_ok-next.next })
    (g.T.Sink.written c.args.sink.now) (g.T.Sink.written c.turns.sink) (g.T.Sink.written c.one_turn.new.sink) (omega arith) c.if-not-worked.true c.turns.invariant.made c.in_ok-next.ensures.ok

pub turns-preserved : goal.turns-preserved
turns-preserved g c = record {
  made = made_further g.K.Kit.rules g.K.Kit.cut c.turns.made (record { waiting = c.args.waiting.now.items; house = record { seats = c.args.seats.now; document = document_of c.args.broker } }) c.turns.waiting.items (record { seats = c.turns.seats; document = document_of c.turns.broker }) c.in_ok-next.worked c.one_turn.new.waiting.items (record { seats = c.one_turn.new.seats; document = document_of c.in_ok-next.next })
      (g.T.Sink.written c.args.sink.now) (g.T.Sink.written c.turns.sink) (g.T.Sink.written c.one_turn.new.sink) c.if-not-worked.false c.turns.invariant.made c.in_ok-next.ensures.ok;
  housed = c.in_ok-next.ensures.housed;
  faults = c.in_ok-next.ensures.cause.kept (λ e. cc) ∙ c.turns.invariant.faults;
}
