use Rattle.std.proofs.Common.{[], ◌∙◌, arith}
use Rattle.script_run.specs.Play.{Stopped}
use Rattle.script_world.specs.House.{document_of}
use Rattle.script_world.specs.Moved.{MadeFrom}
use Rattle.script_world.specs.World.{Moves}
use Rattle.script_world.proofs.Steps.{handed_on, bare_more, bare_left, bare_stopped, idle_rests, falls_busy}
use Rattle.script_world.proofs.moves.works.Goals as goal

pub returns-in_err-next-clause-stop : goal.returns-in_err-next-clause-stop
returns-in_err-next-clause-stop g c =
    handed_on c.from_residual.result c.in_err-next.field-0.0
    (λ stop. Stopped stop (MadeFrom (Moves g.K.Kit.rules g.K.Kit.cut) (record { waiting = []; house = record { seats = c.args.seats.now; document = document_of c.args.broker } })) (g.T.Sink.written c.args.sink.now) (g.T.Sink.written c.one_turn.new.sink))
    c.from_residual.ensures.1
    (bare_stopped g.K.Kit.rules g.K.Kit.cut (record { waiting = []; house = record { seats = c.args.seats.now; document = document_of c.args.broker } }) c.turns.waiting.items (record { seats = c.turns.seats; document = document_of c.turns.broker })
    (g.T.Sink.written c.args.sink.now) (g.T.Sink.written c.turns.sink) (g.T.Sink.written c.one_turn.new.sink) c.in_err-next.field-0.0
    c.turns.invariant.none c.turns.invariant.came c.in_err-next.ensures.stop)

pub turns-smaller : goal.turns-smaller
turns-smaller g c =
    falls_busy c.turns.busy _ _ c.turns-test.true
    (bare_left g.K.Kit.rules g.K.Kit.cut c.turns.waiting.items (record { seats = c.turns.seats; document = document_of c.turns.broker }) c.in_ok-next.worked c.one_turn.new.waiting.items (record { seats = c.one_turn.new.seats; document = document_of c.in_ok-next.next })
    (g.T.Sink.written c.turns.sink) (g.T.Sink.written c.one_turn.new.sink) c.turns.invariant.none c.turns.invariant.housed c.in_ok-next.ensures.ok).1

pub turns-preserved : goal.turns-preserved
turns-preserved g c =
    let left = bare_left g.K.Kit.rules g.K.Kit.cut c.turns.waiting.items (record { seats = c.turns.seats; document = document_of c.turns.broker }) c.in_ok-next.worked c.one_turn.new.waiting.items (record { seats = c.one_turn.new.seats; document = document_of c.in_ok-next.next })
    (g.T.Sink.written c.turns.sink) (g.T.Sink.written c.one_turn.new.sink) c.turns.invariant.none c.turns.invariant.housed c.in_ok-next.ensures.ok in
    record {
      came = bare_more g.K.Kit.rules g.K.Kit.cut (record { waiting = []; house = record { seats = c.args.seats.now; document = document_of c.args.broker } }) c.turns.waiting.items (record { seats = c.turns.seats; document = document_of c.turns.broker }) c.in_ok-next.worked c.one_turn.new.waiting.items (record { seats = c.one_turn.new.seats; document = document_of c.in_ok-next.next })
          (g.T.Sink.written c.args.sink.now) (g.T.Sink.written c.turns.sink) (g.T.Sink.written c.one_turn.new.sink) c.turns.invariant.none left.0 c.turns.invariant.came c.in_ok-next.ensures.ok;
      none = left.0;
      housed = c.in_ok-next.ensures.housed;
      faults = c.in_ok-next.ensures.cause.kept (λ e. cc) ∙ c.turns.invariant.faults;
      rests = λ idle. (idle_rests g.K.Kit.rules g.K.Kit.cut c.turns.waiting.items (record { seats = c.turns.seats; document = document_of c.turns.broker }) c.in_ok-next.worked c.one_turn.new.waiting.items (record { seats = c.one_turn.new.seats; document = document_of c.in_ok-next.next })
          (g.T.Sink.written c.turns.sink) (g.T.Sink.written c.one_turn.new.sink) c.in_ok-next.ensures.ok idle).1;
      less = omega (arith, left.1, c.turns.invariant.less);
    }
