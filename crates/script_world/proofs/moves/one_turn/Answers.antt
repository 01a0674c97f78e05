use Rattle.script_run.specs.Play.{Stopped}
use Rattle.script_world.specs.House.{document_of}
use Rattle.script_world.specs.Moved.{MadeFrom}
use Rattle.script_world.specs.World.{Moves}
use Rattle.script_world.proofs.Housed.{poll_housed}
use Rattle.script_world.proofs.Steps.{handed_on, turn_cut}
use Rattle.script_world.proofs.moves.one_turn.Goals as goal

pub returns-in_err-write_whole-clause-stop : goal.returns-in_err-write_whole-clause-stop
returns-in_err-write_whole-clause-stop g c =
    handed_on c.from_residual-in_err-write_whole.result c.in_err-write_whole.field-0.0
    (λ stop. Stopped stop (MadeFrom (Moves g.K.Kit.rules g.K.Kit.cut) (record { waiting = c.args.waiting.now.items; house = record { seats = c.args.seats.now; document = document_of c.args.broker } })) (g.T.Sink.written c.args.sink.now) (g.T.Sink.written c.write_whole.new.sink))
    c.from_residual-in_err-write_whole.ensures.1
    (turn_cut g.K.Kit.rules g.K.Kit.cut c.args.waiting.now.items (record { seats = c.args.seats.now; document = document_of c.args.broker }) c.in_ok-turned.turned.bytes.items c.in_ok-turned.turned.worked c.poll_turn.new.waiting.items
    (record { seats = c.poll_turn.new.seats; document = document_of c.in_ok-turned.turned.broker }) c.deref.result.now
    (g.T.Sink.written c.args.sink.now) (g.T.Sink.written c.write_whole.new.sink) c.in_err-write_whole.field-0.0
    c.in_ok-turned.ensures c.deref.ensures.value c.in_err-write_whole.ensures.stop c.in_err-write_whole.ensures.err)

pub returns-clause-housed : goal.returns-clause-housed
returns-clause-housed g c =
    poll_housed g.K.Kit.rules g.K.Kit.cut c.moves_keep.ensures.step c.args.waiting.now.items (record { seats = c.args.seats.now; document = document_of c.args.broker }) c.in_ok-turned.turned.bytes.items c.in_ok-turned.turned.worked c.poll_turn.new.waiting.items
    (record { seats = c.poll_turn.new.seats; document = document_of c.in_ok-turned.turned.broker }) c.requires c.in_ok-turned.ensures
