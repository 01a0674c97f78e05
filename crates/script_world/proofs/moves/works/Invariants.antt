use Rattle.std.proofs.Common.{◌≡◌, ◌+◌, ◌≤◌, cond, false, []}
use Rattle.script_world.specs.House.{document_of, IsHoused}
use Rattle.script_world.specs.Moved.{Came, left_of}
use Rattle.script_world.specs.World.{Moves, RestsNow}
use Rattle.script_world.proofs.moves.works.Given as goal

-- the turns so far worked and are written; where the last did nothing the document rests
abbrev pub invariant-turns : goal.invariant-turns
invariant-turns g l = record {
  came : Came (Moves g.K.Kit.rules g.K.Kit.cut) (record { waiting = []; house = record { seats = l.initial.seats; document = document_of l.initial.broker } }) (record { waiting = []; house = record { seats = l.seats; document = document_of l.broker } }) (g.T.Sink.written l.initial.sink) (g.T.Sink.written l.sink);
  none : l.waiting.items ≡ [];
  housed : IsHoused g.K.Kit.rules g.K.Kit.cut (record { seats = l.seats; document = document_of l.broker });
  faults : g.T.Sink.faults l.sink ≡ g.T.Sink.faults l.initial.sink;
  rests : l.busy ≡ false → RestsNow g.K.Kit.rules (document_of l.broker);
  less : left_of g.K.Kit.rules (document_of l.broker) ≤ left_of g.K.Kit.rules (document_of l.initial.broker);
}

abbrev pub decreases-turns : goal.decreases-turns
decreases-turns g l = left_of g.K.Kit.rules (document_of l.broker) + cond l.busy 1 0
