use Rattle.std.proofs.Common.{◌≡◌, ◌≤◌, length}
use Rattle.script_world.specs.House.{document_of, IsHoused}
use Rattle.script_world.specs.Moved.{Came, AllAcknowledge, left_of}
use Rattle.script_world.specs.World.{Moves}
use Rattle.script_world.proofs.moves.all_events.Given as goal

-- the events that are gone are done and written
abbrev pub invariant-events : goal.invariant-events
invariant-events g l = record {
  came : Came (Moves g.K.Kit.rules g.K.Kit.cut) (record { waiting = l.initial.waiting.items; house = record { seats = l.initial.seats; document = document_of l.initial.broker } }) (record { waiting = l.waiting.items; house = record { seats = l.seats; document = document_of l.broker } }) (g.T.Sink.written l.initial.sink) (g.T.Sink.written l.sink);
  housed : IsHoused g.K.Kit.rules g.K.Kit.cut (record { seats = l.seats; document = document_of l.broker });
  less : AllAcknowledge l.initial.waiting.items → AllAcknowledge l.waiting.items × (left_of g.K.Kit.rules (document_of l.broker) ≤ left_of g.K.Kit.rules (document_of l.initial.broker));
  faults : g.T.Sink.faults l.sink ≡ g.T.Sink.faults l.initial.sink;
}

abbrev pub decreases-events : goal.decreases-events
decreases-events g l = length l.waiting.items
