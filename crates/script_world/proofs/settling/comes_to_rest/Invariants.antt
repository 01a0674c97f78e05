use Rattle.std.proofs.Common.{◌≡◌, []}
use Rattle.script_world.specs.House.{document_of, IsHoused}
use Rattle.script_world.specs.Moved.{Came, left_of}
use Rattle.script_world.specs.World.{Moves}
use Rattle.script_world.proofs.settling.comes_to_rest.Given as goal

-- what was done is written, and no event waits
abbrev pub invariant-passes : goal.invariant-passes
invariant-passes g l = record {
  came : Came (Moves g.K.Kit.rules g.K.Kit.cut) (record { waiting = []; house = record { seats = l.initial.seats; document = document_of l.initial.broker } }) (record { waiting = []; house = record { seats = l.seats; document = document_of l.broker } }) (g.T.Sink.written l.initial.sink) (g.T.Sink.written l.sink);
  none : l.waiting.items ≡ [];
  housed : IsHoused g.K.Kit.rules g.K.Kit.cut (record { seats = l.seats; document = document_of l.broker });
  faults : g.T.Sink.faults l.sink ≡ g.T.Sink.faults l.initial.sink;
}

abbrev pub decreases-passes : goal.decreases-passes
decreases-passes g l = left_of g.K.Kit.rules (document_of l.broker)
