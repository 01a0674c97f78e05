use Rattle.std.proofs.Common.{◌≡◌}
use Rattle.script_world.specs.House.{document_of, IsHoused}
use Rattle.script_world.specs.Moved.{MadeTurns}
use Rattle.script_world.proofs.moves.turns_up_to.Given as goal

-- the turns so far worked and are written
abbrev pub invariant-turns : goal.invariant-turns
invariant-turns g l = record {
  made : MadeTurns g.K.Kit.rules g.K.Kit.cut l.made (record { waiting = l.initial.waiting.items; house = record { seats = l.initial.seats; document = document_of l.initial.broker } }) (record { waiting = l.waiting.items; house = record { seats = l.seats; document = document_of l.broker } }) (g.T.Sink.written l.initial.sink) (g.T.Sink.written l.sink);
  housed : IsHoused g.K.Kit.rules g.K.Kit.cut (record { seats = l.seats; document = document_of l.broker });
  faults : g.T.Sink.faults l.sink ≡ g.T.Sink.faults l.initial.sink;
}
