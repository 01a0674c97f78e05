use Rattle.std.proofs.Common.{◌≡◌, ◌+◌, ◌≤◌}
use Rattle.script_run.proofs.Exits.{Reached}
use Rattle.script_run.proofs.program.run.Given as goal

-- the lines so far acted, and no fault was answered
abbrev pub invariant-loop-room : goal.invariant-loop-room
invariant-loop-room g l = record {
  reached : Reached g.P.Play.step (g.P.Play.state l.initial.player) (g.S.Source.left l.initial.source) (g.S.Source.left l.source) (g.T.Sink.written l.initial.sink) (g.T.Sink.written l.sink) (g.P.Play.state l.player) l.number l.room;
  reads : g.S.Source.faults l.source ≡ g.S.Source.faults l.initial.source;
  writes : g.T.Sink.faults l.sink ≡ g.T.Sink.faults l.initial.sink;
  small : l.number + l.room ≤ 1073741824;
}

abbrev pub decreases-loop-room : goal.decreases-loop-room
decreases-loop-room g l = l.room
