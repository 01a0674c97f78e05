use Rattle.std.proofs.Common.{◌≡◌, ◌-◌, ◌≤◌, length, take}
use Rattle.outside.specs.Streams.{Adds}
use Rattle.script_lines.proofs.output.write_whole.Given as goal

-- the bytes before `done` are written
abbrev pub invariant-loop-done : goal.invariant-loop-done
invariant-loop-done g l = record {
  within : l.done ≤ length l.bytes;
  added : Adds (g.T.Sink.written l.initial.sink) (take l.done l.bytes) (g.T.Sink.written l.sink);
  faults : g.T.Sink.faults l.sink ≡ g.T.Sink.faults l.initial.sink;
}

abbrev pub decreases-loop-done : goal.decreases-loop-done
decreases-loop-done g l = length l.bytes - l.done
