use Rattle.std.proofs.Common.{◌≡◌, ◌+◌, ◌≤◌, length}
use Rattle.outside.specs.Streams.{Takes}
use Rattle.script_lines.specs.Lines.{IsUnbroken}
use Rattle.script_lines.proofs.line.next_line.Given as goal

-- what was read so far is the line so far
abbrev pub invariant-loop-room : goal.invariant-loop-room
invariant-loop-room g l = record {
  taken : Takes (g.S.Source.left l.initial.source) l.line.items (g.S.Source.left l.source);
  unbroken : IsUnbroken l.line.items;
  short : length l.line.items ≤ 70000;
  used : l.room + length l.line.items ≡ l.initial.room;
  faults : g.S.Source.faults l.source ≡ g.S.Source.faults l.initial.source;
}

abbrev pub decreases-loop-room : goal.decreases-loop-room
decreases-loop-room g l = l.room
