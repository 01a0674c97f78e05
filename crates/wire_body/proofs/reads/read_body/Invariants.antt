use Rattle.std.proofs.Common.{◌≡◌}
use Rattle.wire_body.proofs.Gathers.{Gathers}
use Rattle.wire_body.proofs.Ranks.{rank}
use Rattle.wire_body.proofs.reads.read_body.Given as goal

abbrev pub invariant-loop-room : goal.invariant-loop-room
invariant-loop-room g l = record {
  gathered : Gathers (g.W.Wire.talk l.fn.wire) (g.W.Wire.talk l.wire) l.fn.start l.front l.place.state l.body.items l.place.framing;
  no_fault : g.W.Wire.faults l.wire ≡ g.W.Wire.faults l.fn.wire;
}

abbrev pub decreases-loop-room : goal.decreases-loop-room
decreases-loop-room g l = rank l.place.state
