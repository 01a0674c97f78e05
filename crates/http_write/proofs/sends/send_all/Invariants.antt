use Rattle.std.proofs.Common.{◌≡◌, length}
use Rattle.http_write.proofs.SentParts.{SentSoFar}
use Rattle.http_write.proofs.sends.send_all.Given as goal

abbrev pub invariant-loop-rest : goal.invariant-loop-rest
invariant-loop-rest g l = record {
  so_far : SentSoFar (g.W.Wire.talk l.fn.wire) (g.W.Wire.talk l.wire) l.fn.bytes l.rest;
  quiet : g.W.Wire.faults l.wire ≡ g.W.Wire.faults l.fn.wire;
}

abbrev pub decreases-loop-rest : goal.decreases-loop-rest
decreases-loop-rest g l = length l.rest
