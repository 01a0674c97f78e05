use Rattle.std.proofs.Common.{◌≡◌, ◌≤◌, ◌-◌, false, length}
use Rattle.outside.specs.Wires.{Hears}
use Rattle.http_head.specs.declared.TheConstants.{HEAD_LIMIT}
use Rattle.wire_body.specs.Reads.{AllButLast}
use Rattle.http_wire.specs.Messages.{SaysNothing}
use Rattle.http_wire.specs.Following.{Follows}
use Rattle.http_wire.proofs.reads.read_head.Given as goal

abbrev pub invariant-loop-bytes : goal.invariant-loop-bytes
invariant-loop-bytes g l = record {
  heard : Hears (g.W.Wire.talk l.fn.wire) l.bytes.items false (g.W.Wire.talk l.wire);
  follows : Follows g.H.Head.kind l.bytes.items l.phase;
  within : length l.bytes.items ≤ HEAD_LIMIT;
  late : AllButLast (SaysNothing g.H.Head.kind) l.bytes.items;
  no_fault : g.W.Wire.faults l.wire ≡ g.W.Wire.faults l.fn.wire;
}

abbrev pub decreases-loop-bytes : goal.decreases-loop-bytes
decreases-loop-bytes g l = HEAD_LIMIT - length l.bytes.items
