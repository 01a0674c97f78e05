use Rattle.std.proofs.Common.{◌≡◌, ◌+◌, ◌≤◌, length}
use Rattle.wire_body.specs.Bodies.{run, framing_in}
use Rattle.wire_body.proofs.feeds.feed.Given as goal

abbrev pub invariant-loop-rest : goal.invariant-loop-rest
invariant-loop-rest l = record {
  leads : run l.fn.start.state l.fn.body.items l.piece ≡ run l.state l.body.items l.rest;
  counts : l.fn.start.framing + framing_in l.fn.start.state l.piece ≡ l.framing + framing_in l.state l.rest;
  small : l.framing + length l.rest ≤ l.fn.start.framing + length l.piece;
}

abbrev pub decreases-loop-rest : goal.decreases-loop-rest
decreases-loop-rest l = length l.rest
