use Rattle.std.proofs.Common.{◌≡◌, ◌≤◌, ◌<◌, length, drop}
use Rattle.std.specs.Option.{IfSome}
use Rattle.script_net.specs.Queues.{next_from}
use Rattle.script_net.proofs.net.next_at.Given as goal

-- the best so far is the next of the links from this index on
abbrev pub invariant-loop-left : goal.invariant-loop-left
invariant-loop-left l = record {
  best : l.best ≡ next_from l.left (drop l.left l.fn.links);
  inside : l.left ≤ length l.fn.links;
  within : IfSome l.best (λ b. b.0 < length l.fn.links);
}

abbrev pub decreases-loop-left : goal.decreases-loop-left
decreases-loop-left l = l.left
