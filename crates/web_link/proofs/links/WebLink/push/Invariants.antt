use Rattle.std.proofs.Common.{length}
use Rattle.web_link.specs.Pushing.{Leave}
use Rattle.web_link.proofs.links.WebLink.push.Given as goal

abbrev pub invariant-loop : goal.invariant-loop
invariant-loop g l =
    Leave g.S.Write.contents l.fn.self.socket l.fn.self.queue l.self.socket l.self.queue

abbrev pub decreases-loop : goal.decreases-loop
decreases-loop g l = length l.self.queue.waiting
