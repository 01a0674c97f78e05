use Rattle.std.proofs.Common.{◌≡◌, false, take, nat_eq}
use Rattle.std.specs.List.{AllByRecursion}
use Rattle.broker_core.proofs.painting.job_at.Given as goal

-- none of the jobs up to here has the ticket
abbrev pub invariant-loop-i : goal.invariant-loop-i
invariant-loop-i g l = AllByRecursion (λ job. nat_eq job.ticket l.done.ticket.0 ≡ false) (take l.i l.jobs)
