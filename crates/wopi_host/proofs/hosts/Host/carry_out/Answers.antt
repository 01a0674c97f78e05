use Rattle.wopi_host.proofs.Answered.{acts_idle}
use Rattle.wopi_host.proofs.hosts.Host.carry_out.Goals as goal

pub returns-in-Refused-clause-ok : goal.returns-in-Refused-clause-ok
returns-in-Refused-clause-ok g c = acts_idle _ _ _ _ c.in-Refused.is tt

pub returns-in-Info-clause-ok : goal.returns-in-Info-clause-ok
returns-in-Info-clause-ok g c = acts_idle _ _ _ _ c.in-Info.is tt

pub returns-in-Content-clause-ok : goal.returns-in-Content-clause-ok
returns-in-Content-clause-ok g c = acts_idle _ _ _ _ c.in-Content.is tt

pub returns-in-TellsLock-clause-ok : goal.returns-in-TellsLock-clause-ok
returns-in-TellsLock-clause-ok g c = acts_idle _ _ _ _ c.in-TellsLock.is tt

pub returns-in-Conflict-clause-ok : goal.returns-in-Conflict-clause-ok
returns-in-Conflict-clause-ok g c = acts_idle _ _ _ _ c.in-Conflict.is tt
