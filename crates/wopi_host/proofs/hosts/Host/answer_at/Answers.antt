use Rattle.wopi_host.proofs.Answered.{denied_at}
use Rattle.wopi_host.proofs.hosts.Host.answer_at.Goals as goal

pub returns-in-None-clause-ok : goal.returns-in-None-clause-ok
returns-in-None-clause-ok g c = denied_at _ _ _ _ c.in-None.is c.bare_response.ensures
