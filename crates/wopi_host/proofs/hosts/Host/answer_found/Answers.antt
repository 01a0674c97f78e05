use Rattle.wopi_host.proofs.Answered.{host_same}
use Rattle.wopi_host.proofs.hosts.Host.answer_found.Goals as goal

pub returns-in_default-clause-err : goal.returns-in_default-clause-err
returns-in_default-clause-err g c = host_same _
