use Rattle.http_head.proofs.RequestPhases.{requests_open}
use Rattle.http_head.proofs.phases.HeadPhase.of_request.Goals as goal

pub returns : goal.returns
returns c = requests_open
