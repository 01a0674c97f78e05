use Rattle.http_head.proofs.ResponsePhases.{responses_open}
use Rattle.http_head.proofs.phases.HeadPhase.of_response.Goals as goal

pub returns : goal.returns
returns c = responses_open
