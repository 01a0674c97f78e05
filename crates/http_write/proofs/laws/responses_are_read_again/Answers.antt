use Rattle.http_write.proofs.Again.{response_again}
use Rattle.http_write.proofs.laws.responses_are_read_again.Goals as goal

pub returns : goal.returns
returns c = response_again
