use Rattle.http_write.proofs.Again.{request_again}
use Rattle.http_write.proofs.laws.requests_are_read_again.Goals as goal

pub returns : goal.returns
returns c = request_again
