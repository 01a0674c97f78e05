use Rattle.message_laws.proofs.Again.{read_again}
use Rattle.message_laws.proofs.what_is_written_is_read.Goals as goal

pub returns : goal.returns
returns c = read_again
