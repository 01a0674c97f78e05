use Rattle.http_laws.proofs.Spelled.{read_is_spelled}
use Rattle.http_laws.proofs.chunks.read_chunks_are_spelled.Goals as goal

pub returns : goal.returns
returns c = read_is_spelled
