use Rattle.http_laws.proofs.ChunkTexts.{read_again}
use Rattle.http_laws.proofs.chunks.chunks_are_read_again.Goals as goal

pub returns : goal.returns
returns c = read_again
