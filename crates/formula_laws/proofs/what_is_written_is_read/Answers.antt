use Rattle.formula_laws.proofs.Readable as Readable
use Rattle.formula_laws.proofs.what_is_written_is_read.Goals as goal

pub returns : goal.returns
returns c = λ raw expression written. Readable.readable raw expression written
