use Rattle.formula_laws.proofs.Written as Written
use Rattle.formula_laws.proofs.what_is_read_is_written.Goals as goal

pub returns : goal.returns
returns c = λ raw expression read. Written.written raw expression read
