use Rattle.std.proofs.Common.{sym}
use Rattle.load_address.proofs.Paths.{elsewhere}
use Rattle.load_address.proofs.places.file_at.Goals as goal

pub returns-in-None : goal.returns-in-None
returns-in-None c = sym (elsewhere c.args.path.now c.in-None.ensures.cases)
