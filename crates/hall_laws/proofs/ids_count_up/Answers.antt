use Rattle.hall_laws.proofs.Laws.{counts}
use Rattle.hall_laws.proofs.ids_count_up.Goals as goal

pub returns : goal.returns
returns c = counts
