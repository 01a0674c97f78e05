use Rattle.hall_laws.proofs.Laws.{move_keeps}
use Rattle.hall_laws.proofs.moves_keep_mail.Goals as goal

pub returns : goal.returns
returns c = move_keeps
