use Rattle.hall_laws.proofs.Laws.{places_told, allowed}
use Rattle.hall_laws.proofs.one_owner.Goals as goal

pub returns-clause-told : goal.returns-clause-told
returns-clause-told c = places_told

pub returns-clause-allowed : goal.returns-clause-allowed
returns-clause-allowed c = allowed
