use Rattle.hall_laws.proofs.Laws.{waits, once, oldest}
use Rattle.hall_laws.proofs.mails_in_order.Goals as goal

pub returns-clause-waits : goal.returns-clause-waits
returns-clause-waits c = waits

pub returns-clause-once : goal.returns-clause-once
returns-clause-once c = once

pub returns-clause-oldest : goal.returns-clause-oldest
returns-clause-oldest c = oldest
