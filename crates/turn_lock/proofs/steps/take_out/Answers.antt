use Rattle.std.proofs.Common.{Some, refl}
use Rattle.turn_lock.proofs.steps.take_out.Goals as goal

pub exchange-requires : goal.exchange-requires
exchange-requires g c = (c.requires.table, (Some c.requires.value.0, rw c.requires.value.1 refl))
