use Rattle.hall_machine.proofs.Rising.{rises}
use Rattle.hall_machine.proofs.state.HallState.is_reached.Goals as goal

pub returns-clause-ids : goal.returns-clause-ids
returns-clause-ids g c = rises c.args.self.now.book
