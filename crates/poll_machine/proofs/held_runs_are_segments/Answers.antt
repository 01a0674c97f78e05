use Rattle.poll_machine.proofs.Segments as Law
use Rattle.poll_machine.proofs.held_runs_are_segments.Goals as goal

pub returns : goal.returns
returns g c = λ old new heres run. Law.segment g.M.Polled.ways old heres new run
