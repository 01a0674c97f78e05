use Rattle.poll_machine.proofs.Alone as Law
use Rattle.poll_machine.proofs.documents_run_alone.Goals as goal

pub returns : goal.returns
returns g c = λ old new events id run. Law.alone g.M.Polled.ways id old events new run
