use Rattle.poll_machine.proofs.Polls as Law
use Rattle.poll_machine.proofs.polls_are_runs.Goals as goal

pub returns : goal.returns
returns g c = λ old new given how turns rest polls. Law.polls_run g.M.Polled.ways given how old
    turns rest new polls
