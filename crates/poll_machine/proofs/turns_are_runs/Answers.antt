use Rattle.poll_machine.specs.House.{HouseStep}
use Rattle.poll_machine.specs.Turn.{a_turn}
use Rattle.poll_machine.proofs.Runs as Law
use Rattle.poll_machine.proofs.turns_are_runs.Goals as goal

pub returns : goal.returns
returns g c = λ old new events turn. Law.follows_is_run (HouseStep g.M.Polled.ways)
    (a_turn g.M.Polled.ways) old events new turn
