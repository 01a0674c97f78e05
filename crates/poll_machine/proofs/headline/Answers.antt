use Rattle.poll_machine.proofs.Alone as Law
use Rattle.poll_machine.proofs.headline.Goals as goal

pub returns : goal.returns
returns g c = λ old new events before after run told. record {
  run = run;
  each = λ id. Law.alone g.M.Polled.ways id old events new run;
  told = told;
}
