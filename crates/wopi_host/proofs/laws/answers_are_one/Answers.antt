use Rattle.wopi_host.proofs.Uniqueness.{one_answer}
use Rattle.wopi_host.proofs.laws.answers_are_one.Goals as goal

pub returns : goal.returns
returns c = one_answer
