use Rattle.save_core.proofs.Bound as Law
use Rattle.save_core.proofs.laws.stored_answers_hold.Goals as goal

pub returns : goal.returns
returns c = λ events ticket receipt put is. Law.acknowledged events ticket receipt put is
