use Rattle.poll_machine.proofs.Frames as Law
use Rattle.poll_machine.proofs.frames_in_order.Goals as goal

pub returns : goal.returns
returns g c = λ old new heres run free. Law.from_nothing g.M.Polled.ways old heres new run free
