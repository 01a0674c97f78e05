use Rattle.poll_instance.proofs.Moves.{idle_rests}
use Rattle.poll_instance.proofs.laws.idle_turns_rest.Goals as goal

pub returns : goal.returns
returns g c served old new outs h = idle_rests g.K.Kit.rules g.K.Kit.cut old new outs h
