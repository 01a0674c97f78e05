use Rattle.poll_instance.proofs.Moves.{moves_on}
use Rattle.poll_instance.proofs.laws.polls_move_documents.Goals as goal

pub returns : goal.returns
returns g c served old new event outs h =
    moves_on g.K.Kit.rules g.K.Kit.cut old new event outs h
