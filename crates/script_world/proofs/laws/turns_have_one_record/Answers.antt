use Rattle.script_world.proofs.Once.{turned_once, chain_housed}
use Rattle.script_world.specs.World.{turns}
use Rattle.script_world.proofs.laws.turns_have_one_record.Goals as goal

pub returns-clause-once : goal.returns-clause-once
returns-clause-once g c = λ count s t u a b housed first second. turned_once g.K.Kit.rules g.K.Kit.cut c.moves_keep.ensures.step count s t u a b housed first second

pub returns-clause-housed : goal.returns-clause-housed
returns-clause-housed g c = λ count s t a housed turned. chain_housed g.K.Kit.rules g.K.Kit.cut c.moves_keep.ensures.step (turns turned.made) s t a housed turned.follows
