use Rattle.script_world.proofs.Once.{settled_once, chain_housed}
use Rattle.script_world.proofs.laws.settling_has_one_record.Goals as goal

pub returns-clause-once : goal.returns-clause-once
returns-clause-once g c = λ s t u a b housed first second. settled_once g.K.Kit.rules g.K.Kit.cut c.moves_keep.ensures.step s t u a b housed first second

pub returns-clause-housed : goal.returns-clause-housed
returns-clause-housed g c = λ s t a housed settled. chain_housed g.K.Kit.rules g.K.Kit.cut c.moves_keep.ensures.step settled.moves s t a housed settled.follows
