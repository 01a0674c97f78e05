use Rattle.document_laws.proofs.Moving as Moving
use Rattle.script_laws.proofs.Lines as Law
use Rattle.script_laws.proofs.scripts_are_runs.Goals as goal

pub returns-clause-lines : goal.returns-clause-lines
returns-clause-lines g c =
    let laws = g.met.K.Kit g.world.𝓛 g.world.𝓜 g.world.𝓡 ((λ s x. x), (λ x. x), (λ x. x), λ x. x) in
    λ lines out t runs.
    Law.script_played g.K.Kit.rules g.K.Kit.cut
    (Moving.moves_keep g.K.Kit.rules g.K.Kit.cut (λ base. laws.some_part (g.K.Kit.rules.start base) (laws.sound_start base)))
    lines out t runs

pub returns-clause-under_way : goal.returns-clause-under_way
returns-clause-under_way g c =
    let laws = g.met.K.Kit g.world.𝓛 g.world.𝓜 g.world.𝓡 ((λ s x. x), (λ x. x), (λ x. x), λ x. x) in
    λ lines line out more t runs doing.
    Law.script_under_way g.K.Kit.rules g.K.Kit.cut
    (Moving.moves_keep g.K.Kit.rules g.K.Kit.cut (λ base. laws.some_part (g.K.Kit.rules.start base) (laws.sound_start base)))
    lines line out more t runs doing
