use Rattle.document_laws.proofs.Screens as Law
use Rattle.document_laws.proofs.frames_never_step_back.Goals as goal

pub returns-clause-step : goal.returns-clause-step
returns-clause-step g c =
    λ old new event outs whole step id key. Law.steps_deliver g.K.Kit.rules g.K.Kit.cut old new
    event outs whole step id key

pub returns-clause-run : goal.returns-clause-run
returns-clause-run g c =
    let laws = g.met.K.Kit g.world.𝓛 g.world.𝓜 g.world.𝓡 ((λ s x. x), (λ x. x), (λ x. x), λ x. x) in
    λ old mid late new first last between outs held later id key whole one run two.
    Law.frames_rise g.K.Kit.rules g.K.Kit.cut
    (λ base. laws.some_part (g.K.Kit.rules.start base) (laws.sound_start base)) id key old mid
    late new first last between outs held later whole one run two
