use Rattle.document_laws.proofs.Kept as Law
use Rattle.document_laws.proofs.steps_keep.Goals as goal

pub returns-clause-opening : goal.returns-clause-opening
returns-clause-opening g c =
    λ file base accepted. Law.opening_keeps g.K.Kit.rules g.K.Kit.cut file base accepted

pub returns-clause-step : goal.returns-clause-step
returns-clause-step g c =
    let laws = g.met.K.Kit g.world.𝓛 g.world.𝓜 g.world.𝓡 ((λ s x. x), (λ x. x), (λ x. x), λ x. x) in
    λ old new event outs step whole.
    Law.steps_keep g.K.Kit.rules g.K.Kit.cut
    (λ base. laws.some_part (g.K.Kit.rules.start base) (laws.sound_start base)) old new event
    outs step whole

pub returns-clause-run : goal.returns-clause-run
returns-clause-run g c =
    let laws = g.met.K.Kit g.world.𝓛 g.world.𝓜 g.world.𝓡 ((λ s x. x), (λ x. x), (λ x. x), λ x. x) in
    λ events old new outs run whole.
    Law.runs_keep g.K.Kit.rules g.K.Kit.cut
    (λ base. laws.some_part (g.K.Kit.rules.start base) (laws.sound_start base)) events old new
    outs run whole
