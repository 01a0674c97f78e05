use Rattle.document_laws.proofs.Saved as Saved
use Rattle.document_laws.proofs.SaidSaves as Law
use Rattle.document_laws.proofs.saves_are_stored.Goals as goal

pub returns-clause-step : goal.returns-clause-step
returns-clause-step g c =
    λ old new event outs kept step. Saved.steps_true g.K.Kit.rules g.K.Kit.cut old new event outs
    kept step

pub returns-clause-waiting : goal.returns-clause-waiting
returns-clause-waiting g c =
    λ file base events outs d run. Law.waiting_were_said g.K.Kit.rules g.K.Kit.cut file base events
    outs d run

pub returns-clause-run : goal.returns-clause-run
returns-clause-run g c =
    let laws = g.met.K.Kit g.world.𝓛 g.world.𝓜 g.world.𝓡 ((λ s x. x), (λ x. x), (λ x. x), λ x. x) in
    λ file base events given d event outs new accepted run step.
    Law.done_were_said g.K.Kit.rules g.K.Kit.cut
    (λ base. laws.some_part (g.K.Kit.rules.start base) (laws.sound_start base)) file base events
    given d event outs new accepted run step
