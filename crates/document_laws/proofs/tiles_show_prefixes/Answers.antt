use Rattle.document_laws.proofs.Tiles as Law
use Rattle.document_laws.proofs.tiles_show_prefixes.Goals as goal

pub returns-clause-step : goal.returns-clause-step
returns-clause-step g c =
    λ old new event outs whole step. Law.step_shows g.K.Kit.rules g.K.Kit.cut old new event outs
    whole step

pub returns-clause-run : goal.returns-clause-run
returns-clause-run g c =
    let laws = g.met.K.Kit g.world.𝓛 g.world.𝓜 g.world.𝓡 ((λ s x. x), (λ x. x), (λ x. x), λ x. x) in
    λ events old new outs whole run.
    Law.run_shows g.K.Kit.rules g.K.Kit.cut
    (λ base. laws.some_part (g.K.Kit.rules.start base) (laws.sound_start base)) events old new
    outs whole run
