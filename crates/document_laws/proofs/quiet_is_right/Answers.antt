use Rattle.document_laws.proofs.Quiet as Law
use Rattle.document_laws.proofs.Untouched as Untouched
use Rattle.document_laws.proofs.quiet_is_right.Goals as goal

pub returns : goal.returns
returns g c =
    let laws = g.met.K.Kit g.world.𝓛 g.world.𝓜 g.world.𝓡 ((λ s x. x), (λ x. x), (λ x. x), λ x. x) in
    λ d kept quiet.
    Law.quiet_is_right g.K.Kit.rules d
    (λ base journal version n place wide high le clean.
    Untouched.untouched_is_unchanged g.K.Kit.rules g.K.Kit.IsSound laws.sound_start laws.sound_step
    laws.covered base journal version place wide high n le clean)
    kept quiet
