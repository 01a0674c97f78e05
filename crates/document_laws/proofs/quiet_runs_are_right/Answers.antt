use Rattle.document_laws.proofs.Quiet as Law
use Rattle.document_laws.proofs.Untouched as Untouched
use Rattle.document_laws.proofs.Kept as Kept
use Rattle.document_laws.proofs.quiet_runs_are_right.Goals as goal

pub returns : goal.returns
returns g c =
    let laws = g.met.K.Kit g.world.𝓛 g.world.𝓜 g.world.𝓡 ((λ s x. x), (λ x. x), (λ x. x), λ x. x) in
    λ file base events outs d accepted run quiet.
    Law.quiet_is_right g.K.Kit.rules d
    (λ base journal version n place wide high le clean.
    Untouched.untouched_is_unchanged g.K.Kit.rules g.K.Kit.IsSound laws.sound_start laws.sound_step
    laws.covered base journal version place wide high n le clean)
    (Kept.runs_keep g.K.Kit.rules g.K.Kit.cut
    (λ base. laws.some_part (g.K.Kit.rules.start base) (laws.sound_start base)) events _ d outs
    run
    (Kept.opening_keeps g.K.Kit.rules g.K.Kit.cut file base accepted))
    quiet
