use Rattle.document_laws.proofs.Quiet as Quiet
use Rattle.document_laws.proofs.Untouched as Untouched
use Rattle.document_laws.proofs.Moving as Moving
use Rattle.script_laws.proofs.Replays as Law
use Rattle.script_laws.proofs.Shown as Shown
use Rattle.script_laws.proofs.replays_are_right.Goals as goal

pub returns-clause-written : goal.returns-clause-written
returns-clause-written g c =
    let laws = g.met.K.Kit g.world.𝓛 g.world.𝓜 g.world.𝓡 ((λ s x. x), (λ x. x), (λ x. x), λ x. x) in
    λ source sink code plays.
    Law.replayed g.K.Kit.rules g.K.Kit.cut
    (Moving.moves_keep g.K.Kit.rules g.K.Kit.cut (λ base. laws.some_part (g.K.Kit.rules.start base) (laws.sound_start base)))
    (λ out seats document played.
    Shown.transcript_right g.K.Kit.rules g.K.Kit.cut (λ base. laws.some_part (g.K.Kit.rules.start base) (laws.sound_start base))
    (λ d kept quiet.
    Quiet.quiet_is_right g.K.Kit.rules d
    (λ base journal version n place wide high le clean.
    Untouched.untouched_is_unchanged g.K.Kit.rules g.K.Kit.IsSound laws.sound_start laws.sound_step laws.covered base journal version place wide high n le clean)
    kept quiet)
    c.told_saves_are_stored.ensures
    out seats document played)
    source sink plays.0 plays.1.ended

pub returns-clause-done : goal.returns-clause-done
returns-clause-done g c = λ source sink plays.
    Law.done_by g.K.Kit.rules g.K.Kit.cut plays.0 source sink plays.2 plays.1.ended
