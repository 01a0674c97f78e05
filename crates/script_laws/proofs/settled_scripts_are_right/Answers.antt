use Rattle.document_laws.proofs.Quiet as Quiet
use Rattle.document_laws.proofs.Untouched as Untouched
use Rattle.script_laws.proofs.Shown as Law
use Rattle.script_laws.proofs.settled_scripts_are_right.Goals as goal

pub returns-clause-settled : goal.returns-clause-settled
returns-clause-settled g c = λ lines out t runs. Law.settled_rests g.K.Kit.rules g.K.Kit.cut lines out t runs

pub returns-clause-quiet : goal.returns-clause-quiet
returns-clause-quiet g c =
    let laws = g.met.K.Kit g.world.𝓛 g.world.𝓜 g.world.𝓡 ((λ s x. x), (λ x. x), (λ x. x), λ x. x) in
    λ out seats held played quiet.
    Quiet.quiet_is_right g.K.Kit.rules held.document
    (λ base journal version n place wide high le clean.
    Untouched.untouched_is_unchanged g.K.Kit.rules g.K.Kit.IsSound laws.sound_start laws.sound_step laws.covered base journal version place wide high n le clean)
    (Law.run_kept g.K.Kit.rules g.K.Kit.cut (λ base. laws.some_part (g.K.Kit.rules.start base) (laws.sound_start base)) _ held played.run)
    quiet
