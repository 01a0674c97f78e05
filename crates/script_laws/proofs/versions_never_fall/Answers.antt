use Rattle.script_laws.proofs.Rising as Law
use Rattle.script_laws.proofs.versions_never_fall.Goals as goal

pub returns : goal.returns
returns g c =
    let laws = g.met.K.Kit g.world.𝓛 g.world.𝓜 g.world.𝓡 ((λ s x. x), (λ x. x), (λ x. x), λ x. x) in
    λ out seats held played id key before first between last after is.
    Law.run_rises g.K.Kit.rules g.K.Kit.cut (λ base. laws.some_part (g.K.Kit.rules.start base) (laws.sound_start base)) _ held played.run id key before first between last after is
