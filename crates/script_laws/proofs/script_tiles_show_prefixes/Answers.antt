use Rattle.script_laws.proofs.Shown as Law
use Rattle.script_laws.proofs.script_tiles_show_prefixes.Goals as goal

pub returns : goal.returns
returns g c =
    let laws = g.met.K.Kit g.world.𝓛 g.world.𝓜 g.world.𝓡 ((λ s x. x), (λ x. x), (λ x. x), λ x. x) in
    λ out seats document played.
    Law.transcript_shows g.K.Kit.rules g.K.Kit.cut (λ base. laws.some_part (g.K.Kit.rules.start base) (laws.sound_start base)) out seats document played
