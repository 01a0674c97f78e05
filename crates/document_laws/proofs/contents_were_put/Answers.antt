use Rattle.document_laws.proofs.PutContents as Law
use Rattle.document_laws.proofs.contents_were_put.Goals as goal

pub returns : goal.returns
returns g c =
    let laws = g.met.K.Kit g.world.𝓛 g.world.𝓜 g.world.𝓡 ((λ s x. x), (λ x. x), (λ x. x), λ x. x) in
    λ file base events outs d accepted run.
    Law.contents_were_put g.K.Kit.rules g.K.Kit.cut
    (λ base. laws.some_part (g.K.Kit.rules.start base) (laws.sound_start base)) file base events
    outs d accepted run
