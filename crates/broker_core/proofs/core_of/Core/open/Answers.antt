use Rattle.std.proofs.Common.{◌≡◌, ◌∙◌, true, sym, ap, subst}
use Rattle.broker_core.proofs.Openings.{holds_opened}
use Rattle.broker_core.proofs.core_of.Core.open.Goals as goal

pub invariant_of-result : goal.invariant_of-result
invariant_of-result g c =
    let laws = g.met.K.Kit g.world.𝓛 g.world.𝓜 g.world.𝓡 ((λ s x. x), (λ x. x), (λ x. x), λ x. x) in
    let base = c.args.base in
    let base_is : c.as_slice.result.now ≡ base = c.as_slice.ensures in
    let accepted : g.K.Kit.rules.accepts base ≡ true = ap g.K.Kit.rules.accepts (sym base_is) ∙ c.in_ok-kit.ensures.accepted in
    let contents_are : g.K.Kit.contents c.in_ok-kit.kit ≡ g.K.Kit.rules.start base = c.in_ok-kit.ensures.ok ∙ ap g.K.Kit.rules.start base_is in
    holds_opened g.K.Kit.rules g.K.Kit.cut g.K.Kit.IsSound (g.K.Kit.contents c.in_ok-kit.kit) c.copy.result base
    c.new-3.result.items c.new-4.result.items c.new-5.result.items c.in_ok-tiles.tiles c.in_ok-saves.saves
    c.new-3.ensures.items c.new-4.ensures.items c.new-5.ensures.items c.in_ok-tiles.ensures c.in_ok-saves.ensures
    accepted contents_are (subst g.K.Kit.IsSound (sym contents_are) (laws.sound_start base)) (laws.some_part (g.K.Kit.rules.start base) (laws.sound_start base))
