use Rattle.std.proofs.Common.{◌∙◌, refl, sym, ap, subst, codes}
use Rattle.std.proofs.lemmas.Result.{IfOk-weaker}
use Rattle.document_machine.specs.Message.{zooming_effect}
use Rattle.broker_core.specs.Hearing.{Hears, sizes_in}
use Rattle.broker_core.specs.Members.{view_of}
use Rattle.broker_core.proofs.Changes.{all_two, refuses_hears, scale_hears}
use Rattle.broker_core.proofs.members.Member.scale.Goals as goal

pub returns-in-None : goal.returns-in-None
returns-in-None g c =
    let sizes = sizes_in g.K.Kit.rules (g.K.Kit.contents c.args.kit.now) in
    IfOk-weaker c.refuse.result _ _
    (λ outcome is. refuses_hears sizes c.args.self.now _ _ _ outcome is (ap (zooming_effect sizes (view_of c.args.self.now)) (sym c.in-None.is)) c.requires.seen)
    c.refuse.ensures

pub returns-in-Some : goal.returns-in-Some
returns-in-Some g c =
    let sizes = sizes_in g.K.Kit.rules (g.K.Kit.contents c.args.kit.now) in
    all_two c.outcome_of.result _ _ _ c.outcome_of.ensures.outcome c.outcome_of.ensures.memory
    (λ outcome told memory.
    subst (λ zoom. Hears sizes c.args.self.now (zooming_effect sizes (view_of c.args.self.now) zoom) outcome (record { id = c.args.self.now.id; view = c.set_zoom-change.new.self })) (sym c.in-Some.is)
    (scale_hears sizes c.args.self.now (record { id = c.args.self.now.id; view = c.set_zoom-change.new.self }) c.size-size.result c.set_zoom-change.result outcome c.in-Some.zoom (codes "clientzoom") (c.size-size.ensures ∙ ap sizes c.part.ensures) refl
    c.set_zoom-change.ensures.ok c.set_zoom-change.ensures.too_large c.set_zoom-change.ensures.not_full c.set_zoom-change.ensures.err memory told c.requires.seen))
