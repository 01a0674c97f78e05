use Rattle.std.proofs.Common.{◌∙◌, refl, ap, codes}
use Rattle.broker_core.specs.Hearing.{sizes_in}
use Rattle.broker_core.proofs.Changes.{all_two, look_hears}
use Rattle.broker_core.proofs.members.Member.look.Goals as goal

pub returns : goal.returns
returns g c =
    let sizes = sizes_in g.K.Kit.rules (g.K.Kit.contents c.args.kit.now) in
    all_two c.outcome_of.result _ _ _ c.outcome_of.ensures.outcome c.outcome_of.ensures.memory
    (λ outcome told memory. look_hears sizes c.args.self.now (record { id = c.args.self.now.id; view = c.set_area-change.new.self }) c.size-size.result c.set_area-change.result outcome c.args.area.now (codes "clientvisiblearea") (c.size-size.ensures ∙ ap sizes c.part.ensures) refl
    c.set_area-change.ensures.ok c.set_area-change.ensures.too_large c.set_area-change.ensures.not_full c.set_area-change.ensures.err memory told c.requires.seen)
