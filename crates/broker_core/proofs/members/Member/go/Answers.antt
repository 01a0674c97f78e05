use Rattle.std.proofs.Common.{refl, subst}
use Rattle.std.specs.Prelude.{codes}
use Rattle.std.proofs.lemmas.Result.{IfOk-weaker}
use Rattle.broker_core.specs.Hearing.{Hears, limits_in, sizes_in}
use Rattle.broker_core.specs.Members.{view_of}
use Rattle.broker_core.proofs.Changes.{all_two, go_hears, goes_nowhere, goes_there, refuses_hears}
use Rattle.broker_core.proofs.members.Member.go.Goals as goal

pub returns-then-part-parts : goal.returns-then-part-parts
returns-then-part-parts g c =
    let contents = g.K.Kit.contents c.args.kit.now in
    let sizes = sizes_in g.K.Kit.rules contents in
    IfOk-weaker c.refuse.result _ _
    (λ outcome is count saves. refuses_hears sizes c.args.self.now _ _ _ outcome is (goes_nowhere (limits_in g.K.Kit.rules contents count saves) (view_of c.args.self.now) c.args.part c.parts.result c.parts.ensures c.if-part-parts.true) c.requires.seen)
    c.refuse.ensures

pub returns : goal.returns
returns g c =
    let contents = g.K.Kit.contents c.args.kit.now in
    let sizes = sizes_in g.K.Kit.rules contents in
    all_two c.outcome_of.result _ _ _ c.outcome_of.ensures.outcome c.outcome_of.ensures.memory
    (λ outcome told memory count saves.
    subst (λ effect. Hears sizes c.args.self.now effect outcome (record { id = c.args.self.now.id; view = c.set_part-change.new.self })) (goes_there (limits_in g.K.Kit.rules contents count saves) (view_of c.args.self.now) c.args.part c.parts.result c.parts.ensures c.if-part-parts.false)
    (go_hears sizes c.args.self.now (record { id = c.args.self.now.id; view = c.set_part-change.new.self }) c.size-size.result c.set_part-change.result outcome c.args.part (codes "setclientpart") c.size-size.ensures refl
    c.set_part-change.ensures.ok c.set_part-change.ensures.too_large c.set_part-change.ensures.not_full c.set_part-change.ensures.err memory told c.requires.seen))
