use Rattle.std.proofs.Common.{◌∙◌, sym, ap, nat_eq}
use Rattle.document_machine.specs.Held.{Held}
use Rattle.broker_core.specs.Held.{held_of}
use Rattle.broker_core.proofs.Comings.{holds_left, leaves_by, room_by}
use Rattle.broker_core.proofs.core_of.Core.leave.Goals as goal

pub save_last-requires : goal.save_last-requires
save_last-requires g c =
    let i = c.self.inside in
    let d : Held _ = held_of i.source.file i.source.base i.inputs.accepted.items i.inputs.applied i.views.members.items i.views.next i.jobs.items i.tiles i.saves in
    room_by g.K.Kit.rules g.K.Kit.cut g.K.Kit.IsSound (g.K.Kit.contents i.kit) i.views.members.items i.tiles d c.len-count.result c.self.invariant (c.len-count.ensures ∙ i.inputs.accepted.ok.0)

pub invariant_of-self : goal.invariant_of-self
invariant_of-self g c =
    let i = c.self.inside in
    let d : Held _ = held_of i.source.file i.source.base i.inputs.accepted.items i.inputs.applied i.views.members.items i.views.next i.jobs.items i.tiles i.saves in
    let laws = g.met.K.Kit g.world.𝓛 g.world.𝓜 g.world.𝓡 ((λ s x. x), (λ x. x), (λ x. x), λ x. x) in
    rw (c.remove.ensures.items)
    (holds_left g.K.Kit.rules g.K.Kit.cut g.K.Kit.IsSound (g.K.Kit.contents i.kit) i.views.members.items i.tiles d c.self.invariant (λ base. laws.some_part (g.K.Kit.rules.start base) (laws.sound_start base)) c.args.id c.in-Some.i c.len-count.result c.remove.result _ c.save_last.new.saves c.in-Some.ensures.place (sym c.remove.ensures.value) (c.len-count.ensures ∙ i.inputs.accepted.ok.0) (ap (λ n. nat_eq n 1) (c.len-is_last.ensures ∙ i.views.members.ok.0)) c.save_last.ensures)

pub returns : goal.returns
returns g c =
    let i = c.self.inside in
    let d : Held _ = held_of i.source.file i.source.base i.inputs.accepted.items i.inputs.applied i.views.members.items i.views.next i.jobs.items i.tiles i.saves in
    rw (← c.self.view_is, c.remove.ensures.items)
    (leaves_by g.K.Kit.rules g.K.Kit.cut g.K.Kit.IsSound (g.K.Kit.contents i.kit) i.views.members.items i.tiles d c.self.invariant c.args.id c.in-Some.i c.len-count.result c.remove.result _ c.save_last.new.saves c.in-Some.ensures.place (sym c.remove.ensures.value) (c.len-count.ensures ∙ i.inputs.accepted.ok.0) (ap (λ n. nat_eq n 1) (c.len-is_last.ensures ∙ i.views.members.ok.0)) c.save_last.ensures)
