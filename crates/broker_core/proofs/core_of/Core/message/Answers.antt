use Rattle.std.proofs.Common.{◌∙◌, sym, ap}
use Rattle.document_machine.specs.Held.{Held}
use Rattle.broker_core.specs.Held.{held_of}
use Rattle.broker_core.proofs.Hearings.{seen_at, part_at, saving_by, says_by, holds_said}
use Rattle.broker_core.proofs.core_of.Core.message.Goals as goal

pub hear-requires-clause-part : goal.hear-requires-clause-part
hear-requires-clause-part g c = λ κs lives.
    let i = c.self.inside in
    let d : Held _ = held_of i.source.file i.source.base i.inputs.accepted.items i.inputs.applied i.views.members.items i.views.next i.jobs.items i.tiles i.saves in
    part_at g.K.Kit.rules g.K.Kit.cut g.K.Kit.IsSound (g.K.Kit.contents i.kit) i.views.members.items i.tiles d c.self.invariant c.in-Some.i c.index_mut-member.result.now c.in-Some.ensures.place.within (sym c.index_mut-member.ensures.value)

pub hear-requires-clause-seen : goal.hear-requires-clause-seen
hear-requires-clause-seen g c = λ κs lives.
    let i = c.self.inside in
    let d : Held _ = held_of i.source.file i.source.base i.inputs.accepted.items i.inputs.applied i.views.members.items i.views.next i.jobs.items i.tiles i.saves in
    seen_at g.K.Kit.rules g.K.Kit.cut g.K.Kit.IsSound (g.K.Kit.contents i.kit) i.views.members.items i.tiles d c.self.invariant c.in-Some.i c.index_mut-member.result.now c.in-Some.ensures.place.within (sym c.index_mut-member.ensures.value)

pub invariant_of-core : goal.invariant_of-core
invariant_of-core g c =
    let i = c.self.inside in
    let d : Held _ = held_of i.source.file i.source.base i.inputs.accepted.items i.inputs.applied i.views.members.items i.views.next i.jobs.items i.tiles i.saves in
    let laws = g.met.K.Kit g.world.𝓛 g.world.𝓜 g.world.𝓡 ((λ s x. x), (λ x. x), (λ x. x), λ x. x) in
    rw (c.in_ok-frames.ensures.inputs)
    (holds_said g.K.Kit.rules g.K.Kit.cut g.K.Kit.IsSound (g.K.Kit.contents i.kit) i.views.members.items i.tiles d c.self.invariant c.args.id c.in-Some.i c.len-count.result c.index_mut-member.result.now c.hear.new.self c.args.text.now c.in_ok-outcome.outcome
    c.in-Some.ensures.place (sym c.index_mut-member.ensures.value) (c.len-count.ensures ∙ i.inputs.accepted.ok.0) c.in_ok-outcome.ensures c.enter.new.saves (c.in_ok-frames.ensures.saves ∙ ap (saving_by d.document c.args.id c.in_ok-outcome.outcome) c.rights.ensures) (λ base. laws.some_part (g.K.Kit.rules.start base) (laws.sound_start base)))

pub returns : goal.returns
returns g c =
    let i = c.self.inside in
    let d : Held _ = held_of i.source.file i.source.base i.inputs.accepted.items i.inputs.applied i.views.members.items i.views.next i.jobs.items i.tiles i.saves in
    rw (← c.self.view_is, c.frames_only.ensures, c.in_ok-frames.ensures.inputs)
    (says_by g.K.Kit.rules g.K.Kit.cut g.K.Kit.IsSound (g.K.Kit.contents i.kit) i.views.members.items i.tiles d c.self.invariant c.args.id c.in-Some.i c.len-count.result c.index_mut-member.result.now c.hear.new.self c.args.text.now c.in_ok-outcome.outcome
    c.in-Some.ensures.place (sym c.index_mut-member.ensures.value) (c.len-count.ensures ∙ i.inputs.accepted.ok.0) c.in_ok-outcome.ensures c.enter.new.saves (c.in_ok-frames.ensures.saves ∙ ap (saving_by d.document c.args.id c.in_ok-outcome.outcome) c.rights.ensures) c.in_ok-frames.frames c.in_ok-frames.ensures.frames)
