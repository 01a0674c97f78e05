use Rattle.std.proofs.Common.{◌≡◌, ◌<◌, ◌+◌, ◌∙◌, false, length, map, sym, ap, subst}
use Rattle.document_machine.specs.Held.{Held}
use Rattle.broker_core.specs.Held.{held_of}
use Rattle.document_machine.specs.Goes.{DoesNext}
use Rattle.document_machine.specs.Saves.{has_ready_save}
use Rattle.document_machine.specs.Step.{told}
use Rattle.document_machine.specs.Outputs.{frames_only}
use Rattle.document_machine.specs.declared.outs.Turned.TheVariants.{Worked}
use Rattle.broker_core.specs.Members.{views_of}
use Rattle.broker_core.specs.Serving.{cache_damaged, marked_by}
use Rattle.broker_core.proofs.Steps.{applied_once, applies_by, holds_applied, input_part}
use Rattle.broker_core.proofs.core_of.Core.apply.Goals as goal

pub input-requires : goal.input-requires
input-requires g c =
    let i = c.self.inside in
    let d : Held _ = held_of i.source.file i.source.base i.inputs.accepted.items i.inputs.applied i.views.members.items i.views.next i.jobs.items i.tiles i.saves in
    let lt : d.document.applied < length d.document.journal = subst (λ (o : Held _). o.document.applied < length o.document.journal) (sym c.self.view_is) c.requires.behind in
    input_part g.K.Kit.rules g.K.Kit.cut g.K.Kit.IsSound (g.K.Kit.contents i.kit) i.views.members.items i.tiles d c.self.invariant c.index.result.now lt (sym c.index.ensures)

pub invariant_of-core : goal.invariant_of-core
invariant_of-core g c =
    let i = c.self.inside in
    let d : Held _ = held_of i.source.file i.source.base i.inputs.accepted.items i.inputs.applied i.views.members.items i.views.next i.jobs.items i.tiles i.saves in
    let laws = g.met.K.Kit g.world.𝓛 g.world.𝓜 g.world.𝓡 ((λ s x. x), (λ x. x), (λ x. x), λ x. x) in
    let no_save : has_ready_save d.document ≡ false = subst (λ (o : Held _). has_ready_save o.document ≡ false) (sym c.self.view_is) c.requires.no_save in
    let lt : d.document.applied < length d.document.journal = subst (λ (o : Held _). o.document.applied < length o.document.journal) (sym c.self.view_is) c.requires.behind in
    holds_applied g.K.Kit.rules g.K.Kit.cut g.K.Kit.IsSound (g.K.Kit.contents i.kit) i.views.members.items i.tiles d c.self.invariant (λ base. laws.some_part (g.K.Kit.rules.start base) (laws.sound_start base)) (g.K.Kit.contents c.input.new.self) c.mark_all.new.members.items c.index.result.now c.in_ok-damages.damages.items c.mark_tiles.new.tiles
    no_save lt (sym c.index.ensures) c.in_ok-damages.ensures.hurt
    (c.mark_all.ensures ∙ ap (λ damages. map (marked_by damages) i.views.members.items) c.as_slice-3.ensures.value)
    (c.mark_tiles.ensures ∙ ap (λ damages. cache_damaged damages (d.document.applied + 1) i.tiles) c.as_slice-4.ensures.value)
    c.in_ok-damages.ensures.contents (laws.sound_step _ _ c.self.invariant.sound) (laws.same_parts _ _ c.self.invariant.sound) (λ part. laws.same_sizes _ _ part c.self.invariant.sound)

pub returns : goal.returns
returns g c =
    let i = c.self.inside in
    let d : Held _ = held_of i.source.file i.source.base i.inputs.accepted.items i.inputs.applied i.views.members.items i.views.next i.jobs.items i.tiles i.saves in
    let no_save : has_ready_save d.document ≡ false = subst (λ (o : Held _). has_ready_save o.document ≡ false) (sym c.self.view_is) c.requires.no_save in
    let lt : d.document.applied < length d.document.journal = subst (λ (o : Held _). o.document.applied < length o.document.journal) (sym c.self.view_is) c.requires.behind in
    rw c.frames_only.ensures
    (subst (λ (o : Held _). DoesNext g.K.Kit.rules g.K.Kit.cut o (Worked (frames_only c.in_ok-frames.frames)) (applied_once d c.mark_all.new.members.items c.mark_tiles.new.tiles)) c.self.view_is
    (applies_by g.K.Kit.rules g.K.Kit.cut g.K.Kit.IsSound (g.K.Kit.contents i.kit) i.views.members.items i.tiles d c.self.invariant c.mark_all.new.members.items c.index.result.now c.in_ok-damages.damages.items c.mark_tiles.new.tiles c.in_ok-frames.frames
    no_save lt (sym c.index.ensures) c.in_ok-damages.ensures.hurt
    (c.mark_all.ensures ∙ ap (λ damages. map (marked_by damages) i.views.members.items) c.as_slice-3.ensures.value)
    (c.mark_tiles.ensures ∙ ap (λ damages. cache_damaged damages (d.document.applied + 1) i.tiles) c.as_slice-4.ensures.value)
    (c.in_ok-frames.ensures ∙ ap (λ members. told (views_of members) c.as_slice-2.result.now) c.as_slice.ensures.value ∙ ap (told (views_of i.views.members.items)) c.as_slice-2.ensures.value)))
