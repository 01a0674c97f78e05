use Rattle.std.proofs.Common.{◌≡◌, ◌∙◌, true, refl, sym, subst}
use Rattle.document_machine.specs.Held.{Held}
use Rattle.broker_core.specs.Held.{held_of}
use Rattle.document_machine.specs.Event.{Turned}
use Rattle.document_machine.specs.Goes.{DoesNext}
use Rattle.document_machine.specs.Saves.{has_ready_save}
use Rattle.document_machine.specs.declared.outs.Turned.TheVariants.{Worked}
use Rattle.broker_core.proofs.Served.{holds_saved, outs_by, outs_served, saved_once, serves_by, turn_moves}
use Rattle.broker_core.proofs.core_of.Core.serve.Goals as goal

pub start-requires : goal.start-requires
start-requires g c =
    let i = c.self.inside in
    let d : Held _ = held_of i.source.file i.source.base i.inputs.accepted.items i.inputs.applied i.views.members.items i.views.next i.jobs.items i.tiles i.saves in
    let ready : has_ready_save d.document ≡ true = subst (λ (o : Held _). has_ready_save o.document ≡ true) (sym c.self.view_is) c.requires in
    ready

pub invariant_of-core : goal.invariant_of-core
invariant_of-core g c =
    let i = c.self.inside in
    let d : Held _ = held_of i.source.file i.source.base i.inputs.accepted.items i.inputs.applied i.views.members.items i.views.next i.jobs.items i.tiles i.saves in
    let laws = g.met.K.Kit g.world.𝓛 g.world.𝓜 g.world.𝓡 ((λ s x. x), (λ x. x), (λ x. x), λ x. x) in
    let ready : has_ready_save d.document ≡ true = subst (λ (o : Held _). has_ready_save o.document ≡ true) (sym c.self.view_is) c.requires in
    let does : DoesNext g.K.Kit.rules g.K.Kit.cut d (Worked (outs_served i.views.members.items d.document c.in_ok-content.content)) (saved_once d c.start.new.self) =
    serves_by g.K.Kit.rules g.K.Kit.cut g.K.Kit.IsSound (g.K.Kit.contents i.kit) i.views.members.items i.tiles d c.self.invariant c.in_ok-content.content c.start.new.self (outs_served i.views.members.items d.document c.in_ok-content.content) ready (c.in_ok-content.ensures.ok ∙ c.in_ok-text.ensures.text) c.in_ok-started.ensures.serves refl in
    holds_saved g.K.Kit.rules g.K.Kit.cut g.K.Kit.IsSound (g.K.Kit.contents i.kit) i.views.members.items i.tiles d c.self.invariant (λ base. laws.some_part (g.K.Kit.rules.start base) (laws.sound_start base)) (g.K.Kit.contents c.save_text.new.self) c.in_ok-text.ensures.kept c.start.new.self Turned _ (turn_moves g.K.Kit.rules g.K.Kit.cut d _ _ does)

pub returns : goal.returns
returns g c =
    let i = c.self.inside in
    let d : Held _ = held_of i.source.file i.source.base i.inputs.accepted.items i.inputs.applied i.views.members.items i.views.next i.jobs.items i.tiles i.saves in
    let ready : has_ready_save d.document ≡ true = subst (λ (o : Held _). has_ready_save o.document ≡ true) (sym c.self.view_is) c.requires in
    subst (λ (o : Held _). DoesNext g.K.Kit.rules g.K.Kit.cut o (Worked (record { frames = c.in_ok-frames.frames; jobs = c.new.result; errands = c.in_ok-errands.errands })) (saved_once d c.start.new.self)) c.self.view_is
    (serves_by g.K.Kit.rules g.K.Kit.cut g.K.Kit.IsSound (g.K.Kit.contents i.kit) i.views.members.items i.tiles d c.self.invariant c.in_ok-content.content c.start.new.self _ ready (c.in_ok-content.ensures.ok ∙ c.in_ok-text.ensures.text) c.in_ok-started.ensures.serves
    (outs_by i.views.members.items d.document c.in_ok-content.content c.in_ok-started.started.unmodified.items c.as_slice-unmodified.result.now c.in_ok-started.started.errand c.in_ok-frames.frames c.new.result c.in_ok-errands.errands
    c.as_slice-unmodified.ensures.value c.in_ok-started.ensures.unmodified c.in_ok-started.ensures.errand c.in_ok-frames.ensures c.new.ensures c.in_ok-errands.ensures))
