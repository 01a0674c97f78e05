use Rattle.std.proofs.Common.{◌∙◌, refl, ap, subst}
use Rattle.document_machine.specs.Held.{Held}
use Rattle.broker_core.specs.Held.{held_of}
use Rattle.save_core.specs.Saving.{answered, answers}
use Rattle.document_machine.specs.Event.{PutAnswered}
use Rattle.document_machine.specs.Goes.{Moves}
use Rattle.document_machine.specs.Outputs.{frames_only}
use Rattle.document_machine.specs.Saves.{ending_frames}
use Rattle.broker_core.specs.Members.{views_of}
use Rattle.broker_core.proofs.Served.{ends_by, holds_saved, saved_once}
use Rattle.broker_core.proofs.core_of.Core.put_done.Goals as goal

pub invariant_of-core : goal.invariant_of-core
invariant_of-core g c =
    let i = c.self.inside in
    let d : Held _ = held_of i.source.file i.source.base i.inputs.accepted.items i.inputs.applied i.views.members.items i.views.next i.jobs.items i.tiles i.saves in
    let laws = g.met.K.Kit g.world.𝓛 g.world.𝓜 g.world.𝓡 ((λ s x. x), (λ x. x), (λ x. x), λ x. x) in
    let saving_is = c.in_ok-given.ensures.answered ∙ ap (λ receipt. answered c.args.ticket.0 receipt i.saves) c.receipt_of.ensures in
    holds_saved g.K.Kit.rules g.K.Kit.cut g.K.Kit.IsSound (g.K.Kit.contents i.kit) i.views.members.items i.tiles d c.self.invariant (λ base. laws.some_part (g.K.Kit.rules.start base) (laws.sound_start base)) (g.K.Kit.contents i.kit) refl c.answer.new.self (PutAnswered c.args.ticket.0 c.args.answer.now) _
    (ends_by g.K.Kit.rules g.K.Kit.cut g.K.Kit.IsSound (g.K.Kit.contents i.kit) i.views.members.items i.tiles d c.self.invariant c.args.ticket.0 c.args.answer.now c.answer.new.self _ saving_is refl)

pub returns : goal.returns
returns g c =
    let i = c.self.inside in
    let d : Held _ = held_of i.source.file i.source.base i.inputs.accepted.items i.inputs.applied i.views.members.items i.views.next i.jobs.items i.tiles i.saves in
    let saving_is = c.in_ok-given.ensures.answered ∙ ap (λ receipt. answered c.args.ticket.0 receipt i.saves) c.receipt_of.ensures in
    let frames_are = c.in_ok-frames.ensures ∙ ap (λ given. ending_frames (views_of i.views.members.items) c.args.answer.now given) (c.as_slice.ensures.value ∙ c.in_ok-given.ensures.answers ∙ ap (λ receipt. answers c.args.ticket.0 receipt i.saves) c.receipt_of.ensures) in
    rw c.frames_only.ensures
    (subst (λ (o : Held _). Moves g.K.Kit.rules g.K.Kit.cut o (PutAnswered c.args.ticket.0 c.args.answer.now) (frames_only c.in_ok-frames.frames) (saved_once d c.answer.new.self)) c.self.view_is
    (ends_by g.K.Kit.rules g.K.Kit.cut g.K.Kit.IsSound (g.K.Kit.contents i.kit) i.views.members.items i.tiles d c.self.invariant c.args.ticket.0 c.args.answer.now c.answer.new.self c.in_ok-frames.frames saving_is frames_are))
