use Rattle.std.proofs.Common.{◌≡◌, ◌∙◌, length, refl, sym, ap, arith}
use Rattle.std.specs.List.{list_all}
use Rattle.document_machine.specs.Held.{Held}
use Rattle.document_machine.specs.Quiet.{is_quiet}
use Rattle.broker_core.specs.Held.{held_of}
use Rattle.broker_core.specs.Serving.{is_still}
use Rattle.broker_core.specs.declared.members.Member.{Member}
use Rattle.broker_core.proofs.Rest.{none_there, quiet_by}
use Rattle.broker_core.proofs.core_of.Core.is_quiet.Goals as goal

pub returns : goal.returns
returns g c =
    let i = c.self.inside in
    let d : Held _ = held_of i.source.file i.source.base i.inputs.accepted.items i.inputs.applied i.views.members.items i.views.next i.jobs.items i.tiles i.saves in
    let none : length d.document.jobs ≡ 0 = omega (arith, c.if-len-gt0.false, c.len-2.ensures ∙ i.jobs.ok.0) in
    c.are_still.ensures ∙ ap (list_all (λ (member : Member). is_still member.view)) c.as_slice.ensures.value
    ∙ quiet_by g.K.Kit.rules d.document i.views.members.items refl c.self.invariant.tracked (sym c.is_ready.ensures ∙ c.if-is_ready.false) (none_there i.saves.put (sym c.has_put.ensures ∙ c.if-has_put.false)) (c.if-self-len.false ∙ c.len.ensures ∙ i.inputs.accepted.ok.0) none
    ∙ ap (λ (o : Held _). is_quiet g.K.Kit.rules o.document) c.self.view_is
