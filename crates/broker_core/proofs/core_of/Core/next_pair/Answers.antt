use Rattle.std.proofs.Common.{◌∙◌, length, sym, ap}
use Rattle.std.specs.Prelude.{nat_lt}
use Rattle.document_machine.specs.Held.{Held, current_version}
use Rattle.document_machine.specs.Next.{next_pair}
use Rattle.document_machine.specs.declared.limits.TheConstants.{MOST_JOBS}
use Rattle.broker_core.specs.Held.{held_of}
use Rattle.broker_core.specs.Choosing.{next_member}
use Rattle.broker_core.proofs.Pairs.{pair_same}
use Rattle.broker_core.proofs.core_of.Core.next_pair.Goals as goal

pub returns : goal.returns
returns g c =
    let i = c.self.inside in
    let d : Held _ = held_of i.source.file i.source.base i.inputs.accepted.items i.inputs.applied i.views.members.items i.views.next i.jobs.items i.tiles i.saves in
    c.next_member.ensures ∙ ap (λ n. next_member i.tiles (nat_lt n MOST_JOBS) c.as_slice.result.now) (c.len-more.ensures ∙ i.jobs.ok.0)
    ∙ ap (next_member i.tiles (nat_lt (length d.document.jobs) MOST_JOBS)) c.as_slice.ensures.value
    ∙ sym (pair_same g.K.Kit.rules g.K.Kit.cut g.K.Kit.IsSound (g.K.Kit.contents i.kit) i.views.members.items i.tiles d c.self.invariant)
    ∙ ap (λ (o : Held _). next_pair g.K.Kit.rules (current_version g.K.Kit.rules o) o.document) c.self.view_is
