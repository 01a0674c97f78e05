use Rattle.std.proofs.Common.{◌≡◌, ◌<◌, [], ◌∷◌, ◌++◌, length, not, sym, ap, subst}
use Rattle.document_machine.specs.Held.{Held}
use Rattle.broker_core.specs.Held.{Holds, held_of}
use Rattle.cool_frame.specs.declared.frame.Frame.TheVariants.{Status as StatusFrame}
use Rattle.document_machine.specs.Event.{Joined}
use Rattle.document_machine.specs.Goes.{Moves}
use Rattle.document_machine.specs.Outputs.{named, one_frame}
use Rattle.document_machine.specs.declared.limits.TheConstants.{MOST_VIEWS}
use Rattle.view_session.specs.Viewing.{Viewing}
use Rattle.broker_core.specs.declared.members.Member.{Member}
use Rattle.broker_core.proofs.Comings.{newcomer, joined_once, outs_by, holds_joined, joins_by}
use Rattle.broker_core.proofs.core_of.Core.join.Goals as goal

pub invariant_of-core : goal.invariant_of-core
invariant_of-core g c =
    let i = c.self.inside in
    let d : Held _ = held_of i.source.file i.source.base i.inputs.accepted.items i.inputs.applied i.views.members.items i.views.next i.jobs.items i.tiles i.saves in
    let laws = g.met.K.Kit g.world.𝓛 g.world.𝓜 g.world.𝓡 ((λ s x. x), (λ x. x), (λ x. x), λ x. x) in
    let few : length d.document.views < MOST_VIEWS = subst (λ (o : Held _). length o.document.views < MOST_VIEWS) (sym c.self.view_is) c.requires in
    let member : Member = record { id = i.views.next; view = c.in_ok-view.view } in
    let member_is : member ≡ newcomer d.document.next_view c.args.rights c.size-size.result = ap (λ (v : Viewing). record { id = i.views.next; view = v }) c.in_ok-view.ensures in
    rw (c.in_ok-push.ensures.items, c.in_ok-next.ensures)
    (subst (λ (m : Member). Holds g.K.Kit.rules g.K.Kit.cut g.K.Kit.IsSound (g.K.Kit.contents i.kit) (i.views.members.items ++ m ∷ []) i.tiles (joined_once d (i.views.members.items ++ m ∷ []))) (sym member_is)
    (holds_joined g.K.Kit.rules g.K.Kit.cut g.K.Kit.IsSound (g.K.Kit.contents i.kit) i.views.members.items i.tiles d c.self.invariant (λ base. laws.some_part (g.K.Kit.rules.start base) (laws.sound_start base)) c.args.rights c.size-size.result few c.size-size.ensures))

pub returns-clause-step : goal.returns-clause-step
returns-clause-step g c =
    let i = c.self.inside in
    let d : Held _ = held_of i.source.file i.source.base i.inputs.accepted.items i.inputs.applied i.views.members.items i.views.next i.jobs.items i.tiles i.saves in
    let few : length d.document.views < MOST_VIEWS = subst (λ (o : Held _). length o.document.views < MOST_VIEWS) (sym c.self.view_is) c.requires in
    let rules = g.K.Kit.rules in
    let contents = g.K.Kit.contents i.kit in
    let frame = StatusFrame rules.name (rules.parts (rules.body contents)) (rules.size (rules.body contents) 0) (named i.views.next) (not c.args.rights.can_write) in
    let outs_are : c.frames_only.result ≡ one_frame i.views.next frame = outs_by c.frames_only.result c.in_ok-frames.frames i.views.next c.status-frame.result frame c.frames_only.ensures c.in_ok-frames.ensures c.status-frame.ensures in
    let member : Member = record { id = i.views.next; view = c.in_ok-view.view } in
    let member_is : member ≡ newcomer d.document.next_view c.args.rights c.size-size.result = ap (λ (v : Viewing). record { id = i.views.next; view = v }) c.in_ok-view.ensures in
    rw (← c.self.view_is, c.in_ok-push.ensures.items, c.in_ok-next.ensures)
    (subst (λ (m : Member). Moves rules g.K.Kit.cut d (Joined c.args.rights) c.frames_only.result (joined_once d (i.views.members.items ++ m ∷ []))) (sym member_is)
    (joins_by g.K.Kit.rules g.K.Kit.cut g.K.Kit.IsSound (g.K.Kit.contents i.kit) i.views.members.items i.tiles d c.self.invariant c.args.rights c.size-size.result c.frames_only.result few outs_are))
