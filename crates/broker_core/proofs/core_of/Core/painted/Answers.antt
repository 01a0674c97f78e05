use Rattle.std.proofs.Common.{◌≡◌, ◌∙◌, List, [], sym, ap, subst, rules}
use Rattle.document_machine.specs.Event.{Painted}
use Rattle.document_machine.specs.Goes.{Moves}
use Rattle.document_machine.specs.Held.{Held}
use Rattle.document_machine.specs.Outputs.{frames_only}
use Rattle.document_machine.specs.State.{Job, find_job}
use Rattle.broker_core.specs.Held.{held_of}
use Rattle.broker_core.specs.Painting.{IsJobAt}
use Rattle.broker_core.specs.Serving.{Ignores}
use Rattle.broker_core.proofs.Takings.{ignores}
use Rattle.broker_core.proofs.core_of.Core.painted.Goals as goal

pub take-requires : goal.take-requires
take-requires g c =
    let at : IsJobAt c.args.self.document.jobs c.args.done.now.ticket.0 c.args.done.now.scene c.in-Some.i =
    subst (λ (o : Held _). IsJobAt o.document.jobs c.args.done.now.ticket.0 c.args.done.now.scene c.in-Some.i) c.self.view_is
    (subst (λ (js : List (Job _)). IsJobAt js c.args.done.now.ticket.0 c.args.done.now.scene c.in-Some.i) c.as_slice.ensures.value c.in-Some.ensures.place) in
    (search rules, (search rules, at))

pub returns-in-None : goal.returns-in-None
returns-in-None g c =
    let other : Ignores c.args.done.now.scene (find_job c.args.self.document.jobs c.args.done.now.ticket.0) =
    subst (λ (o : Held _). Ignores c.args.done.now.scene (find_job o.document.jobs c.args.done.now.ticket.0)) c.self.view_is
    (subst (λ (js : List (Job _)). Ignores c.args.done.now.scene (find_job js c.args.done.now.ticket.0)) c.as_slice.ensures.value (c.job_at.ensures.none c.in-None.is)) in
    subst (λ outs. Moves g.K.Kit.rules g.K.Kit.cut c.args.self (Painted c.args.done.now.ticket.0 c.args.done.now.scene) outs c.args.self) (sym (c.frames_only-outs.ensures ∙ ap frames_only c.new.ensures))
    (ignores g.K.Kit.rules g.K.Kit.cut c.args.self c.args.done.now.ticket.0 c.args.done.now.scene other)
