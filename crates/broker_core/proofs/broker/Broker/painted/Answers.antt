use Rattle.std.proofs.Common.{◌≡◌, ◌∙◌, Option, Some, sym, ap}
use Rattle.std.specs.Prelude.{option_map}
use Rattle.document_machine.specs.Event.{Painted}
use Rattle.document_machine.specs.Held.{Held}
use Rattle.broker_core.proofs.Steps.{moves_go}
use Rattle.broker_core.proofs.broker.Broker.painted.Goals as goal

pub returns-clause-step : goal.returns-clause-step
returns-clause-step g c =
    let is : Some c.into_inner-core.result ≡ c.args.self.now = ap Some c.into_inner-core.ensures ∙ ap (option_map (λ core. core.value)) (sym c.in-Some.is ∙ c.take.ensures.value) ∙ c.self.view_is in
    moves_go g.K.Kit.rules g.K.Kit.cut c.args.self.now (Some c.in_ok-new.field-0.value) c.into_inner-core.result c.in_ok-core.core (Painted c.args.done.now.ticket.0 c.args.done.now.scene) c.in_ok-core.outs
    (sym is) (ap Some c.in_ok-new.ensures.ok) c.in_ok-core.ensures
