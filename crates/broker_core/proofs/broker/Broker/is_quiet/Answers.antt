use Rattle.std.proofs.Common.{◌≡◌, ◌↔◌, Some, IsTrue, sym, ap, subst, ◌∙◌}
use Rattle.std.specs.Prelude.{IsSomeAnd, option_map}
use Rattle.document_machine.specs.Quiet.{IsQuiet}
use Rattle.broker_core.proofs.Rest.{test_is}
use Rattle.broker_core.proofs.broker.Broker.is_quiet.Goals as goal

pub returns-in-Some-clause-quiet : goal.returns-in-Some-clause-quiet
returns-in-Some-clause-quiet g c =
    let is : Some c.deref.result.now ≡ c.args.self.now = ap Some c.deref.ensures ∙ ap (option_map (λ core. core.value)) (sym c.in-Some.is) ∙ c.self.view_is in
    subst (λ broker. IsTrue c.is_quiet.result ↔ IsSomeAnd broker (λ held. IsQuiet g.K.Kit.rules held.document)) is (test_is g.K.Kit.rules (Some c.deref.result.now) c.is_quiet.result c.is_quiet.ensures)
