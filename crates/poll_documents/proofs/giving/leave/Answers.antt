use Rattle.std.proofs.Common.{◌≡◌, ◌∙◌, false, sym, rules}
use Rattle.poll_documents.proofs.Leaving.{gone_stays, goes_alive, of_some}
use Rattle.poll_documents.proofs.giving.leave.Goals as goal

pub returns-then-not-is_live-clause-step : goal.returns-then-not-is_live-clause-step
returns-then-not-is_live-clause-step g c =
    let gone : c.is_live.result ≡ false = search rules in
    gone_stays g.K.Kit.rules g.K.Kit.cut c.args.broker.now c.args.view.0 c.requires
    (sym c.is_live.ensures ∙ gone)

pub returns-clause-step : goal.returns-clause-step
returns-clause-step g c = of_some _ c.args.broker.now c.requires c.leave.ensures.step

pub returns-clause-alive : goal.returns-clause-alive
returns-clause-alive g c =
    goes_alive g.K.Kit.rules g.K.Kit.cut c.args.broker.now c.args.view.0 c.leave.new.self
    (of_some _ c.args.broker.now c.requires c.leave.ensures.step)
