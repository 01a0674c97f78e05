use Rattle.std.proofs.Common.{sym, subst, Err}
use Rattle.wopi_client.specs.Talks.{HearsOver}
use Rattle.wopi_client.proofs.Talking.{heard_fault}
use Rattle.wopi_client.proofs.talks.hear.Goals as goal

pub returns-in-Err-clause-heard : goal.returns-in-Err-clause-heard
returns-in-Err-clause-heard g c =
    subst (λ fault. HearsOver c.args.ask.now (g.W.Wire.talk c.args.wire.now) (g.W.Wire.talk c.read_response.new.wire) (Err fault)) (sym c.store_fault.ensures)
    (heard_fault c.args.ask.now (g.W.Wire.talk c.args.wire.now) (g.W.Wire.talk c.read_response.new.wire) c.in-Err.fault c.in-Err.ensures.says)
