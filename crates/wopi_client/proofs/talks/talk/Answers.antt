use Rattle.std.proofs.Common.{sym, subst, Err}
use Rattle.wopi_client.specs.Talks.{TalksOver}
use Rattle.wopi_client.proofs.Talking.{talk_heard, talk_failed}
use Rattle.wopi_client.proofs.talks.talk.Goals as goal

pub returns-in-Ok-clause-talks : goal.returns-in-Ok-clause-talks
returns-in-Ok-clause-talks g c = talk_heard c.args.host.now c.args.ask.now (g.W.Wire.talk c.args.wire.now) (g.W.Wire.talk c.send_ask.new.wire) (g.W.Wire.talk c.hear.new.wire) c.hear.result c.in-Ok.ensures.writes c.hear.ensures.heard

pub returns-in-Err-clause-talks : goal.returns-in-Err-clause-talks
returns-in-Err-clause-talks g c =
    subst (λ fault. TalksOver c.args.host.now c.args.ask.now (g.W.Wire.talk c.args.wire.now) (g.W.Wire.talk c.send_ask.new.wire) (Err fault)) (sym c.store_fault.ensures)
    (talk_failed c.args.host.now c.args.ask.now (g.W.Wire.talk c.args.wire.now) (g.W.Wire.talk c.send_ask.new.wire) c.in-Err.fault c.in-Err.ensures.writes)
