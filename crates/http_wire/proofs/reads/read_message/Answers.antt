use Rattle.std.proofs.Common.{◌-◌, ◌∙◌, ap, length, take, drop, arith}
use Rattle.std.proofs.lemmas.Grind.{common_steps}
use Rattle.http_wire.specs.Messages.{start_of}
use Rattle.http_wire.proofs.Joins.{body_answer_at, body_fault_at}
use Rattle.http_wire.proofs.reads.read_message.Goals as goal

pub returns-in-Ok-read_body-clause-says : goal.returns-in-Ok-read_body-clause-says
returns-in-Ok-read_body-clause-says g c =
    body_answer_at g.H.Head.kind (g.W.Wire.talk c.args.wire.now) (g.W.Wire.talk c.read_head.new.wire) (g.W.Wire.talk c.read_body.new.wire)
    c.in-Ok.found.parts c.in-Ok.found.bytes.items c.in-Ok.found.len c.in-Ok-read_body.body c.start_of-start.result (take (length c.deref.result.now - c.in-Ok.found.len) (drop c.in-Ok.found.len c.deref.result.now)) c.with_body.result
    (c.start_of-start.ensures ∙ ap start_of c.framing.ensures) (grind (arith, common_steps, c.deref.ensures.value)) c.with_body.ensures c.in-Ok.ensures.found c.in-Ok-read_body.ensures.says

pub returns-in-Err-read_body-clause-says : goal.returns-in-Err-read_body-clause-says
returns-in-Err-read_body-clause-says g c =
    body_fault_at g.H.Head.kind (g.W.Wire.talk c.args.wire.now) (g.W.Wire.talk c.read_head.new.wire) (g.W.Wire.talk c.read_body.new.wire)
    c.in-Ok.found.parts c.in-Ok.found.bytes.items c.in-Ok.found.len c.in-Err-read_body.fault c.start_of-start.result (take (length c.deref.result.now - c.in-Ok.found.len) (drop c.in-Ok.found.len c.deref.result.now))
    (c.start_of-start.ensures ∙ ap start_of c.framing.ensures) (grind (arith, common_steps, c.deref.ensures.value)) c.in-Ok.ensures.found c.in-Err-read_body.ensures.says
