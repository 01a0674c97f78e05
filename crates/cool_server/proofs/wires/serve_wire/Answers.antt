use Rattle.std.proofs.lemmas.Result.{err_from_is_err_and}
use Rattle.cool_server.proofs.ServedWires.{refused, written, cut_short, out_while_reading, out_while_answering, out_before_writing}
use Rattle.cool_server.proofs.wires.serve_wire.Goals as goal

pub returns-in-Err-Wire : goal.returns-in-Err-Wire
returns-in-Err-Wire g c = record {
  served = refused _ (g.W.Wire.talk c.args.wire.now) _ (g.W.Wire.faults c.args.wire.now) _ c.in-Err-Wire.field-0-0 c.requires.new
      (rw c.in-Err-Wire.field-0-is at c.in-Err-Wire.ensures.says) (rw c.in-Err-Wire.field-0-is at c.in-Err-Wire.ensures.cause);
}

pub returns-in-Err-Memory : goal.returns-in-Err-Memory
returns-in-Err-Memory g c = record {
  served = out_while_reading _ (g.W.Wire.talk c.args.wire.now) _ _ c.requires.new (rw c.in-Err-Memory.field-0-is at c.in-Err-Memory.ensures.says);
}

pub returns-in_err-response : goal.returns-in_err-response
returns-in_err-response g c = record {
  served =
      let p = err_from_is_err_and c.from_residual.result c.from_residual.ensures.1 in
      rw p.1 (out_while_answering _ _ c.in-Ok.request c.now-now.result (g.W.Wire.talk c.args.wire.now) _ _ c.requires.new c.in-Ok.ensures.says c.now-now.ensures c.in_err-response.ensures.err (c.in_err-response.ensures.cause.kept (λ is. cc)));
}

pub returns-in-Ok-write_response : goal.returns-in-Ok-write_response
returns-in-Ok-write_response g c = record {
  served = written _ _ c.in-Ok.request c.now-now.result c.in_ok-response.response (g.W.Wire.talk c.args.wire.now) (g.W.Wire.talk c.read_request.new.wire) _ 0 _
      c.requires.new c.in-Ok.ensures.says c.now-now.ensures c.in_ok-response.ensures.ok c.in_ok-response.ensures.cause c.in-Ok-write_response.ensures.writes;
}

pub returns-in-Err-Wire-write_response : goal.returns-in-Err-Wire-write_response
returns-in-Err-Wire-write_response g c = record {
  served = cut_short _ _ c.in-Ok.request c.now-now.result c.in_ok-response.response c.in-Err-Wire-write_response.field-0-0
      (g.W.Wire.talk c.args.wire.now) (g.W.Wire.talk c.read_request.new.wire) _ (g.W.Wire.faults c.read_request.new.wire) _
      c.requires.new c.in-Ok.ensures.says c.now-now.ensures c.in_ok-response.ensures.ok c.in_ok-response.ensures.cause
      (rw c.in-Err-Wire-write_response.field-0-is at c.in-Err-Wire-write_response.ensures.writes)
      (rw c.in-Err-Wire-write_response.field-0-is at c.in-Err-Wire-write_response.ensures.cause);
}

pub returns : goal.returns
returns g c = record {
  served = out_before_writing _ _ c.in-Ok.request c.now-now.result c.in_ok-response.response (g.W.Wire.talk c.args.wire.now) (g.W.Wire.talk c.read_request.new.wire) _ _
      c.requires.new c.in-Ok.ensures.says c.now-now.ensures c.in_ok-response.ensures.ok c.in_ok-response.ensures.cause
      (rw c.in-Err-Memory-write_response.field-0-is at c.in-Err-Memory-write_response.ensures.writes);
}
