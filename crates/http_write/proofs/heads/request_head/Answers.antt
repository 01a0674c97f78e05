use Rattle.http_write.specs.Texts.{method_text, request_lines}
use Rattle.http_write.proofs.Joins.{request_whole}
use Rattle.http_write.proofs.heads.request_head.Goals as goal

pub returns : goal.returns
returns c =
    let r = c.args.request.now in
    request_whole (method_text r.method) r.target (request_lines c.args.host.now r) c.new-out.result.items c.put_request_line.new.out.items c.put_lines.new.out.items c.put.new.out.items
    c.new-out.ensures.items c.in_ok-put_request_line.ensures c.in_ok-put_lines.ensures c.in_ok-put.ensures
