use Rattle.http_write.specs.Texts.{response_lines}
use Rattle.http_write.proofs.Joins.{response_whole}
use Rattle.http_write.proofs.heads.response_head.Goals as goal

pub returns : goal.returns
returns c =
    let r = c.args.response.now in
    response_whole r.status (response_lines r) c.new-out.result.items c.put_status_line.new.out.items c.put_response_lines.new.out.items c.put.new.out.items
    c.new-out.ensures.items c.in_ok-put_status_line.ensures c.in_ok-put_response_lines.ensures c.in_ok-put.ensures
