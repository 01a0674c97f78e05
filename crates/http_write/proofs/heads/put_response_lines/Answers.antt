use Rattle.std.specs.Prelude.{codes}
use Rattle.http_write.specs.Texts.{size_lines, optional}
use Rattle.http_write.proofs.Joins.{three}
use Rattle.http_write.proofs.heads.put_response_lines.Goals as goal

pub returns : goal.returns
returns c =
    let r = c.args.response.now in
    three c.args.out.now.items c.put_line.new.out.items c.put_size.new.out.items c.put_optional.new.out.items (codes "Connection", codes "close") (size_lines r.status r.body) (optional (codes "X-WOPI-Lock") r.lock)
    c.in_ok-put_line.ensures (rw c.as_slice.ensures at c.in_ok-put_size.ensures) c.in_ok-put_optional.ensures
