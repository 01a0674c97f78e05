use Rattle.std.specs.Prelude.{codes}
use Rattle.http_write.specs.Texts.{length_lines, optional, old_lines}
use Rattle.http_write.proofs.Joins.{six}
use Rattle.http_write.proofs.heads.put_lines.Goals as goal

pub returns : goal.returns
returns c =
    let r = c.args.request.now in
    six c.args.out.now.items c.put_line.new.out.items c.put_line-2.new.out.items c.put_lengths.new.out.items c.put_optional.new.out.items c.put_optional-2.new.out.items c.put_old.new.out.items
    (codes "Host", c.args.host.now) (codes "Connection", codes "close") (length_lines r.method r.body) (optional (codes "X-WOPI-Lock") r.lock) (optional (codes "X-WOPI-Override") r.over) (old_lines r.old_lock)
    (rw c.as_bytes.ensures.value at c.in_ok-put_line.ensures) c.in_ok-put_line-2.ensures (rw c.as_slice.ensures at c.in_ok-put_lengths.ensures) c.in_ok-put_optional.ensures c.in_ok-put_optional-2.ensures c.in_ok-put_old.ensures
