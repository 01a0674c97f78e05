use Rattle.std.proofs.Common.{arith}
use Rattle.http_head.proofs.RequestHeads.{whole_scans}
use Rattle.http_head.proofs.requests.scan_head.Goals as goal

pub returns-in-Ok-Complete : goal.returns-in-Ok-Complete
returns-in-Ok-Complete c =
    whole_scans c.args.bytes.now c.parse_request.new.headers c.in-Ok-Complete.spans c.whole.result (omega arith) (rw c.in-Ok-Complete.field-0-is at c.in-Ok-Complete.ensures.within)
    (rw c.in-Ok-Complete.field-0-is at c.in-Ok-Complete.ensures.complete) c.whole.ensures
