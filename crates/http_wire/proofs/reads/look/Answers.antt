use Rattle.http_wire.proofs.Phases.{begun_there}
use Rattle.http_wire.proofs.reads.look.Goals as goal

pub returns-then-is_open : goal.returns-then-is_open
returns-then-is_open g c =
    begun_there g.H.Head.kind c.args.bytes.now c.args.phase c.requires
    (c.is_open.ensures c.if-is_open.true)
