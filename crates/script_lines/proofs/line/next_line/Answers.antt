use Rattle.std.proofs.Common.{◌≡◌, length, arith}
use Rattle.script_lines.proofs.Moves.{too_long}
use Rattle.script_lines.proofs.line.next_line.Goals as goal

pub returns-then-len-eq-LONGEST-clause-read : goal.returns-then-len-eq-LONGEST-clause-read
returns-then-len-eq-LONGEST-clause-read g c =
    let i = c.loop-room.invariant in
    let long : length c.loop-room.line.items ≡ 70000 = omega arith in
    too_long _ _ _ c.loop-room.line.items c.read.new.into c.in-Read.field-0 c.loop-room.room c.args.room.now
    i.taken c.in-Read.ensures.reads.2 c.in-Read.ensures.reads.0 c.in-Read.ensures.reads.1 (omega arith)
    c.if-byte-eq10.false i.unbroken long (omega arith) i.used
