use Rattle.std.proofs.Common.{length}
use Rattle.http_head.proofs.fields.+has_line.Given as goal

abbrev pub decreases-has_line : goal.decreases-has_line
decreases-has_line l = length l.lines.now
