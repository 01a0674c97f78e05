use Rattle.std.proofs.Common.{length}
use Rattle.http_head.proofs.fields.+lines_said.Given as goal

abbrev pub decreases-lines_said : goal.decreases-lines_said
decreases-lines_said l = length l.lines.now
