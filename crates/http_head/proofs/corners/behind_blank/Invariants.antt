use Rattle.std.proofs.Common.{◌≡◌, length}
use Rattle.http_head.specs.Corners.{behind_blank}
use Rattle.http_head.proofs.corners.behind_blank.Given as goal

abbrev pub invariant-loop-rest : goal.invariant-loop-rest
invariant-loop-rest l = behind_blank l.fn.bytes ≡ behind_blank l.rest

abbrev pub decreases-loop-rest : goal.decreases-loop-rest
decreases-loop-rest l = length l.rest
