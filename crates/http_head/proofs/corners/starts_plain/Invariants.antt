use Rattle.std.proofs.Common.{◌≡◌, drop}
use Rattle.http_head.specs.Corners.{starts_plain}
use Rattle.http_head.proofs.corners.starts_plain.Given as goal

abbrev pub invariant-loop-byte : goal.invariant-loop-byte
invariant-loop-byte l = starts_plain l.bytes ≡ starts_plain (drop l.byte-index l.bytes)
