use Rattle.std.proofs.Common.{◌≡◌, drop}
use Rattle.http_head.specs.Phases.{steps}
use Rattle.http_head.proofs.phases.HeadPhase.steps.Given as goal

abbrev pub invariant-loop-byte : goal.invariant-loop-byte
invariant-loop-byte l = steps l.fn.self l.bytes ≡ steps l.phase (drop l.byte-index l.bytes)
