use Rattle.std.proofs.Common.{◌≡◌, length, true}
use Rattle.wopi_host.specs.Targets.{token_from}
use Rattle.wopi_host.proofs.targets.token.Given as goal

abbrev pub invariant-loop-rest : goal.invariant-loop-rest
invariant-loop-rest l = token_from true l.query ≡ token_from l.begins l.rest

abbrev pub decreases-loop-rest : goal.decreases-loop-rest
decreases-loop-rest l = length l.rest
