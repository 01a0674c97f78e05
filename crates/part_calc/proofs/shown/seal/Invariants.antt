use Rattle.std.proofs.Common.{◌≡◌}
use Rattle.part_calc.proofs.shown.seal.Given as goal

abbrev pub invariant-loop-position : goal.invariant-loop-position
invariant-loop-position l = l.fates.items ≡ l.yielded
