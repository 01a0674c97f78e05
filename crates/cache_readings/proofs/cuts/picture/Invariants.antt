use Rattle.std.proofs.Common.{◌≡◌, length}
use Rattle.cache_readings.proofs.cuts.picture.Given as goal

abbrev pub invariant-loop-i : goal.invariant-loop-i
invariant-loop-i l = length l.rgba.items ≡ l.i
