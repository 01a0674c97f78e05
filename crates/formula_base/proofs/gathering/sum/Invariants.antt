use Rattle.std.proofs.Common.{◌≡◌, ◌*◌, ◌^◌, take, pos, ◌+ℤ◌, neg_ℤ, ◌≤ℤ◌, fold}
use Rattle.formula_base.proofs.gathering.sum.Given as goal

abbrev pub invariant-loop-number : goal.invariant-loop-number
invariant-loop-number l =
    (l.total ≡ fold ◌+ℤ◌ (pos 0) (take l.number-index l.numbers)) × (neg_ℤ (pos (l.number-index * 2 ^ 63)) ≤ℤ l.total) × (l.total ≤ℤ pos (l.number-index * 2 ^ 63))
