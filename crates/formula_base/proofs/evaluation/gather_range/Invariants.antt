use Rattle.std.proofs.Common.{◌≡◌, take}
use Rattle.std.specs.Prelude.{fold}
use Rattle.formula_base.specs.Gathering.{with_value}
use Rattle.formula_base.proofs.evaluation.gather_range.Given as goal

abbrev pub invariant-loop-value : goal.invariant-loop-value
invariant-loop-value g l = l.gathered ≡ fold with_value l.fn.gathered (take l.value-index l.value-items)
