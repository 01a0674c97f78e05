use Rattle.std.proofs.Common.{◌≡◌, true, length}
use Rattle.formula_base.specs.Ranges.{Position}
use Rattle.part_calc.specs.Finding.{IsSound, Covers}
use Rattle.part_calc.specs.Fates.{found_over, is_fresh}
use Rattle.part_calc.proofs.finding.find_values.Given as goal

abbrev pub invariant-loop-waiting : goal.invariant-loop-waiting
invariant-loop-waiting l = record {
  sound : IsSound l.edited (found_over l.fresh.entries l.kept.entries);
  covers : Covers l.edited (found_over l.fresh.entries l.kept.entries) l.waiting.items;
  count : l.count ≡ length l.waiting.items;
  stay : (p : Position) → is_fresh l.fn.fresh.entries p ≡ true → is_fresh l.fresh.entries p ≡ true;
}

abbrev pub decreases-loop-waiting : goal.decreases-loop-waiting
decreases-loop-waiting l = l.count
