use Rattle.std.proofs.Common.{◌≡◌, true}
use Rattle.formula_base.specs.Ranges.{Position}
use Rattle.part_calc.specs.Fates.{found_over, is_fresh}
use Rattle.part_calc.proofs.FindLaws.{Held}
use Rattle.part_calc.proofs.finding.sweep.Given as goal

abbrev pub invariant-loop-position : goal.invariant-loop-position
invariant-loop-position l = record {
  held : Held l.edited (found_over l.fresh.entries l.kept.entries) l.waiting l.position-index l.left.items;
  stay : (p : Position) → is_fresh l.fn.fresh.entries p ≡ true → is_fresh l.fresh.entries p ≡ true;
}
