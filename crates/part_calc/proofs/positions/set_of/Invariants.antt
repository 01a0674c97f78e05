use Rattle.std.proofs.Common.{◌≡◌, take}
use Rattle.formula_base.specs.Ranges.{Position}
use Rattle.part_calc.specs.Finding.{is_listed}
use Rattle.part_calc.proofs.positions.set_of.Given as goal

abbrev pub invariant-loop-position : goal.invariant-loop-position
invariant-loop-position l = (p : Position) → is_listed l.set.keys p ≡ is_listed (take l.position-index l.listed) p
