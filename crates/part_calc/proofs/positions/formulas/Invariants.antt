use Rattle.std.proofs.Common.{◌≡◌, take}
use Rattle.std.specs.List.{filter}
use Rattle.part_calc.specs.Contents.{is_formula}
use Rattle.part_calc.specs.Parts.{content_at}
use Rattle.part_calc.proofs.positions.formulas.Given as goal

abbrev pub invariant-loop-position : goal.invariant-loop-position
invariant-loop-position l = l.formulas.items ≡ filter (λ p. is_formula (content_at l.edited p)) (take l.position-index l.positions)
