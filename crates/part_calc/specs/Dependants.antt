-- The cells that an edit of one cell can change: it, and each that reads such a cell.
use Rattle.std.specs.Prelude.{◌≡◌, Bool, true}
use Rattle.formula_base.specs.Ranges.{Position}
use Rattle.part_calc.specs.Finding.{is_listed}
use Rattle.part_calc.specs.Parts.{Part, reads_at}

-- cells among which are the edited one, and each that reads one of them before the edit
pub record Depend (part : Part) (at : Position) (affected : Position → Bool) : Type 0 where
  pub start : affected at ≡ true
  pub closed : (c r : Position) → affected r ≡ true → is_listed (reads_at part c) r ≡ true → affected c ≡ true
