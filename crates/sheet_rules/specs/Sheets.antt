-- What holds of every sheet document that a file and inputs lead to.
use Rattle.std.specs.Prelude.{◌≡◌, ℕ, ◌≤◌, Bool, List, length, refl}
use Rattle.std.specs.List.{AllByRecursion}
use Rattle.std.specs.Coded.{Coded, coded×, coded_list, coded_ℕ, coded_bool, code_by}
use Rattle.sheet_cells.specs.declared.cells.CellRef.{CellRef}
use Rattle.sheet_cells.specs.Cells.{IsCell, coded_cell}
use Rattle.formula_base.specs.Ranges.{Position}
use Rattle.sheet_calc.specs.Books.{Parts, IsBook}
use Rattle.sheet_calc.specs.declared.limits.TheConstants.{FILE_LIMIT}
use Rattle.sheet_calc.specs.FileText.{file_text}
use Rattle.sheet_rules.specs.declared.cursors.Cursor.{Cursor}
use Rattle.sheet_rules.specs.Typing.{Sheet}

-- every cursor stands in a cell of so many parts
abbrev pub AreCursors : ℕ → List (ℕ × Cursor) → Type 0
AreCursors parts cursors = AllByRecursion (λ e. IsCell parts e.1.at) cursors

-- the parts are such as a book can have, the file's text has at most 2,097,152 (`FILE_LIMIT`) bytes, and every cursor stands in a cell
pub record IsSheet (c : Sheet) : Type 0 where
  pub book : IsBook c.parts
  pub short : length (file_text c.parts) ≤ FILE_LIMIT
  pub cursors : AreCursors (length c.parts) c.cursors

abbrev pub coded_cursor : Coded Cursor
coded_cursor = code_by (CellRef × Bool) (coded× coded_cell coded_bool) (λ c. (c.at, c.fresh)) (λ p. record { at = p.0; fresh = p.1 }) (λ _. refl)

abbrev pub coded_sheet : Coded Sheet
coded_sheet =
    code_by (List (List (Position × List ℕ)) × List (ℕ × Cursor)) (coded× (coded_list (coded_list (coded× (coded× coded_ℕ coded_ℕ) (coded_list coded_ℕ)))) (coded_list (coded× coded_ℕ coded_cursor)))
    (λ c. (c.parts, c.cursors)) (λ p. record { parts = p.0; cursors = p.1 }) (λ _. refl)
