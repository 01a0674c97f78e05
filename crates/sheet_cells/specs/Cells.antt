-- Raw texts by cell.
use Rattle.std.specs.Prelude.{ℕ, ◌<◌, Bool, ◌&&◌, nat_le, nat_eq, not, List, [], ◌∷◌, length, unwrap_or, IsTrue, refl}
use Rattle.std.specs.List.{list_all}
use Rattle.std.specs.Ordering.{nat_cmp, ordering_then}
use Rattle.std.specs.declared.cmp.Ordering.{Ordering}
use Rattle.std.specs.Map.{lookup, remove_entry}
use Rattle.std.specs.BTreeMap.{is_at, insert_entry}
use Rattle.std.specs.Coded.{Coded, coded×, coded_list, coded_ℕ, code_by}
use Rattle.sheet_cells.specs.declared.cells.CellRef.{CellRef}
use Rattle.sheet_cells.specs.declared.limits.TheConstants.{COLUMNS, ROWS, RAW_LIMIT}

-- by part, then row, then column
abbrev pub cell_cmp : CellRef → CellRef → Ordering
cell_cmp a b = ordering_then (nat_cmp a.part b.part) (ordering_then (nat_cmp a.row b.row) (nat_cmp a.col b.col))

-- how many parts there are, and the cells that have a raw text, in order, each with its text
pub record Texts : Type 0 where
  pub parts : ℕ
  pub texts : List (CellRef × List ℕ)

-- a cell of one of these parts
pub record IsCell (parts : ℕ) (at : CellRef) : Type 0 where
  pub part : at.part < parts
  pub row : at.row < ROWS
  pub col : at.col < COLUMNS

-- no byte of a raw text is below 32 or is 127; in UTF-8 these bytes stand for these characters alone
abbrev pub is_raw_byte : ℕ → Bool
is_raw_byte c = nat_le 32 c && not (nat_eq c 127)

-- a raw text that a cell may have: empty, or up to 1,024 (`RAW_LIMIT`) bytes without control characters
abbrev pub is_raw : List ℕ → Bool
is_raw raw = nat_le (length raw) RAW_LIMIT && list_all is_raw_byte raw

abbrev pub IsRaw : List ℕ → Type 0
IsRaw raw = IsTrue (is_raw raw)

-- the raw text of a cell, empty where it has none
abbrev pub text_at : List (CellRef × List ℕ) → CellRef → List ℕ
text_at texts at = unwrap_or (lookup (is_at (cell_cmp at)) texts) []

-- the texts with this one at the cell, and none there where it is empty
abbrev pub with_text : List (CellRef × List ℕ) → CellRef → List ℕ → List (CellRef × List ℕ)
with_text texts at [] = remove_entry (is_at (cell_cmp at)) texts
with_text texts at (c ∷ raw) = insert_entry cell_cmp texts at (c ∷ raw)

-- a cell as three numbers
abbrev pub coded_cell : Coded CellRef
coded_cell = code_by (ℕ × (ℕ × ℕ)) (coded× coded_ℕ (coded× coded_ℕ coded_ℕ)) (λ c. (c.part, (c.row, c.col))) (λ p. record { part = p.0; row = p.1.0; col = p.1.1 }) (λ _. refl)

abbrev pub coded_texts : Coded Texts
coded_texts = code_by (ℕ × List (CellRef × List ℕ)) (coded× coded_ℕ (coded_list (coded× coded_cell (coded_list coded_ℕ)))) (λ t. (t.parts, t.texts)) (λ p. record { parts = p.0; texts = p.1 }) (λ _. refl)
