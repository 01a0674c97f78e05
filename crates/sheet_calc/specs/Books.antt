-- The parts of a sheet document.
use Rattle.std.specs.Prelude.{◌≡◌, ℕ, ◌≤◌, List, [], length, slice_index_or, slice_set}
use Rattle.std.specs.List.{Contains, AllByRecursion}
use Rattle.sheet_cells.specs.declared.cells.CellRef.{CellRef}
use Rattle.sheet_cells.specs.declared.limits.TheConstants.{MOST_PARTS}
use Rattle.formula_base.specs.Ranges.{Position}
use Rattle.part_calc.specs.Parts.{Part, text_at, with_text}
use Rattle.part_calc.specs.Kept.{IsPart}
use Rattle.part_calc.specs.Shown.{shown_at, changed_cells}
use Rattle.sheet_calc.specs.declared.changed.Changed.{Changed}

-- the parts in order: of each, the cells that have a raw text
abbrev pub Parts : Type 0
Parts = List Part

-- parts that a book can have: 1 to 16 (`MOST_PARTS`), and in each the cells by rows and then columns, each once, with raw texts that a cell may have
pub record IsBook (parts : Parts) : Type 0 where
  pub some : 1 ≤ length parts
  pub few : length parts ≤ MOST_PARTS
  pub each : AllByRecursion IsPart parts

-- a cell's position in its part
abbrev pub position_of : CellRef → Position
position_of at = (at.row, at.col)

-- a part by its number
abbrev pub part_at : Parts → ℕ → Part
part_at parts n = slice_index_or parts n []

-- the raw text of a cell
unfoldable pub text_of : Parts → CellRef → List ℕ
text_of parts at = text_at (part_at parts at.part) (position_of at)

-- what a cell shows: its part's values are found from scratch
unfoldable pub shown_of : Parts → CellRef → List ℕ
shown_of parts at = shown_at (part_at parts at.part) (position_of at)

-- the parts with this raw text at the cell
unfoldable pub with_cell : Parts → CellRef → List ℕ → Parts
with_cell parts at raw = slice_set parts at.part (with_text (part_at parts at.part) (position_of at) raw)

-- the cells of a part whose shown text differs, by rows and then columns
unfoldable pub changed_in : Parts → Parts → ℕ → Changed
changed_in old new n = record { part = n; positions = changed_cells (part_at old n) (part_at new n) }

-- whether a cell is among the changed ones
abbrev pub IsAmong : Changed → CellRef → Type 0
IsAmong changed at = (at.part ≡ changed.part) × Contains changed.positions (position_of at)
