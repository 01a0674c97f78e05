-- What is kept of a part beside its values.
use Rattle.std.specs.Prelude.{ℕ, ◌<◌, ◌≤◌, List, length, IsTrue}
use Rattle.std.specs.List.{AllByRecursion}
use Rattle.std.specs.List.Sorted.{IsStrictlySortedBy}
use Rattle.std.specs.Map.{keys_of}
use Rattle.std.specs.Str.{is_utf8}
use Rattle.sheet_cells.specs.Cells.{IsRaw}
use Rattle.sheet_cells.specs.declared.limits.TheConstants.{COLUMNS, ROWS}
use Rattle.formula_base.specs.Ranges.{Position, position_cmp}
use Rattle.part_calc.specs.Parts.{Part}

-- a cell of a part with its raw text: some characters, none of them a control character
pub record IsEntry (e : Position × List ℕ) : Type 0 where
  pub row : e.0.0 < ROWS
  pub column : e.0.1 < COLUMNS
  pub some : 1 ≤ length e.1
  pub raw : IsRaw e.1
  pub utf8 : IsTrue (is_utf8 e.1)

-- the cells of a part come by rows and then columns, each once, with raw texts that a cell may have
pub record IsPart (part : Part) : Type 0 where
  pub ordered : IsStrictlySortedBy position_cmp (keys_of part)
  pub entries : AllByRecursion IsEntry part
