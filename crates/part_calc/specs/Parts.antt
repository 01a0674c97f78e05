-- The cells of one part, and their values from scratch.
use Rattle.std.specs.Prelude.{ℕ, Bool, List, [], ◌∷◌, map, unwrap_or}
use Rattle.std.specs.List.{filter}
use Rattle.std.specs.Map.{lookup, remove_entry}
use Rattle.std.specs.BTreeMap.{is_at, insert_entry}
use Rattle.calc_base.specs.Walks.{circular}
use Rattle.calc_base.specs.Values.{value}
use Rattle.formula_base.specs.declared.values.Value.{Value}
use Rattle.formula_base.specs.declared.values.Value.TheVariants.{Fault}
use Rattle.formula_base.specs.declared.values.CellFault.TheVariants.{Circ}
use Rattle.formula_base.specs.Ranges.{Position, position_cmp}
use Rattle.part_calc.specs.declared.contents.Content.{Content}
use Rattle.part_calc.specs.Contents.{content_of, is_formula, reads_in, value_with}

-- the cells of a part that have a raw text, by rows and then columns, each with its text
abbrev pub Part : Type 0
Part = List (Position × List ℕ)

-- the raw text of a cell, empty where it has none
unfoldable pub text_at : Part → Position → List ℕ
text_at part p = unwrap_or (lookup (is_at (position_cmp p)) part) []

-- the part with this text at the cell, and none there where it is empty
unfoldable pub with_text : Part → Position → List ℕ → Part
with_text part p [] = remove_entry (is_at (position_cmp p)) part
with_text part p (c ∷ raw) = insert_entry position_cmp part p (c ∷ raw)

-- what the cell's text says
abbrev pub content_at : Part → Position → Content
content_at part p = content_of (text_at part p)

-- the cells that have a formula
unfoldable pub formulas : Part → List Position
formulas part = map (λ e. e.0) (filter (λ e. is_formula (content_of e.1)) part)

-- the cells that a cell reads
abbrev pub reads_at : Part → Position → List Position
reads_at part p = reads_in (content_at part p)

-- the value of a cell where the other cells have these values
abbrev pub step_at : Part → Position → (Position → Value) → Value
step_at part p look = value_with (content_at part p) look

-- a cell is circular where a walk along reads begins at it that has more steps than the part has formula cells
unfoldable pub is_circular : Part → Position → Bool
is_circular part = circular (reads_at part) (formulas part)

-- the value of a cell: `#CIRC!` where it is circular, and else that of its text, the cells that it reads having their values by the same rule
unfoldable pub value_at : Part → Position → Value
value_at part = value (Fault Circ) (reads_at part) (formulas part) (step_at part)
