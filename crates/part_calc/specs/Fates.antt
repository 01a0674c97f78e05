-- The fates of formulas: a value, and none of a circular one; and what is kept of them.
use Rattle.std.specs.Prelude.{◌≡◌, ℕ, Bool, true, List, [], Option, Some, None, unwrap_or, if◌then◌else◌}
use Rattle.std.specs.BTreeMap.{is_at, insert_entry}
use Rattle.std.specs.Map.{lookup}
use Rattle.std.specs.Option.{is_some}
use Rattle.formula_base.specs.declared.values.Value.{Value}
use Rattle.formula_base.specs.declared.values.Value.TheVariants.{Fault}
use Rattle.formula_base.specs.declared.values.CellFault.TheVariants.{Circ}
use Rattle.formula_base.specs.Ranges.{Position, position_cmp}
use Rattle.part_calc.specs.Contents.{content_of, is_formula}
use Rattle.part_calc.specs.Parts.{Part, content_at, with_text, is_circular, value_at}
use Rattle.part_calc.specs.Shown.{shown_value}

-- for some cells, each once, a value or none
abbrev pub Fates : Type 0
Fates = List (Position × Option Value)

-- what becomes of a cell's formula: its value, and none where it is circular
unfoldable pub fate_at : Part → Position → Option Value
fate_at part p = if is_circular part p then None else Some (value_at part p)

-- what stands for a cell
abbrev pub fate_in : Fates → Position → Option (Option Value)
fate_in fates p = lookup (is_at (position_cmp p)) fates

-- whether anything stands for a cell
abbrev pub is_fresh : Fates → Position → Bool
is_fresh fates p = is_some (fate_in fates p)

-- the value that stands for a cell first in `fresh`, and else in `kept`
unfoldable pub found_over : Fates → Fates → Position → Option Value
found_over fresh kept p = unwrap_or (fate_in fresh p) (unwrap_or (fate_in kept p) None)

-- what is fresh after a try at a cell: it was found before, it is found now, or it waits
abbrev pub fresh_after : Option Value → Option Value → Fates → Position → Fates
fresh_after (Some v) tried fresh p = fresh
fresh_after None (Some v) fresh p = insert_entry position_cmp fresh p (Some v)
fresh_after None None fresh p = fresh

-- what stands for a cell once something new was put over it, or nothing
abbrev pub put_over : Option (Option Value) → Option (Option Value) → Option (Option Value)
put_over None old = old
put_over (Some o) old = Some o

-- what is kept: for each formula what becomes of it when values are found from scratch
abbrev pub IsKept : Part → Fates → Type 0
IsKept part kept = (p : Position) → is_formula (content_at part p) ≡ true → fate_in kept p ≡ Some (fate_at part p)

-- what stands for a cell is right where it has a formula
abbrev pub IsRight : Part → Position × Option Value → Type 0
IsRight part e = is_formula (content_at part e.0) ≡ true → e.1 ≡ fate_at part e.0

-- what was computed after an edit, put over what is kept, is what is to be kept
pub record IsComputed (part : Part) (at : Position) (raw : List ℕ) (kept computed : Fates) : Type 0 where
  pub edited : is_fresh computed at ≡ true
  pub right : (p : Position) → is_formula (content_at (with_text part at raw) p) ≡ true → put_over (fate_in computed p) (fate_in kept p) ≡ Some (fate_at (with_text part at raw) p)

-- what a formula shows of which this stands
abbrev pub fate_shown : Option (Option Value) → List ℕ
fate_shown None = []
fate_shown (Some o) = shown_value (unwrap_or o (Fault Circ))

-- what a cell with this raw text shows, where this stands for it
abbrev pub text_shown : List ℕ → Option (Option Value) → List ℕ
text_shown raw found = if is_formula (content_of raw) then fate_shown found else raw
