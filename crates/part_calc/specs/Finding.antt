-- Finding the values of a part cell by cell.
use Rattle.std.specs.Prelude.{◌≡◌, ◌≤◌, Bool, true, false, List, [], ◌∷◌, ◌++◌, length, Option, Some, None, unwrap_or, if◌then◌else◌}
use Rattle.std.specs.List.{list_all, list_any, AllByRecursion}
use Rattle.std.specs.Option.{is_some, is_none}
use Rattle.std.specs.BTreeMap.{is_at}
use Rattle.formula_base.specs.declared.values.Value.{Value}
use Rattle.formula_base.specs.declared.values.Value.TheVariants.{Fault}
use Rattle.formula_base.specs.declared.values.CellFault.TheVariants.{Circ}
use Rattle.formula_base.specs.Ranges.{Position, position_cmp}
use Rattle.part_calc.specs.declared.contents.Content.{Content}
use Rattle.part_calc.specs.declared.contents.Content.TheVariants.{Plain, Formula}
use Rattle.part_calc.specs.Contents.{is_formula}
use Rattle.part_calc.specs.Parts.{Part, content_at, reads_at, step_at, is_circular, value_at}
use Rattle.part_calc.specs.Fates.{fate_at}

-- what was found for each cell
abbrev pub Known : Type 0
Known = Position → Option Value

-- what is known once this value was found at a cell
abbrev pub with_found : Known → Position → Value → Known
with_found known p v q = if is_at (position_cmp q) p then Some v else known q

abbrev pub seen_in : Content → Option Value → Option Value
seen_in (Plain v) found = Some v
seen_in (Formula e) found = found

-- the value of a cell as far as it is seen: a cell without a formula has its own, another the one that was found
unfoldable pub seen_at : Part → Known → Position → Option Value
seen_at part known p = seen_in (content_at part p) (known p)

-- the value of a cell for a formula that names it
abbrev pub look_at : Part → Known → Position → Value
look_at part known p = unwrap_or (seen_at part known p) (Fault Circ)

-- whether each cell that a cell reads is seen
abbrev pub is_ready : Part → Known → Position → Bool
is_ready part known p = list_all (λ r. is_some (seen_at part known r)) (reads_at part p)

-- the value of a cell, where it can be found
unfoldable pub attempted : Part → Known → Position → Option Value
attempted part known p = if is_ready part known p then Some (step_at part p (look_at part known)) else None

-- what is known, and what waits, after a try at a cell: it was found before, it is found now, or it waits
abbrev pub known_after : Option Value → Option Value → Known → Position → Known
known_after (Some v) tried known p = known
known_after None (Some v) known p = with_found known p v
known_after None None known p = known

abbrev pub left_after : Option Value → Option Value → List Position → Position → List Position
left_after (Some v) tried left p = left
left_after None (Some v) left p = left
left_after None None left p = left ++ p ∷ []

-- the values that are seen are right, and their cells are not circular
abbrev pub IsSound : Part → Known → Type 0
IsSound part known = (p : Position) (v : Value) → seen_at part known p ≡ Some v → (is_circular part p ≡ false) × (value_at part p ≡ v)

-- whether a cell is in a list
abbrev pub is_listed : List Position → Position → Bool
is_listed positions p = list_any (is_at (position_cmp p)) positions

-- a cell that isn't circular and isn't seen waits
abbrev pub Covers : Part → Known → List Position → Type 0
Covers part known waiting =
    (p : Position) → is_circular part p ≡ false → is_none (seen_at part known p) ≡ true → is_listed waiting p ≡ true

-- each of these reads a cell that isn't seen
abbrev pub AllWait : Part → Known → List Position → Type 0
AllWait part known left = AllByRecursion (λ p. list_any (λ r. is_none (seen_at part known r)) (reads_at part p) ≡ true) left

-- what a sweep over the waiting cells leaves
pub record IsSwept (part : Part) (known : Known) (waiting left : List Position) : Type 0 where
  pub sound : IsSound part known
  pub covers : Covers part known left
  pub fewer : length left ≤ length waiting
  pub still : length left ≡ length waiting → AllWait part known left

-- for each formula that was found what becomes of it
abbrev pub AreFound : Part → Known → Type 0
AreFound part known = (p : Position) → is_formula (content_at part p) ≡ true → known p ≡ fate_at part p
