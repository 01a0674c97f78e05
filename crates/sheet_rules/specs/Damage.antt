-- What an input damages: the cells whose shown text it changed, as rectangles.
use Rattle.std.specs.Prelude.{ℕ, ◌<◌, List}
use Rattle.formula_base.specs.Ranges.{Position}
use Rattle.part_calc.specs.Shown.{changed_cells}
use Rattle.sheet_calc.specs.Books.{Parts, part_at}
use Rattle.kit_trait.specs.declared.values.Input.{Input}
use Rattle.kit_trait.specs.declared.values.Damage.{Damage}
use Rattle.sheet_cells.specs.declared.limits.TheConstants.{COLUMNS, ROWS}
use Rattle.cell_damage.specs.Cells.{damage_of}
use Rattle.sheet_rules.specs.Typing.{Sheet, stepped}

-- a cell of a part
abbrev pub IsPosition : Position → Type 0
IsPosition p = (p.0 < ROWS) × (p.1 < COLUMNS)

-- the damage between two states of the parts, in one of them
abbrev pub damage_between : Parts → Parts → ℕ → List Damage
damage_between old new part = damage_of part (changed_cells (part_at old part) (part_at new part))

-- an input damages the cells of its part whose shown text it changes
abbrev pub step_damage : Sheet → Input → List Damage
step_damage c input = damage_between c.parts (stepped c input).parts input.part
