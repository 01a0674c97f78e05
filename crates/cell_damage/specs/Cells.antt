-- Damaged cells as rectangles. A cell is a row and a column, each counted from 0.
use Rattle.std.specs.Prelude.{ℕ, ◌+◌, ◌*◌, ◌^◌, ◌<◌, Bool, ◌&&◌, nat_eq, List, [], ◌∷◌, map, if◌then◌else◌}
use Rattle.cool_base.specs.Points.{Rectangle}
use Rattle.kit_trait.specs.declared.values.Damage.{Damage}
use Rattle.cell_damage.specs.declared.limits.TheConstants.{CELL_WIDTH, CELL_HEIGHT}
use Rattle.cell_damage.specs.declared.stretches.Stretch.{Stretch}
use Rattle.cell_damage.specs.Rectangles.{damage_in}

-- a cell whose lower and right edges are numbers of 32 bits
abbrev pub IsInReach : ℕ × ℕ → Type 0
IsInReach p = ((p.0 + 1) * CELL_HEIGHT < 2 ^ 32) × ((p.1 + 1) * CELL_WIDTH < 2 ^ 32)

-- one cell as a stretch of cells in its row
abbrev pub one_cell : ℕ × ℕ → Stretch
one_cell p = record { row = p.0; col = p.1; count = 1 }

-- whether the second stretch begins where the first one ends, in the same row
abbrev pub is_next : Stretch → Stretch → Bool
is_next s t = nat_eq s.row t.row && nat_eq (s.col + s.count) t.col

-- a stretch before others: it and the first of them are one where they lie side by side
abbrev pub put_before : Stretch → List Stretch → List Stretch
put_before s [] = s ∷ []
put_before s (t ∷ ts) = if is_next s t then record s { count = s.count + t.count } ∷ ts else s ∷ t ∷ ts

-- the stretches of cells that come by rows and then columns
abbrev pub stretches : List (ℕ × ℕ) → List Stretch
stretches [] = []
stretches (p ∷ ps) = put_before (one_cell p) (stretches ps)

-- the points of a stretch
abbrev pub rect_of : Stretch → Rectangle
rect_of s = record { x = s.col * CELL_WIDTH; y = s.row * CELL_HEIGHT; w = s.count * CELL_WIDTH; h = CELL_HEIGHT }

-- the damage of a part in which these cells are damaged
unfoldable pub damage_of : ℕ → List (ℕ × ℕ) → List Damage
damage_of part cells = damage_in part (map rect_of (stretches cells))
