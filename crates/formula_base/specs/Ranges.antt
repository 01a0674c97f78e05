-- The cells between two corners.
use Rattle.std.specs.Prelude.{ℕ, ◌+◌, ◌-◌, min, max, List, map}
use Rattle.std.specs.List.{flat_map, range_with_len}
use Rattle.std.specs.Ordering.{nat_cmp, ordering_then}
use Rattle.std.specs.declared.cmp.Ordering.{Ordering}

-- a cell of a part: its row and its column
abbrev pub Position : Type 0
Position = ℕ × ℕ

-- the numbers from the lesser of two to the greater
abbrev pub span : ℕ → ℕ → List ℕ
span a b = range_with_len (min a b) (max a b - min a b + 1)

-- the cells of one row
abbrev pub row_cells : List ℕ → ℕ → List Position
row_cells columns row = map (λ column. (row, column)) columns

-- the cells between two corners, in whichever order the corners come, row by row
abbrev pub cells_between : Position → Position → List Position
cells_between p q = flat_map (row_cells (span p.1 q.1)) (span p.0 q.0)

-- by rows, and then by columns
abbrev pub position_cmp : Position → Position → Ordering
position_cmp p q = ordering_then (nat_cmp p.0 q.0) (nat_cmp p.1 q.1)
