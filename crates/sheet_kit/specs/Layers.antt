-- A sheet's picture layer by layer: the lines at the right edges of columns, those at the lower edges of rows,
-- and the texts.
use Rattle.std.specs.Prelude.{ℕ, ◌+◌, ◌*◌, ◌/◌, ◌%◌, Bool, ◌&&◌, ◌||◌, nat_lt, nat_le, if◌then◌else◌}
use Rattle.cool_base.specs.Points.{Rectangle}
use Rattle.kit_trait.specs.Pictures.{Colour, white}
use Rattle.sheet_cells.specs.declared.limits.TheConstants.{COLUMNS}
use Rattle.cell_damage.specs.declared.limits.TheConstants.{CELL_WIDTH, CELL_HEIGHT}
use Rattle.sheet_rules.specs.declared.limits.TheConstants.{PART_WIDTH, PART_HEIGHT}
use Rattle.sheet_rules.specs.Typing.{is_inside}
use Rattle.sheet_rules.specs.Colours.{grey, is_edge, is_line}

-- the line of a column, and that of a row, as rectangles
abbrev pub column_line : ℕ → Rectangle
column_line col = record { x = col * CELL_WIDTH + 945; y = 0; w = 15; h = PART_HEIGHT }

abbrev pub row_line : ℕ → Rectangle
row_line row = record { x = 0; y = row * CELL_HEIGHT + 225; w = PART_WIDTH; h = 15 }

-- whether a point lies on the line of a column before `count`, and of a row before `count`
abbrev pub on_columns : ℕ → ℕ → ℕ → Bool
on_columns count x y = is_inside x y && (nat_lt (x / CELL_WIDTH) count && nat_le 945 (x % CELL_WIDTH))

abbrev pub on_rows : ℕ → ℕ → ℕ → Bool
on_rows count x y = is_inside x y && (nat_lt (y / CELL_HEIGHT) count && nat_le 225 (y % CELL_HEIGHT))

-- whether it lies on the line of any column, or of a row before `count`
abbrev pub on_grid_to : ℕ → ℕ → ℕ → Bool
on_grid_to count x y = on_columns COLUMNS x y || on_rows count x y

-- the colour of a point where this is painted grey, on white
abbrev pub lined : Bool → Colour
lined b = if b then grey else white

-- with lines or without: the points of a cell that no line takes
abbrev pub cell_within : Bool → ℕ → ℕ → Rectangle
cell_within lines row col =
    record { x = col * CELL_WIDTH; y = row * CELL_HEIGHT; w = if lines then 945 else CELL_WIDTH; h = if lines then 225 else CELL_HEIGHT }

-- whether a point lies where lines are
abbrev pub on_edges : ℕ → ℕ → Bool
on_edges x y = is_inside x y && is_edge (x % CELL_WIDTH) (y % CELL_HEIGHT)

-- with lines or without: whether a point lies on one
abbrev pub on_lines : Bool → ℕ → ℕ → Bool
on_lines lines x y = is_inside x y && is_line lines (x % CELL_WIDTH) (y % CELL_HEIGHT)
