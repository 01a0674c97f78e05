-- What a scene holds: the texts that the cells of its area show.
use Rattle.std.specs.Prelude.{ℕ, zero, suc, ◌+◌, ◌-◌, ◌/◌, ◌%◌, ◌==◌, min, Bool, ◌&&◌, nat_eq, List, [], ◌∷◌, ◌++◌, length, if◌then◌else◌}
use Rattle.std.specs.List.{list_any}
use Rattle.kit_trait.specs.Pictures.{Colour, white}
use Rattle.tile_key.specs.Places.{Place}
use Rattle.sheet_cells.specs.declared.cells.CellRef.{CellRef}
use Rattle.sheet_cells.specs.declared.limits.TheConstants.{COLUMNS, ROWS}
use Rattle.cell_damage.specs.declared.limits.TheConstants.{CELL_WIDTH, CELL_HEIGHT}
use Rattle.sheet_calc.specs.Books.{Parts, shown_of}
use Rattle.sheet_rules.specs.declared.cuts.ShownText.{ShownText}
use Rattle.sheet_rules.specs.Typing.{is_inside}
use Rattle.sheet_rules.specs.Colours.{black, grey, is_line, is_lettered}

-- the text of a cell, where it shows one
unfoldable pub text_in : Parts → CellRef → List ShownText
text_in parts at =
    if length (shown_of parts at) == 0 then []
    else record { row = at.row; col = at.col; text = shown_of parts at } ∷ []

-- the texts of so many cells of a row, from column `col` on
abbrev pub texts_in_row : Parts → ℕ → ℕ → ℕ → ℕ → List ShownText
texts_in_row parts part row col zero = []
texts_in_row parts part row col (suc n) = texts_in_row parts part row col n ++ text_in parts (record { part = part; row = row; col = col + n })

-- the texts of so many rows of `across` cells, from row `row` on
abbrev pub texts_in_rows : Parts → ℕ → ℕ → ℕ → ℕ → ℕ → List ShownText
texts_in_rows parts part row col across zero = []
texts_in_rows parts part row col across (suc n) =
    texts_in_rows parts part row col across n ++ texts_in_row parts part (row + n) col across

-- how many of the first `limit` cells, each of `unit` twips, a side of an area meets that begins at `pos`
abbrev pub cells_met : ℕ → ℕ → ℕ → ℕ → ℕ
cells_met pos size unit limit = min ((pos + size - 1) / unit + 1) limit - pos / unit

-- the texts of the cells that an area meets, by rows and then columns
unfoldable pub texts_of : Parts → Place → List ShownText
texts_of parts p =
    texts_in_rows parts p.part (p.posy / CELL_HEIGHT) (p.posx / CELL_WIDTH) (cells_met p.posx p.tilewidth CELL_WIDTH COLUMNS) (cells_met p.posy p.tileheight CELL_HEIGHT ROWS)

-- whether the point (x, y) lies on a dot of the text
abbrev pub is_dot_of : ℕ → ℕ → ShownText → Bool
is_dot_of x y t = (nat_eq t.row (y / CELL_HEIGHT) && nat_eq t.col (x / CELL_WIDTH)) && is_lettered t.text (x % CELL_WIDTH) (y % CELL_HEIGHT)

-- with lines or without: the colour of a point where the cells show these texts
abbrev pub cut_colour : Bool → List ShownText → ℕ → ℕ → Colour
cut_colour lines texts x y =
    if is_inside x y
    then (if is_line lines (x % CELL_WIDTH) (y % CELL_HEIGHT) then grey else (if list_any (is_dot_of x y) texts then black else white))
    else white
