-- The colours of a sheet document: cells of 960 by 240 twips, in each the text that it shows, in black on
-- white; in the look with lines they have grey lines at their right and lower edges.
use Rattle.std.specs.Prelude.{ℕ, ◌-◌, ◌%◌, Bool, ◌&&◌, ◌||◌, nat_lt, nat_le, nat_eq, List, length, if◌then◌else◌}
use Rattle.std.specs.Str.{chars}
use Rattle.kit_trait.specs.Pictures.{Colour, white}
use Rattle.bitmap_font.specs.Glyphs.{has_dot}
use Rattle.cell_damage.specs.declared.limits.TheConstants.{CELL_WIDTH, CELL_HEIGHT}
use Rattle.sheet_calc.specs.Books.{Parts, shown_of}
use Rattle.sheet_rules.specs.Typing.{is_inside, cell_at}

abbrev pub black : Colour
black = record { red = 0; green = 0; blue = 0; alpha = 255 }

abbrev pub grey : Colour
grey = record { red = 192; green = 192; blue = 192; alpha = 255 }

-- whether the look that a number names has lines
abbrev pub has_lines : ℕ → Bool
has_lines nviewid = nat_eq nviewid 0

-- whether a place so many twips right of its cell's left edge and below the upper edge lies where lines are
abbrev pub is_edge : ℕ → ℕ → Bool
is_edge dx dy = nat_le 945 dx || nat_le 225 dy

-- with lines or without: whether such a place lies on a line
abbrev pub is_line : Bool → ℕ → ℕ → Bool
is_line lines dx dy = lines && is_edge dx dy

-- whether it lies on a dot of the text that the cell shows: the text begins 30 twips from the left edge and
-- 60 from the upper one, and is 120 high
abbrev pub is_lettered : List ℕ → ℕ → ℕ → Bool
is_lettered shown dx dy = (nat_le 30 dx && (nat_le 60 dy && nat_le dy 179)) && has_dot (chars shown) (dx - 30) (dy - 60)

-- with lines or without: the colour of a place in a cell that shows this text
abbrev pub cell_colour : Bool → List ℕ → ℕ → ℕ → Colour
cell_colour lines shown dx dy =
    if is_line lines dx dy then grey else (if is_lettered shown dx dy then black else white)

-- in the look that a number names, the colour of the point (x, y) of a part, white outside of it
unfoldable pub colour_of : Parts → (nviewid part x y : ℕ) → Colour
colour_of parts nviewid part x y =
    if nat_lt part (length parts) && is_inside x y
    then cell_colour (has_lines nviewid) (shown_of parts (cell_at part x y)) (x % CELL_WIDTH) (y % CELL_HEIGHT)
    else white
