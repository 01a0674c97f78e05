-- A canvas that shows a layer shows the next one once it is painted.
use Rattle.std.proofs.Common.{◌≡◌, ◌⊎◌, ℕ, ◌+◌, ◌-◌, ◌*◌, ◌/◌, ◌%◌, ◌<◌, ◌≤◌, Bool, true, false, not, ◌&&◌, ◌||◌, nat_lt, nat_le, nat_eq, min, List, [], ◌∷◌, ◌++◌, if◌then◌else◌, refl, ap, sym, ◌∙◌, subst, ⊎_elim, arith, ltb-true, leb-true, leb-false, lt-ltb, le-ltb, le-leb, eqb-true, eq-eqb}
use Rattle.std.specs.List.{list_any}
use Rattle.std.specs.Str.{chars}
use Rattle.std.proofs.Math.Nat.{div-lt_iff_lt-mul, mul-le-mul_left}
use Rattle.std.proofs.lemmas.Bool.{and_parts, and_from, or_from, or_parts, not_from_false, not-true, false_from_ne_true, lt-leb}
use Rattle.std.proofs.lemmas.Bool.Decides.{nat_tests}
use Rattle.std.proofs.lemmas.List.Folds.{list_any-append}
use Rattle.cool_base.specs.Points.{Rectangle, has_point}
use Rattle.tile_key.specs.Places.{Place, IsArea}
use Rattle.kit_trait.specs.Pictures.{Colour, white, x_at, y_at}
use Rattle.tile_raster.specs.Painting.{Painting, IsBlank, IsPainted, Shows, pixel}
use Rattle.tile_raster.specs.Lettering.{text_dot}
use Rattle.sheet_rules.specs.declared.cuts.ShownText.{ShownText}
use Rattle.sheet_rules.specs.Typing.{is_inside}
use Rattle.sheet_rules.specs.Colours.{black, grey, is_edge, is_line, is_lettered}
use Rattle.bitmap_font.specs.Glyphs.{has_dot}
use Rattle.sheet_rules.specs.Cuts.{is_dot_of, cut_colour}
use Rattle.sheet_rules.specs.ShownTexts.{iff_same}
use Rattle.cell_damage.proofs.Points.{Has, has_facts, facts_has}
use Rattle.sheet_kit.specs.Layers.{column_line, row_line, cell_within, on_columns, on_rows, on_grid_to, on_edges, on_lines, lined}

pub blank_shows : (p : Place) (c : Painting) → IsBlank p.width p.height c → Shows (λ part x y. white) p c
blank_shows p c blank = record { width = blank.width; height = blank.height; pixels = blank.pixels }

-- the same layer under another name
shows_same : (f g : ℕ → ℕ → ℕ → Colour) (p : Place) (c : Painting) → ((i j : ℕ) → i < p.width → j < p.height → f p.part (x_at p i) (y_at p j) ≡ g p.part (x_at p i) (y_at p j)) → Shows f p c → Shows g p c
shows_same f g p c same shows = record { width = shows.width; height = shows.height; pixels = λ i j h k. shows.pixels i j h k ∙ same i j h k }

-- one more stroke
shows_painted : (f g : ℕ → ℕ → ℕ → Colour) (points : ℕ → ℕ → Bool) (colour : Colour) (p : Place) (old new : Painting) → ((x y : ℕ) → (if points x y then colour else f p.part x y) ≡ g p.part x y) → Shows f p old → IsPainted p points colour old new → Shows g p new
shows_painted f g points colour p old new same shows painted = record {
  width = painted.width ∙ shows.width;
  height = painted.height ∙ shows.height;
  pixels = λ i j h k.
      let wide : i < old.width = rw shows.width h in
      let high : j < old.height = rw shows.height k in
      painted.pixels i j wide high
      ∙ ap (λ (c : Colour). if points (x_at p i) (y_at p j) then colour else c) (shows.pixels i j h k)
      ∙ same (x_at p i) (y_at p j);
}

-- ---- the points that pixels sample

sampled : (pos size pixels i : ℕ) → 1 ≤ size → 1 ≤ pixels → i < pixels → pos + i * size / pixels < pos + size
sampled pos size pixels i some wide h =
    let up : i + 1 ≤ pixels = omega arith in
    let below : i * size < size * pixels = omega (arith, mul-le-mul_left size up) in
    let least : i * size / pixels < size = (div-lt_iff_lt-mul wide).1 below in
    omega (arith, least)

-- the same layer, named for the sampled points alone
shows_sampled : (f g : ℕ → ℕ → ℕ → Colour) (p : Place) (c : Painting) → IsArea p → ((x y : ℕ) → p.posx ≤ x → x < p.posx + p.tilewidth → p.posy ≤ y → y < p.posy + p.tileheight → f p.part x y ≡ g p.part x y) → Shows f p c → Shows g p c
shows_sampled f g p c area same shows =
    shows_same f g p c
    (λ i j h k. same (x_at p i) (y_at p j) (omega arith) (sampled p.posx p.tilewidth p.width i area.tilewidth_low area.width_low h) (omega arith) (sampled p.posy p.tileheight p.height j area.tileheight_low area.height_low k))
    shows

-- ---- the lines of columns

column_none : (first posx x y : ℕ) → first ≡ posx / 960 → posx ≤ x → white ≡ lined (on_columns first x y)
column_none first posx x y e h = grind (arith, nat_tests)

column_point : (col x y : ℕ) → col < 256 → (if has_point (column_line col) x y then grey else lined (on_columns col x y)) ≡ lined (on_columns (col + 1) x y)
column_point col x y h = grind (arith, nat_tests)

column_all : (end col posx size x y : ℕ) → end ≡ min ((posx + size - 1) / 960 + 1) 256 → end ≤ col → x < posx + size → lined (on_columns col x y) ≡ lined (on_columns 256 x y)
column_all end col posx size x y e h k = grind (arith, nat_tests)

pub columns_none : (p : Place) (c : Painting) (first : ℕ) → IsArea p → first ≡ p.posx / 960 → Shows (λ part x y. white) p c → Shows (λ part x y. lined (on_columns first x y)) p c
columns_none p c first area e shows = shows_sampled (λ part x y. white) (λ part x y. lined (on_columns first x y)) p c area (λ x y h k l m. column_none first p.posx x y e h) shows

pub columns_more : (p : Place) (old new : Painting) (col : ℕ) (r : Rectangle) (colour : Colour) → col < 256 → r ≡ column_line col → colour ≡ grey → IsPainted p (has_point r) colour old new → Shows (λ part x y. lined (on_columns col x y)) p old → Shows (λ part x y. lined (on_columns (col + 1) x y)) p new
columns_more p old new col r colour h is paint painted shows =
    shows_painted (λ part x y. lined (on_columns col x y)) (λ part x y. lined (on_columns (col + 1) x y)) (has_point (column_line col)) grey p old new (λ x y. column_point col x y h) shows
    (subst (λ (k : Colour). IsPainted p (has_point (column_line col)) k old new) paint (subst (λ (q : Rectangle). IsPainted p (has_point q) colour old new) is painted))

pub columns_all : (p : Place) (c : Painting) (end col : ℕ) → IsArea p → end ≡ min ((p.posx + p.tilewidth - 1) / 960 + 1) 256 → end ≤ col → Shows (λ part x y. lined (on_columns col x y)) p c → Shows (λ part x y. lined (on_columns 256 x y)) p c
columns_all p c end col area e h shows =
    shows_sampled (λ part x y. lined (on_columns col x y)) (λ part x y. lined (on_columns 256 x y)) p c area (λ x y i j k l. column_all end col p.posx p.tilewidth x y e h j) shows

-- ---- the lines of rows

row_none : (first posy x y : ℕ) → first ≡ posy / 240 → posy ≤ y → lined (on_columns 256 x y) ≡ lined (on_grid_to first x y)
row_none first posy x y e h =
    let past : nat_lt (y / 240) first ≡ false = le-ltb (y / 240) first (omega (arith, e, h)) in
    ap lined (sym (ap (λ (b : Bool). on_columns 256 x y || (is_inside x y && (b && nat_le 225 (y % 240)))) past ∙ or_none (on_columns 256 x y) (is_inside x y)))
  where
    or_none : (a b : Bool) → (a || (b && false)) ≡ a
    or_none true b = refl
    or_none false true = refl
    or_none false false = refl

row_before : (row x y : ℕ) → row < 4096 → (has_point (row_line row) x y || on_rows row x y) ≡ on_rows (row + 1) x y
row_before row x y h = grind (arith, nat_tests)

row_point : (row x y : ℕ) → row < 4096 → (if has_point (row_line row) x y then grey else lined (on_grid_to row x y)) ≡ lined (on_grid_to (row + 1) x y)
row_point row x y h = mixed (has_point (row_line row) x y) (on_columns 256 x y) (on_rows row x y) ∙ ap (λ (b : Bool). lined (on_columns 256 x y || b)) (row_before row x y h)
  where
    mixed : (a b c : Bool) → (if a then grey else lined (b || c)) ≡ lined (b || (a || c))
    mixed true true c = refl
    mixed true false c = refl
    mixed false b c = refl

row_all : (end row posy size x y : ℕ) → end ≡ min ((posy + size - 1) / 240 + 1) 4096 → end ≤ row → y < posy + size → on_rows row x y ≡ (is_inside x y && nat_le 225 (y % 240))
row_all end row posy size x y e h k = grind (arith, nat_tests)

column_full : (x y : ℕ) → on_columns 256 x y ≡ (is_inside x y && nat_le 945 (x % 960))
column_full x y = grind (arith, nat_tests)

grid_all : (end row posy size x y : ℕ) → end ≡ min ((posy + size - 1) / 240 + 1) 4096 → end ≤ row → y < posy + size → lined (on_grid_to row x y) ≡ lined (on_edges x y)
grid_all end row posy size x y e h k =
    ap (λ (b : Bool). lined (b || on_rows row x y)) (column_full x y)
    ∙ ap (λ (b : Bool). lined ((is_inside x y && nat_le 945 (x % 960)) || b)) (row_all end row posy size x y e h k)
    ∙ ap lined (apart (is_inside x y) (nat_le 945 (x % 960)) (nat_le 225 (y % 240)))
  where
    apart : (a b c : Bool) → ((a && b) || (a && c)) ≡ (a && (b || c))
    apart true b c = refl
    apart false b c = refl

pub rows_none : (p : Place) (c : Painting) (first : ℕ) → IsArea p → first ≡ p.posy / 240 → Shows (λ part x y. lined (on_columns 256 x y)) p c → Shows (λ part x y. lined (on_grid_to first x y)) p c
rows_none p c first area e shows = shows_sampled (λ part x y. lined (on_columns 256 x y)) (λ part x y. lined (on_grid_to first x y)) p c area (λ x y h k l m. row_none first p.posy x y e l) shows

pub rows_more : (p : Place) (old new : Painting) (row : ℕ) (r : Rectangle) (colour : Colour) → row < 4096 → r ≡ row_line row → colour ≡ grey → IsPainted p (has_point r) colour old new → Shows (λ part x y. lined (on_grid_to row x y)) p old → Shows (λ part x y. lined (on_grid_to (row + 1) x y)) p new
rows_more p old new row r colour h is paint painted shows =
    shows_painted (λ part x y. lined (on_grid_to row x y)) (λ part x y. lined (on_grid_to (row + 1) x y)) (has_point (row_line row)) grey p old new (λ x y. row_point row x y h) shows
    (subst (λ (k : Colour). IsPainted p (has_point (row_line row)) k old new) paint (subst (λ (q : Rectangle). IsPainted p (has_point q) colour old new) is painted))

pub rows_all : (p : Place) (c : Painting) (end row : ℕ) → IsArea p → end ≡ min ((p.posy + p.tileheight - 1) / 240 + 1) 4096 → end ≤ row → Shows (λ part x y. lined (on_grid_to row x y)) p c → Shows (λ part x y. lined (on_edges x y)) p c
rows_all p c end row area e h shows =
    shows_sampled (λ part x y. lined (on_grid_to row x y)) (λ part x y. lined (on_edges x y)) p c area (λ x y i j k l. grid_all end row p.posy p.tileheight x y e h l) shows

-- with lines, the canvas that shows the edges shows the lines; without, the blank one does
pub lines_drawn : (lines : Bool) (p : Place) (c : Painting) → lines ≡ true
    → Shows (λ part x y. lined (on_edges x y)) p c → Shows (λ part x y. lined (on_lines lines x y)) p c
lines_drawn true p c is shows = shows
lines_drawn false p c is shows = cc

pub lines_left : (lines : Bool) (p : Place) (c : Painting) → lines ≡ false
    → Shows (λ part x y. white) p c → Shows (λ part x y. lined (on_lines lines x y)) p c
lines_left true p c is shows = cc
lines_left false p c is shows =
    shows_same (λ part x y. white) (λ part x y. lined (on_lines false x y)) p c
    (λ i j h k. ap lined (sym (none (is_inside (x_at p i) (y_at p j))))) shows
  where
    none : (a : Bool) → (a && false) ≡ false
    none true = refl
    none false = refl

-- ---- the texts

no_texts : (lines : Bool) (x y : ℕ) → lined (on_lines lines x y) ≡ cut_colour lines [] x y
no_texts lines x y = by (is_inside x y) (is_line lines (x % 960) (y % 240))
  where
    by : (a l : Bool) → lined (a && l) ≡ (if a then (if l then grey else (if false then black else white)) else white)
    by true true = refl
    by true false = refl
    by false l = refl

pub texts_none : (lines : Bool) (p : Place) (c : Painting) → Shows (λ part x y. lined (on_lines lines x y)) p c → Shows (λ part. cut_colour lines []) p c
texts_none lines p c shows =
    shows_same (λ part x y. lined (on_lines lines x y)) (λ part. cut_colour lines []) p c (λ i j h k. no_texts lines (x_at p i) (y_at p j)) shows

-- a point that no line of a cell takes lies in the cell, and on no line
in_cell : (lines : Bool) (row col x y : ℕ) → has_point (cell_within lines row col) x y ≡ true → Has (cell_within false row col) x y
in_cell true row col x y e =
    let cell = has_facts (cell_within true row col) x y e in
    record { left = cell.left; right = omega (arith, cell.right); upper = cell.upper; lower = omega (arith, cell.lower) }
in_cell false row col x y e = has_facts (cell_within false row col) x y e

clear_there : (lines : Bool) (row col x y : ℕ) → has_point (cell_within lines row col) x y ≡ true → not (is_line lines (x % 960) (y % 240)) ≡ true
clear_there true row col x y e =
    let cell = has_facts (cell_within true row col) x y e in
    not_from_false (is_edge (x % 960) (y % 240)) (or_from (nat_le 945 (x % 960)) (nat_le 225 (y % 240)) (lt-leb 945 (x % 960) (omega (arith, cell.left, cell.right))) (lt-leb 225 (y % 240) (omega (arith, cell.upper, cell.lower))))
clear_there false row col x y e = refl

-- and the point of a cell that lies on no line is one of these
clear_here : (lines : Bool) (row col x y : ℕ) → row ≡ y / 240 → col ≡ x / 960 → not (is_line lines (x % 960) (y % 240)) ≡ true → has_point (cell_within lines row col) x y ≡ true
clear_here true row col x y row_is col_is e =
    let lines = or_parts (nat_le 945 (x % 960)) (nat_le 225 (y % 240)) (not-true (is_edge (x % 960) (y % 240)) e) in
    let wide = leb-false 945 (x % 960) lines.0 in
    let high = leb-false 225 (y % 240) lines.1 in
    facts_has (cell_within true row col) x y (record { left = omega (arith, col_is); right = omega (arith, col_is, wide); upper = omega (arith, row_is); lower = omega (arith, row_is, high) })
clear_here false row col x y row_is col_is e =
    facts_has (cell_within false row col) x y (record { left = omega (arith, col_is); right = omega (arith, col_is); upper = omega (arith, row_is); lower = omega (arith, row_is) })

-- a dot of a text lies within its cell
dot_there : (lines : Bool) (row col x y : ℕ) (text : List ℕ) → row < 4096 → col < 256 → (has_point (cell_within lines row col) x y && text_dot (col * 960 + 30) (row * 240 + 60) (chars text) x y) ≡ true
    → ((is_inside x y && not (is_line lines (x % 960) (y % 240))) && is_dot_of x y (record { row = row; col = col; text = text })) ≡ true
unfolding text_dot
dot_there lines row col x y text h k e =
    let parts = and_parts (has_point (cell_within lines row col) x y) (text_dot (col * 960 + 30) (row * 240 + 60) (chars text) x y) e in
    let cell = in_cell lines row col x y parts.0 in
    let dot = and_parts ((nat_le (col * 960 + 30) x && nat_le (row * 240 + 60) y) && nat_lt y (row * 240 + 60 + 120)) (has_dot (chars text) (x - (col * 960 + 30)) (y - (row * 240 + 60))) parts.1 in
    let beside = and_parts (nat_le (col * 960 + 30) x && nat_le (row * 240 + 60) y) (nat_lt y (row * 240 + 60 + 120)) dot.0 in
    let behind = and_parts (nat_le (col * 960 + 30) x) (nat_le (row * 240 + 60) y) beside.0 in
    let left = leb-true (col * 960 + 30) x behind.0 in
    let top = leb-true (row * 240 + 60) y behind.1 in
    let low = ltb-true y (row * 240 + 60 + 120) beside.1 in
    let across : x - (col * 960 + 30) ≡ x % 960 - 30 = omega (arith, cell.left, cell.right) in
    let down : y - (row * 240 + 60) ≡ y % 240 - 60 = omega (arith, cell.upper, cell.lower) in
    and_from (is_inside x y && not (is_line lines (x % 960) (y % 240))) (is_dot_of x y (record { row = row; col = col; text = text }))
    (and_from (is_inside x y) (not (is_line lines (x % 960) (y % 240)))
    (and_from (nat_lt x 245760) (nat_lt y 983040) (lt-ltb x 245760 (omega (arith, cell.right, k))) (lt-ltb y 983040 (omega (arith, cell.lower, h))))
    (clear_there lines row col x y parts.0))
    (and_from (nat_eq row (y / 240) && nat_eq col (x / 960)) (is_lettered text (x % 960) (y % 240))
    (and_from (nat_eq row (y / 240)) (nat_eq col (x / 960)) (eq-eqb row (y / 240) (omega (arith, cell.upper, cell.lower))) (eq-eqb col (x / 960) (omega (arith, cell.left, cell.right))))
    (and_from (nat_le 30 (x % 960) && (nat_le 60 (y % 240) && nat_le (y % 240) 179)) (has_dot (chars text) (x % 960 - 30) (y % 240 - 60))
    (and_from (nat_le 30 (x % 960)) (nat_le 60 (y % 240) && nat_le (y % 240) 179) (le-leb 30 (x % 960) (omega (arith, cell.left, cell.right, left)))
    (and_from (nat_le 60 (y % 240)) (nat_le (y % 240) 179) (le-leb 60 (y % 240) (omega (arith, cell.upper, cell.lower, top))) (le-leb (y % 240) 179 (omega (arith, cell.upper, cell.lower, low)))))
    (ap (λ (n : ℕ). has_dot (chars text) n (y % 240 - 60)) (sym across) ∙ ap (λ (n : ℕ). has_dot (chars text) (x - (col * 960 + 30)) n) (sym down) ∙ dot.1)))

-- and the point of a cell that lies on a dot of its text is one
dot_here : (lines : Bool) (row col x y : ℕ) (text : List ℕ) → ((is_inside x y && not (is_line lines (x % 960) (y % 240))) && is_dot_of x y (record { row = row; col = col; text = text })) ≡ true
    → (has_point (cell_within lines row col) x y && text_dot (col * 960 + 30) (row * 240 + 60) (chars text) x y) ≡ true
unfolding text_dot
dot_here lines row col x y text e =
    let parts = and_parts (is_inside x y && not (is_line lines (x % 960) (y % 240))) (is_dot_of x y (record { row = row; col = col; text = text })) e in
    let clear = and_parts (is_inside x y) (not (is_line lines (x % 960) (y % 240))) parts.0 in
    let dot = and_parts (nat_eq row (y / 240) && nat_eq col (x / 960)) (is_lettered text (x % 960) (y % 240)) parts.1 in
    let cell = and_parts (nat_eq row (y / 240)) (nat_eq col (x / 960)) dot.0 in
    let row_is = eqb-true row (y / 240) cell.0 in
    let col_is = eqb-true col (x / 960) cell.1 in
    let letter = and_parts (nat_le 30 (x % 960) && (nat_le 60 (y % 240) && nat_le (y % 240) 179)) (has_dot (chars text) (x % 960 - 30) (y % 240 - 60)) dot.1 in
    let bounds = and_parts (nat_le 30 (x % 960)) (nat_le 60 (y % 240) && nat_le (y % 240) 179) letter.0 in
    let heights = and_parts (nat_le 60 (y % 240)) (nat_le (y % 240) 179) bounds.1 in
    let left = leb-true 30 (x % 960) bounds.0 in
    let top = leb-true 60 (y % 240) heights.0 in
    let low = leb-true (y % 240) 179 heights.1 in
    let across : x - (col * 960 + 30) ≡ x % 960 - 30 = omega (arith, col_is) in
    let down : y - (row * 240 + 60) ≡ y % 240 - 60 = omega (arith, row_is) in
    and_from (has_point (cell_within lines row col) x y) (text_dot (col * 960 + 30) (row * 240 + 60) (chars text) x y)
    (clear_here lines row col x y row_is col_is clear.1)
    (and_from ((nat_le (col * 960 + 30) x && nat_le (row * 240 + 60) y) && nat_lt y (row * 240 + 60 + 120)) (has_dot (chars text) (x - (col * 960 + 30)) (y - (row * 240 + 60)))
    (and_from (nat_le (col * 960 + 30) x && nat_le (row * 240 + 60) y) (nat_lt y (row * 240 + 60 + 120))
    (and_from (nat_le (col * 960 + 30) x) (nat_le (row * 240 + 60) y) (le-leb (col * 960 + 30) x (omega (arith, col_is, left))) (le-leb (row * 240 + 60) y (omega (arith, row_is, top))))
    (lt-ltb y (row * 240 + 60 + 120) (omega (arith, row_is, low))))
    (ap (λ (n : ℕ). has_dot (chars text) n (y - (row * 240 + 60))) across ∙ ap (λ (n : ℕ). has_dot (chars text) (x % 960 - 30) n) down ∙ letter.1))

dot_is : (lines : Bool) (x y : ℕ) (t : ShownText) → t.row < 4096 → t.col < 256 → (has_point (cell_within lines t.row t.col) x y && text_dot (t.col * 960 + 30) (t.row * 240 + 60) (chars t.text) x y) ≡ ((is_inside x y && not (is_line lines (x % 960) (y % 240))) && is_dot_of x y t)
dot_is lines x y t h k =
    iff_same (has_point (cell_within lines t.row t.col) x y && text_dot (t.col * 960 + 30) (t.row * 240 + 60) (chars t.text) x y) ((is_inside x y && not (is_line lines (x % 960) (y % 240))) && is_dot_of x y t)
    (dot_there lines t.row t.col x y t.text h k) (dot_here lines t.row t.col x y t.text)

-- one more text over those that were drawn
text_over : (a l o d : Bool) → (if (a && not l) && d then black else (if a then (if l then grey else (if o then black else white)) else white)) ≡ (if a then (if l then grey else (if o || (d || false) then black else white)) else white)
text_over false l o d = refl
text_over true true o d = refl
text_over true false true true = refl
text_over true false true false = refl
text_over true false false true = refl
text_over true false false false = refl

text_point : (lines : Bool) (x y : ℕ) (texts : List ShownText) (t : ShownText) → t.row < 4096 → t.col < 256
    → (if has_point (cell_within lines t.row t.col) x y && text_dot (t.col * 960 + 30) (t.row * 240 + 60) (chars t.text) x y then black else cut_colour lines texts x y) ≡ cut_colour lines (texts ++ t ∷ []) x y
text_point lines x y texts t h k =
    ap (λ (b : Bool). if b then black else cut_colour lines texts x y) (dot_is lines x y t h k)
    ∙ text_over (is_inside x y) (is_line lines (x % 960) (y % 240)) (list_any (is_dot_of x y) texts) (is_dot_of x y t)
    ∙ ap (λ (b : Bool). if is_inside x y then (if is_line lines (x % 960) (y % 240) then grey else (if b then black else white)) else white) (sym (list_any-append (is_dot_of x y) texts (t ∷ [])))

pub text_more : (lines : Bool) (p : Place) (old new : Painting) (texts : List ShownText) (t : ShownText) (r : Rectangle) (tx ty : ℕ) (text : List ℕ) → t.row < 4096 → t.col < 256 → r ≡ cell_within lines t.row t.col → tx ≡ t.col * 960 + 30 → ty ≡ t.row * 240 + 60 → text ≡ t.text
    → IsPainted p (λ px py. has_point r px py && text_dot tx ty (chars text) px py) black old new → Shows (λ part. cut_colour lines texts) p old → Shows (λ part. cut_colour lines (texts ++ t ∷ [])) p new
text_more lines p old new texts t r tx ty text h k cell left top is painted shows =
    shows_painted (λ part. cut_colour lines texts) (λ part. cut_colour lines (texts ++ t ∷ [])) (λ px py. has_point r px py && text_dot tx ty (chars text) px py) black p old new
    (λ x y. points x y ∙ text_point lines x y texts t h k) shows painted
  where
    points : (x y : ℕ) → (if has_point r x y && text_dot tx ty (chars text) x y then black else cut_colour lines texts x y) ≡ (if has_point (cell_within lines t.row t.col) x y && text_dot (t.col * 960 + 30) (t.row * 240 + 60) (chars t.text) x y then black else cut_colour lines texts x y)
    points x y =
        ap (λ (q : Rectangle). if has_point q x y && text_dot tx ty (chars text) x y then black else cut_colour lines texts x y) cell
        ∙ ap (λ (n : ℕ). if has_point (cell_within lines t.row t.col) x y && text_dot n ty (chars text) x y then black else cut_colour lines texts x y) left
        ∙ ap (λ (n : ℕ). if has_point (cell_within lines t.row t.col) x y && text_dot (t.col * 960 + 30) n (chars text) x y then black else cut_colour lines texts x y) top
        ∙ ap (λ (s : List ℕ). if has_point (cell_within lines t.row t.col) x y && text_dot (t.col * 960 + 30) (t.row * 240 + 60) (chars s) x y then black else cut_colour lines texts x y) is

-- a text of a cell outside of the part shows nowhere
no_dot : (lines : Bool) (x y : ℕ) (texts : List ShownText) (t : ShownText) → (is_inside x y && is_dot_of x y t) ≡ false → cut_colour lines texts x y ≡ cut_colour lines (texts ++ t ∷ []) x y
no_dot lines x y texts t e =
    by (is_inside x y) (is_line lines (x % 960) (y % 240)) (list_any (is_dot_of x y) texts) (is_dot_of x y t) e
    ∙ ap (λ (b : Bool). if is_inside x y then (if is_line lines (x % 960) (y % 240) then grey else (if b then black else white)) else white) (sym (list_any-append (is_dot_of x y) texts (t ∷ [])))
  where
    by : (a l o d : Bool) → (a && d) ≡ false → (if a then (if l then grey else (if o then black else white)) else white) ≡ (if a then (if l then grey else (if o || (d || false) then black else white)) else white)
    by false l o d e = refl
    by true l o true e = cc
    by true l true false e = refl
    by true l false false e = refl

nowhere : (x y : ℕ) (t : ShownText) → (4096 ≤ t.row) ⊎ (256 ≤ t.col) → (is_inside x y && is_dot_of x y t) ≡ false
nowhere x y t out =
    false_from_ne_true (is_inside x y && is_dot_of x y t)
    (λ e.
    let parts = and_parts (is_inside x y) (is_dot_of x y t) e in
    let sides = and_parts (nat_lt x 245760) (nat_lt y 983040) parts.0 in
    let dot = and_parts (nat_eq t.row (y / 240) && nat_eq t.col (x / 960)) (is_lettered t.text (x % 960) (y % 240)) parts.1 in
    let cell = and_parts (nat_eq t.row (y / 240)) (nat_eq t.col (x / 960)) dot.0 in
    ⊎_elim (λ (h : 4096 ≤ t.row). omega (arith, h, eqb-true t.row (y / 240) cell.0, ltb-true y 983040 sides.1))
    (λ (h : 256 ≤ t.col). omega (arith, h, eqb-true t.col (x / 960) cell.1, ltb-true x 245760 sides.0)) out)

pub text_outside : (lines : Bool) (p : Place) (c : Painting) (texts : List ShownText) (t : ShownText) → (4096 ≤ t.row) ⊎ (256 ≤ t.col) → Shows (λ part. cut_colour lines texts) p c → Shows (λ part. cut_colour lines (texts ++ t ∷ [])) p c
text_outside lines p c texts t out shows =
    shows_same (λ part. cut_colour lines texts) (λ part. cut_colour lines (texts ++ t ∷ [])) p c (λ i j h k. no_dot lines (x_at p i) (y_at p j) texts t (nowhere (x_at p i) (y_at p j) t out)) shows
