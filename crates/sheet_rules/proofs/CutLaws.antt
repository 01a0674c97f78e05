-- The picture of a cut is that of the document.
use Rattle.std.proofs.Common.{◌≡◌, ℕ, zero, suc, ◌+◌, ◌-◌, ◌*◌, ◌/◌, ◌%◌, ◌<◌, ◌≤◌, min, Bool, true, false, ◌&&◌, ◌||◌, ◌==◌, nat_eq, nat_lt, nat_le, List, [], ◌∷◌, ◌++◌, length, slice_index, if◌then◌else◌, refl, ap, sym, ◌∙◌, subst, arith, add-one, eqb-true, lt-ltb, le-leb, le-ltb, ltb-true}
use Rattle.std.specs.List.{list_any}
use Rattle.std.specs.Str.{chars}
use Rattle.std.proofs.Math.Nat.{div-lt_iff_lt-mul, mul-le-mul_left}
use Rattle.std.proofs.lemmas.Bool.{and_from, and_parts}
use Rattle.std.proofs.lemmas.Bool.Decides.{nat_tests}
use Rattle.std.proofs.lemmas.List.Folds.{list_any-append}
use Rattle.std.proofs.lemmas.Str.{chars-nil}
use Rattle.bitmap_font.specs.Glyphs.{dot_of, has_dot}
use Rattle.tile_key.specs.Places.{Place, IsArea}
use Rattle.kit_trait.specs.Pictures.{Colour, white, rgba, row, rows, picture, x_at, y_at}
use Rattle.sheet_cells.specs.declared.cells.CellRef.{CellRef}
use Rattle.sheet_calc.specs.Books.{Parts, shown_of}
use Rattle.sheet_rules.specs.declared.cuts.ShownText.{ShownText}
use Rattle.sheet_rules.specs.Typing.{is_inside, cell_at}
use Rattle.sheet_rules.specs.Colours.{black, grey, has_lines, is_line, is_lettered, cell_colour, colour_of}
use Rattle.sheet_rules.specs.Cuts.{text_in, texts_in_row, texts_in_rows, cells_met, texts_of, is_dot_of, cut_colour}

-- ---- pictures that agree at each sampled point are one

same_row : (f g : ℕ → ℕ → ℕ → Colour) (p : Place) (j n : ℕ) → ((i : ℕ) → i < n → f p.part (x_at p i) (y_at p j) ≡ g p.part (x_at p i) (y_at p j)) → row f p j n ≡ row g p j n
same_row f g p j zero same = refl
same_row f g p j (suc n) same =
    ap (λ (s : List ℕ). s ++ rgba (f p.part (x_at p n) (y_at p j))) (same_row f g p j n (λ i h. same i (omega arith)))
    ∙ ap (λ (c : Colour). row g p j n ++ rgba c) (same n (omega arith))

same_rows : (f g : ℕ → ℕ → ℕ → Colour) (p : Place) (n : ℕ) → ((i j : ℕ) → i < p.width → j < n → f p.part (x_at p i) (y_at p j) ≡ g p.part (x_at p i) (y_at p j)) → rows f p n ≡ rows g p n
same_rows f g p zero same = refl
same_rows f g p (suc n) same =
    ap (λ (s : List ℕ). s ++ row f p n p.width) (same_rows f g p n (λ i j h k. same i j h (omega arith)))
    ∙ ap (λ (s : List ℕ). rows g p n ++ s) (same_row f g p n p.width (λ i h. same i n h (omega arith)))

same_picture : (f g : ℕ → ℕ → ℕ → Colour) (p : Place) → ((i j : ℕ) → i < p.width → j < p.height → f p.part (x_at p i) (y_at p j) ≡ g p.part (x_at p i) (y_at p j)) → picture f p ≡ picture g p
same_picture f g p same = ap (λ (s : List ℕ). record { width = p.width; height = p.height; rgba = s }) (same_rows f g p p.height same)

sampled : (pos size pixels i : ℕ) → 1 ≤ size → 1 ≤ pixels → i < pixels → pos + i * size / pixels < pos + size
sampled pos size pixels i some wide h =
    let up : i + 1 ≤ pixels = omega arith in
    let below : i * size < size * pixels = omega (arith, mul-le-mul_left size up) in
    let least : i * size / pixels < size = (div-lt_iff_lt-mul wide).1 below in
    omega (arith, least)

-- ---- the dots of a cut's texts

-- whether a point lies on a dot of its cell's text
abbrev dot_at : Parts → ℕ → ℕ → ℕ → Bool
dot_at parts part x y = is_lettered (shown_of parts (cell_at part x y)) (x % 960) (y % 240)

no_letter : (n : ℕ) → nat_lt n 0 ≡ false
no_letter n = le-ltb n 0 (omega arith)

-- an empty text has no dot
no_dot : (dx dy : ℕ) → is_lettered [] dx dy ≡ false
no_dot dx dy =
    ap (λ (cs : List ℕ). (nat_le 30 dx && (nat_le 60 dy && nat_le dy 179)) && has_dot cs (dx - 30) (dy - 60)) chars-nil
    ∙ ap (λ (b : Bool). (nat_le 30 dx && (nat_le 60 dy && nat_le dy 179)) && (b && dot_of (slice_index [] ((dx - 30) / 90)) ((dx - 30) % 90 / 15) ((dy - 60) / 15))) (no_letter ((dx - 30) / 90))
    ∙ none (nat_le 30 dx && (nat_le 60 dy && nat_le dy 179))
  where
    none : (a : Bool) → (a && false) ≡ false
    none true = refl
    none false = refl

no_bytes : (s : List ℕ) → (length s == 0) ≡ true → s ≡ []
no_bytes [] e = refl
no_bytes (c ∷ s) e = absurd (omega (arith, eqb-true (length (c ∷ s)) 0 e))

-- a cell of its own row and column
abbrev here : CellRef → ℕ → ℕ → Bool
here at x y = nat_eq at.row (y / 240) && nat_eq at.col (x / 960)

same_cell : (part x y : ℕ) (at : CellRef) → at.part ≡ part → here at x y ≡ true → at ≡ cell_at part x y
same_cell part x y at is e =
    let parts = and_parts (nat_eq at.row (y / 240)) (nat_eq at.col (x / 960)) e in
    ap (λ (n : ℕ). record { part = n; row = at.row; col = at.col }) is
    ∙ ap (λ (n : ℕ). record { part = part; row = n; col = at.col }) (eqb-true at.row (y / 240) parts.0)
    ∙ ap (λ (n : ℕ). record { part = part; row = y / 240; col = n }) (eqb-true at.col (x / 960) parts.1)

-- the dots of one cell
one_text : (parts : Parts) (x y : ℕ) (at : CellRef) → list_any (is_dot_of x y) (text_in parts at) ≡ (here at x y && is_lettered (shown_of parts at) (x % 960) (y % 240))
unfolding text_in
one_text parts x y at = by (length (shown_of parts at) == 0) refl
  where
    or_none : (a : Bool) → (a || false) ≡ a
    or_none true = refl
    or_none false = refl

    and_none : (a : Bool) → (a && false) ≡ false
    and_none true = refl
    and_none false = refl

    by : (b : Bool) → (length (shown_of parts at) == 0) ≡ b → list_any (is_dot_of x y) (if b then [] else record { row = at.row; col = at.col; text = shown_of parts at } ∷ []) ≡ (here at x y && is_lettered (shown_of parts at) (x % 960) (y % 240))
    by true e =
        sym (ap (λ (s : List ℕ). here at x y && is_lettered s (x % 960) (y % 240)) (no_bytes (shown_of parts at) e)
        ∙ ap (λ (b : Bool). here at x y && b) (no_dot (x % 960) (y % 240)) ∙ and_none (here at x y))
    by false e = or_none (here at x y && is_lettered (shown_of parts at) (x % 960) (y % 240))

cell_dot : (parts : Parts) (part x y : ℕ) (at : CellRef) → at.part ≡ part → list_any (is_dot_of x y) (text_in parts at) ≡ (here at x y && dot_at parts part x y)
cell_dot parts part x y at is = one_text parts x y at ∙ by (here at x y) refl
  where
    by : (b : Bool) → here at x y ≡ b → (b && is_lettered (shown_of parts at) (x % 960) (y % 240)) ≡ (b && dot_at parts part x y)
    by true e = ap (λ (c : CellRef). is_lettered (shown_of parts c) (x % 960) (y % 240)) (same_cell part x y at is e)
    by false e = refl

-- whether a number is one of so many from a first one on
abbrev is_among : ℕ → ℕ → ℕ → Bool
is_among first count n = nat_le first n && nat_lt n (first + count)

among_none : (first n : ℕ) → false ≡ is_among first 0 n
among_none first n = grind (arith, nat_tests)

among_more : (first count n : ℕ) → (is_among first count n || nat_eq (first + count) n) ≡ is_among first (suc count) n
among_more first count n = grind (arith, nat_tests)

row_more : (r a b d : Bool) → ((r && a) && d || (r && b) && d) ≡ ((r && (a || b)) && d)
row_more true true b true = refl
row_more true true true false = refl
row_more true true false false = refl
row_more true false b d = refl
row_more false a b d = refl

row_none : (r d : Bool) → false ≡ ((r && false) && d)
row_none true d = refl
row_none false d = refl

-- the dots of a row
row_dot : (parts : Parts) (part x y row col n : ℕ) → list_any (is_dot_of x y) (texts_in_row parts part row col n) ≡ ((nat_eq row (y / 240) && is_among col n (x / 960)) && dot_at parts part x y)
row_dot parts part x y row col zero =
    row_none (nat_eq row (y / 240)) (dot_at parts part x y) ∙ ap (λ (b : Bool). (nat_eq row (y / 240) && b) && dot_at parts part x y) (among_none col (x / 960))
row_dot parts part x y row col (suc n) =
    list_any-append (is_dot_of x y) (texts_in_row parts part row col n) (text_in parts (record { part = part; row = row; col = col + n }))
    ∙ ap (λ (b : Bool). b || list_any (is_dot_of x y) (text_in parts (record { part = part; row = row; col = col + n }))) (row_dot parts part x y row col n)
    ∙ ap (λ (b : Bool). (nat_eq row (y / 240) && is_among col n (x / 960)) && dot_at parts part x y || b) (cell_dot parts part x y (record { part = part; row = row; col = col + n }) refl)
    ∙ row_more (nat_eq row (y / 240)) (is_among col n (x / 960)) (nat_eq (col + n) (x / 960)) (dot_at parts part x y)
    ∙ ap (λ (b : Bool). (nat_eq row (y / 240) && b) && dot_at parts part x y) (among_more col n (x / 960))

rows_more : (a b r d : Bool) → ((a && r) && d || (b && r) && d) ≡ (((a || b) && r) && d)
rows_more true b true true = refl
rows_more true true true false = refl
rows_more true false true false = refl
rows_more true true false d = refl
rows_more true false false d = refl
rows_more false b r d = refl

-- the dots of all rows
rows_dot : (parts : Parts) (part x y row col across n : ℕ) → list_any (is_dot_of x y) (texts_in_rows parts part row col across n) ≡ ((is_among row n (y / 240) && is_among col across (x / 960)) && dot_at parts part x y)
rows_dot parts part x y row col across zero = ap (λ (b : Bool). (b && is_among col across (x / 960)) && dot_at parts part x y) (among_none row (y / 240))
rows_dot parts part x y row col across (suc n) =
    list_any-append (is_dot_of x y) (texts_in_rows parts part row col across n) (texts_in_row parts part (row + n) col across)
    ∙ ap (λ (b : Bool). b || list_any (is_dot_of x y) (texts_in_row parts part (row + n) col across)) (rows_dot parts part x y row col across n)
    ∙ ap (λ (b : Bool). (is_among row n (y / 240) && is_among col across (x / 960)) && dot_at parts part x y || b) (row_dot parts part x y (row + n) col across)
    ∙ rows_more (is_among row n (y / 240)) (nat_eq (row + n) (y / 240)) (is_among col across (x / 960)) (dot_at parts part x y)
    ∙ ap (λ (b : Bool). (b && is_among col across (x / 960)) && dot_at parts part x y) (among_more row n (y / 240))

-- ---- the cells that an area meets have all of its points inside the part

met_y : (pos size y : ℕ) → pos ≤ y → y < pos + size → y < 983040 → is_among (pos / 240) (cells_met pos size 240 4096) (y / 240) ≡ true
met_y pos size y h k l =
    and_from (nat_le (pos / 240) (y / 240)) (nat_lt (y / 240) (pos / 240 + cells_met pos size 240 4096))
    (le-leb (pos / 240) (y / 240) (omega arith)) (lt-ltb (y / 240) (pos / 240 + cells_met pos size 240 4096) (omega arith))

met_x : (pos size x : ℕ) → pos ≤ x → x < pos + size → x < 245760 → is_among (pos / 960) (cells_met pos size 960 256) (x / 960) ≡ true
met_x pos size x h k l =
    and_from (nat_le (pos / 960) (x / 960)) (nat_lt (x / 960) (pos / 960 + cells_met pos size 960 256))
    (le-leb (pos / 960) (x / 960) (omega arith)) (lt-ltb (x / 960) (pos / 960 + cells_met pos size 960 256) (omega arith))

texts_dot : (parts : Parts) (p : Place) (x y : ℕ) → p.posx ≤ x → x < p.posx + p.tilewidth → p.posy ≤ y → y < p.posy + p.tileheight → x < 245760 → y < 983040 → list_any (is_dot_of x y) (texts_of parts p) ≡ dot_at parts p.part x y
unfolding texts_of
texts_dot parts p x y a b c d e f =
    rows_dot parts p.part x y (p.posy / 240) (p.posx / 960) (cells_met p.posx p.tilewidth 960 256) (cells_met p.posy p.tileheight 240 4096)
    ∙ ap (λ (b : Bool). (b && is_among (p.posx / 960) (cells_met p.posx p.tilewidth 960 256) (x / 960)) && dot_at parts p.part x y) (met_y p.posy p.tileheight y c d f)
    ∙ ap (λ (b : Bool). b && dot_at parts p.part x y) (met_x p.posx p.tilewidth x a b e)

point_same : (parts : Parts) (p : Place) (x y : ℕ) → p.part < length parts → p.posx ≤ x → x < p.posx + p.tilewidth → p.posy ≤ y → y < p.posy + p.tileheight → cut_colour (has_lines p.nviewid) (texts_of parts p) x y ≡ colour_of parts p.nviewid p.part x y
unfolding colour_of
point_same parts p x y h a b c d =
    by (is_inside x y) refl
    ∙ sym (ap (λ (b : Bool). if b && is_inside x y then cell_colour (has_lines p.nviewid) (shown_of parts (cell_at p.part x y)) (x % 960) (y % 240) else white) (lt-ltb p.part (length parts) h))
  where
    by : (b : Bool) → is_inside x y ≡ b → (if b then (if is_line (has_lines p.nviewid) (x % 960) (y % 240) then grey else (if list_any (is_dot_of x y) (texts_of parts p) then black else white)) else white) ≡ (if b then cell_colour (has_lines p.nviewid) (shown_of parts (cell_at p.part x y)) (x % 960) (y % 240) else white)
    by true e =
        let sides = and_parts (nat_lt x 245760) (nat_lt y 983040) e in
        ap (λ (b : Bool). if is_line (has_lines p.nviewid) (x % 960) (y % 240) then grey else (if b then black else white))
        (texts_dot parts p x y a b c d (ltb-true x 245760 sides.0) (ltb-true y 983040 sides.1))
    by false e = refl

-- the picture of the texts that an area meets is what it shows
pub cut_shows : (parts : Parts) (p : Place) → IsArea p → p.part < length parts → picture (λ part. cut_colour (has_lines p.nviewid) (texts_of parts p)) p ≡ picture (colour_of parts p.nviewid) p
cut_shows parts p area h =
    same_picture (λ part. cut_colour (has_lines p.nviewid) (texts_of parts p)) (colour_of parts p.nviewid) p
    (λ i j a b. point_same parts p (x_at p i) (y_at p j) h (omega arith) (sampled p.posx p.tilewidth p.width i area.tilewidth_low area.width_low a) (omega arith) (sampled p.posy p.tileheight p.height j area.tileheight_low area.height_low b))
