-- The rectangles of damaged cells have their points, lie where the cells lie, and are at most 256.
use Rattle.std.proofs.Common.{◌≡◌, ℕ, zero, suc, ◌+◌, ◌-◌, ◌*◌, ◌/◌, ◌<◌, ◌≤◌, min, max, Bool, true, false, ◌&&◌, ◌||◌, nat_eq, nat_lt, nat_le, List, [], ◌∷◌, length, map, refl, ap, sym, ◌∙◌, subst, ⊎_elim, arith, lit≤, if◌then◌else◌, ltb-true, leb-true, lt-ltb, le-leb, eqb-true, eq-eqb, leb-false}
use Rattle.std.specs.Prelude.{slice_index_or}
use Rattle.std.specs.List.{list_any, AllByRecursion, Contains}
use Rattle.std.proofs.lemmas.Bool.{and_parts, and_from, or_cases, or_left, or_right, cases_Bool}
use Rattle.cool_base.specs.Points.{Rectangle, has_point}
use Rattle.kit_trait.specs.declared.values.Damage.{Damage}
use Rattle.kit_trait.specs.Rules.{hurts_point}
use Rattle.cell_damage.specs.declared.limits.TheConstants.{CELL_WIDTH, CELL_HEIGHT, MOST_RECTANGLES}
use Rattle.cell_damage.specs.declared.stretches.Stretch.{Stretch}
use Rattle.cell_damage.specs.Rectangles.{rect_over, rect_over_all, at_most, damaged, damage_in}
use Rattle.cell_damage.specs.Cells.{one_cell, is_next, put_before, stretches, rect_of, damage_of}

-- ---- points of rectangles

-- the point lies in the rectangle
pub record Has (r : Rectangle) (x y : ℕ) : Type 0 where
  pub left : r.x ≤ x
  pub right : x < r.x + r.w
  pub upper : r.y ≤ y
  pub lower : y < r.y + r.h

pub has_facts : (r : Rectangle) (x y : ℕ) → has_point r x y ≡ true → Has r x y
has_facts r x y e =
    let sides = and_parts (nat_le r.x x && nat_lt x (r.x + r.w)) (nat_le r.y y && nat_lt y (r.y + r.h)) e in
    let across = and_parts (nat_le r.x x) (nat_lt x (r.x + r.w)) sides.0 in
    let down = and_parts (nat_le r.y y) (nat_lt y (r.y + r.h)) sides.1 in
    record { left = leb-true r.x x across.0; right = ltb-true x (r.x + r.w) across.1; upper = leb-true r.y y down.0; lower = ltb-true y (r.y + r.h) down.1 }

pub facts_has : (r : Rectangle) (x y : ℕ) → Has r x y → has_point r x y ≡ true
facts_has r x y h =
    and_from (nat_le r.x x && nat_lt x (r.x + r.w)) (nat_le r.y y && nat_lt y (r.y + r.h))
    (and_from (nat_le r.x x) (nat_lt x (r.x + r.w)) (le-leb r.x x h.left) (lt-ltb x (r.x + r.w) h.right))
    (and_from (nat_le r.y y) (nat_lt y (r.y + r.h)) (le-leb r.y y h.upper) (lt-ltb y (r.y + r.h) h.lower))

-- ---- stretches have the points of their cells

covers : ℕ → ℕ → Stretch → Bool
covers x y s = has_point (rect_of s) x y

abbrev joined : Stretch → Stretch → Stretch
joined s t = record s { count = s.count + t.count }

covers_first : (x y : ℕ) (s t : Stretch) → covers x y s ≡ true → covers x y (joined s t) ≡ true
unfolding covers
covers_first x y s t e =
    let h = has_facts (rect_of s) x y e in
    facts_has (rect_of (joined s t)) x y (record { left = h.left; right = omega (arith, h.right); upper = h.upper; lower = h.lower })

covers_second : (x y : ℕ) (s t : Stretch) → is_next s t ≡ true → covers x y t ≡ true → covers x y (joined s t) ≡ true
unfolding covers
covers_second x y s t next e =
    let h = has_facts (rect_of t) x y e in
    let parts = and_parts (nat_eq s.row t.row) (nat_eq (s.col + s.count) t.col) next in
    let row = eqb-true s.row t.row parts.0 in
    let col = eqb-true (s.col + s.count) t.col parts.1 in
    facts_has (rect_of (joined s t)) x y (record { left = omega (arith, h.left, col); right = omega (arith, h.right, col); upper = omega (arith, h.upper, row); lower = omega (arith, h.lower, row) })

put_first : (x y : ℕ) (s : Stretch) (ts : List Stretch) → covers x y s ≡ true → list_any (covers x y) (put_before s ts) ≡ true
put_first x y s [] e = or_left (covers x y s) false e
put_first x y s (t ∷ ts) e = by (is_next s t)
  where
    by : (b : Bool) → list_any (covers x y) (if b then joined s t ∷ ts else s ∷ t ∷ ts) ≡ true
    by true = or_left (covers x y (joined s t)) (list_any (covers x y) ts) (covers_first x y s t e)
    by false = or_left (covers x y s) (list_any (covers x y) (t ∷ ts)) e

put_rest : (x y : ℕ) (s : Stretch) (ts : List Stretch) → list_any (covers x y) ts ≡ true → list_any (covers x y) (put_before s ts) ≡ true
put_rest x y s [] e = cc
put_rest x y s (t ∷ ts) e = by (is_next s t) refl
  where
    by : (b : Bool) → is_next s t ≡ b → list_any (covers x y) (if b then joined s t ∷ ts else s ∷ t ∷ ts) ≡ true
    by true next =
        ⊎_elim (λ (h : covers x y t ≡ true). or_left (covers x y (joined s t)) (list_any (covers x y) ts) (covers_second x y s t next h))
        (λ (h : list_any (covers x y) ts ≡ true). or_right (covers x y (joined s t)) (list_any (covers x y) ts) h)
        (or_cases (covers x y t) (list_any (covers x y) ts) e)
    by false next = or_right (covers x y s) (list_any (covers x y) (t ∷ ts)) e

-- the cell of a point
abbrev pub cell_of : ℕ → ℕ → ℕ × ℕ
cell_of x y = (y / CELL_HEIGHT, x / CELL_WIDTH)

at_cell : (x y : ℕ) (p : ℕ × ℕ) → p ≡ cell_of x y → covers x y (one_cell p) ≡ true
unfolding covers
at_cell x y p same =
    let row : p.0 ≡ y / 240 = ap (λ (q : ℕ × ℕ). q.0) same in
    let col : p.1 ≡ x / 960 = ap (λ (q : ℕ × ℕ). q.1) same in
    facts_has (rect_of (one_cell p)) x y (record { left = omega (arith, col); right = omega (arith, col); upper = omega (arith, row); lower = omega (arith, row) })

-- a point whose cell is among the cells lies in a stretch
covered_at : (x y : ℕ) (cells : List (ℕ × ℕ)) (k : ℕ) → k < length cells → slice_index_or cells k (cell_of x y) ≡ cell_of x y → list_any (covers x y) (stretches cells) ≡ true
covered_at x y [] k h is = absurd (omega (arith, h))
covered_at x y (p ∷ ps) zero h is = put_first x y (one_cell p) (stretches ps) (at_cell x y p is)
covered_at x y (p ∷ ps) (suc k) h is = put_rest x y (one_cell p) (stretches ps) (covered_at x y ps k (omega (arith, h)) is)

-- ---- and so have the damaged rectangles

abbrev any_has : ℕ → ℕ → List Rectangle → Bool
any_has x y rs = list_any (λ r. has_point r x y) rs

rects_any : (x y : ℕ) (ss : List Stretch) → list_any (covers x y) ss ≡ any_has x y (map rect_of ss)
unfolding covers
rects_any x y [] = refl
rects_any x y (s ∷ ss) = ap (λ (b : Bool). has_point (rect_of s) x y || b) (rects_any x y ss)

over_left : (a b : Rectangle) (x y : ℕ) → has_point a x y ≡ true → has_point (rect_over a b) x y ≡ true
over_left a b x y e =
    let h = has_facts a x y e in
    facts_has (rect_over a b) x y (record { left = omega (arith, h.left); right = omega (arith, h.left, h.right); upper = omega (arith, h.upper); lower = omega (arith, h.upper, h.lower) })

over_right : (a b : Rectangle) (x y : ℕ) → has_point b x y ≡ true → has_point (rect_over a b) x y ≡ true
over_right a b x y e =
    let h = has_facts b x y e in
    facts_has (rect_over a b) x y (record { left = omega (arith, h.left); right = omega (arith, h.left, h.right); upper = omega (arith, h.upper); lower = omega (arith, h.upper, h.lower) })

over_all : (x y : ℕ) (r : Rectangle) (rs : List Rectangle) → any_has x y (r ∷ rs) ≡ true → has_point (rect_over_all r rs) x y ≡ true
over_all x y r [] e = ⊎_elim (λ (h : has_point r x y ≡ true). h) (λ (h : false ≡ true). cc) (or_cases (has_point r x y) false e)
over_all x y r (s ∷ ss) e =
    over_all x y (rect_over r s) ss
    (⊎_elim (λ (h : has_point r x y ≡ true). or_left (has_point (rect_over r s) x y) (any_has x y ss) (over_left r s x y h))
    (λ (h : any_has x y (s ∷ ss) ≡ true).
    ⊎_elim (λ (k : has_point s x y ≡ true). or_left (has_point (rect_over r s) x y) (any_has x y ss) (over_right r s x y k))
    (λ (k : any_has x y ss ≡ true). or_right (has_point (rect_over r s) x y) (any_has x y ss) k)
    (or_cases (has_point s x y) (any_has x y ss) h))
    (or_cases (has_point r x y) (any_has x y (s ∷ ss)) e))

most_any : (x y : ℕ) (rs : List Rectangle) → any_has x y rs ≡ true → any_has x y (at_most rs) ≡ true
most_any x y [] e = e
most_any x y (r ∷ rs) e = by (nat_le (length (r ∷ rs)) MOST_RECTANGLES)
  where
    by : (b : Bool) → any_has x y (if b then r ∷ rs else rect_over_all r rs ∷ []) ≡ true
    by true = e
    by false = or_left (has_point (rect_over_all r rs) x y) false (over_all x y r rs e)

damaged_any : (part x y : ℕ) (rs : List Rectangle) → any_has x y rs ≡ list_any (λ d. hurts_point d part x y) (map (damaged part) rs)
damaged_any part x y [] = refl
damaged_any part x y (r ∷ rs) =
    ap (λ (b : Bool). b || any_has x y rs) (sym (ap (λ (b : Bool). b && has_point r x y) (eq-eqb part part refl)))
    ∙ ap (λ (b : Bool). hurts_point (damaged part r) part x y || b) (damaged_any part x y rs)

-- a point of the part that lies in one of the rectangles is damaged
pub had_damaged : (part x y : ℕ) (rs : List Rectangle) → any_has x y rs ≡ true → list_any (λ d. hurts_point d part x y) (damage_in part rs) ≡ true
unfolding damage_in
had_damaged part x y rs e = sym (damaged_any part x y (at_most rs)) ∙ most_any x y rs e

-- and so is one whose cell is among the cells
pub cell_damaged : (part x y : ℕ) (cells : List (ℕ × ℕ)) → Contains cells (cell_of x y) → list_any (λ d. hurts_point d part x y) (damage_of part cells) ≡ true
unfolding damage_of
cell_damaged part x y cells has =
    had_damaged part x y (map rect_of (stretches cells)) (sym (rects_any x y (stretches cells)) ∙ covered_at x y cells has.0 has.1 has.2)

-- ---- the damage lies where the cells lie

-- the rectangle lies within a width and a height
pub record IsIn (w h : ℕ) (r : Rectangle) : Type 0 where
  pub right : r.x + r.w ≤ w
  pub lower : r.y + r.h ≤ h

-- the cell is one of so many rows and columns
abbrev pub IsCellOf : ℕ → ℕ → ℕ × ℕ → Type 0
IsCellOf rows columns p = (p.0 < rows) × (p.1 < columns)

record IsRight (rows columns : ℕ) (s : Stretch) : Type 0 where
  row : s.row < rows
  right : s.col + s.count ≤ columns

put_right : (rows columns : ℕ) (p : ℕ × ℕ) (ts : List Stretch) → IsCellOf rows columns p → AllByRecursion (IsRight rows columns) ts → AllByRecursion (IsRight rows columns) (put_before (one_cell p) ts)
put_right rows columns p [] cell all = (record { row = cell.0; right = omega (arith, cell.1) }, tt)
put_right rows columns p (t ∷ ts) cell all = by (is_next (one_cell p) t) refl
  where
    by : (b : Bool) → is_next (one_cell p) t ≡ b → AllByRecursion (IsRight rows columns) (if b then joined (one_cell p) t ∷ ts else one_cell p ∷ t ∷ ts)
    by true next =
        let parts = and_parts (nat_eq p.0 t.row) (nat_eq (p.1 + 1) t.col) next in
        (record { row = cell.0; right = omega (arith, eqb-true (p.1 + 1) t.col parts.1, all.0.right) }, all.1)
    by false next = (record { row = cell.0; right = omega (arith, cell.1) }, all)

all_right : (rows columns : ℕ) (cells : List (ℕ × ℕ)) → AllByRecursion (IsCellOf rows columns) cells → AllByRecursion (IsRight rows columns) (stretches cells)
all_right rows columns [] all = tt
all_right rows columns (p ∷ ps) all = put_right rows columns p (stretches ps) all.0 (all_right rows columns ps all.1)

rects_in : (rows columns : ℕ) (ss : List Stretch) → AllByRecursion (IsRight rows columns) ss → AllByRecursion (IsIn (columns * CELL_WIDTH) (rows * CELL_HEIGHT)) (map rect_of ss)
rects_in rows columns [] all = tt
rects_in rows columns (s ∷ ss) all = (record { right = omega (arith, all.0.right); lower = omega (arith, all.0.row) }, rects_in rows columns ss all.1)

over_in : (w h : ℕ) (r : Rectangle) (rs : List Rectangle) → IsIn w h r → AllByRecursion (IsIn w h) rs → IsIn w h (rect_over_all r rs)
over_in w h r [] here all = here
over_in w h r (s ∷ ss) here all =
    over_in w h (rect_over r s) ss (record { right = omega (arith, here.right, all.0.right); lower = omega (arith, here.lower, all.0.lower) }) all.1

most_in : (w h : ℕ) (rs : List Rectangle) → AllByRecursion (IsIn w h) rs → AllByRecursion (IsIn w h) (at_most rs)
most_in w h [] all = tt
most_in w h (r ∷ rs) all = by (nat_le (length (r ∷ rs)) MOST_RECTANGLES)
  where
    by : (b : Bool) → AllByRecursion (IsIn w h) (if b then r ∷ rs else rect_over_all r rs ∷ [])
    by true = all
    by false = (over_in w h r rs all.0 all.1, tt)

-- the damage is of the part, and lies within a width and a height
pub record IsInside (w h part : ℕ) (d : Damage) : Type 0 where
  pub part_is : d.part ≡ part
  pub rect : IsIn w h d.rect

damaged_in : (w h part : ℕ) (rs : List Rectangle) → AllByRecursion (IsIn w h) rs → AllByRecursion (IsInside w h part) (map (damaged part) rs)
damaged_in w h part [] all = tt
damaged_in w h part (r ∷ rs) all = (record { part_is = refl; rect = all.0 }, damaged_in w h part rs all.1)

pub rects_inside : (w h part : ℕ) (rs : List Rectangle) → AllByRecursion (IsIn w h) rs → AllByRecursion (IsInside w h part) (damage_in part rs)
unfolding damage_in
rects_inside w h part rs all = damaged_in w h part (at_most rs) (most_in w h rs all)

pub cells_inside : (rows columns part : ℕ) (cells : List (ℕ × ℕ)) → AllByRecursion (IsCellOf rows columns) cells → AllByRecursion (IsInside (columns * CELL_WIDTH) (rows * CELL_HEIGHT) part) (damage_of part cells)
unfolding damage_of
cells_inside rows columns part cells all =
    rects_inside (columns * CELL_WIDTH) (rows * CELL_HEIGHT) part (map rect_of (stretches cells)) (rects_in rows columns (stretches cells) (all_right rows columns cells all))

-- ---- and is of at most 256 rectangles

most_few : (rs : List Rectangle) → length (at_most rs) ≤ MOST_RECTANGLES
most_few [] = lit≤ tt
most_few (r ∷ rs) = by (nat_le (length (r ∷ rs)) MOST_RECTANGLES) refl
  where
    by : (b : Bool) → nat_le (length (r ∷ rs)) MOST_RECTANGLES ≡ b → length (if b then r ∷ rs else rect_over_all r rs ∷ []) ≤ MOST_RECTANGLES
    by true e = leb-true (length (r ∷ rs)) MOST_RECTANGLES e
    by false e = lit≤ tt

damaged_long : (part : ℕ) (rs : List Rectangle) → length (map (damaged part) rs) ≡ length rs
damaged_long part [] = refl
damaged_long part (r ∷ rs) = ap suc (damaged_long part rs)

pub rects_few : (part : ℕ) (rs : List Rectangle) → length (damage_in part rs) ≤ MOST_RECTANGLES
unfolding damage_in
rects_few part rs = subst (λ (n : ℕ). n ≤ MOST_RECTANGLES) (sym (damaged_long part (at_most rs))) (most_few rs)

pub cells_few : (part : ℕ) (cells : List (ℕ × ℕ)) → length (damage_of part cells) ≤ MOST_RECTANGLES
unfolding damage_of
cells_few part cells = rects_few part (map rect_of (stretches cells))

-- no cell is no damage
pub none_damaged : (part : ℕ) → damage_of part [] ≡ []
unfolding damage_of damage_in
none_damaged part = refl
