-- One more letter of a text.
use Rattle.std.proofs.Common.{◌≡◌, ℕ, ◌+◌, ◌-◌, ◌*◌, ◌/◌, ◌%◌, ◌<◌, ◌≤◌, min, max, Bool, true, false, cond, ◌&&◌, ◌||◌, nat_lt, nat_le, List, [], length, take, get_or, slice_index, refl, sym, ap, ◌∙◌, arith, inl, inr, ◌⊎◌, ⊎_elim}
use Rattle.std.proofs.lemmas.Bool.{cases_lt}
use Rattle.std.proofs.lemmas.Bool.Decides.{nat_tests}
use Rattle.std.proofs.lemmas.List.{get_or-take, get_or_default, length-take, take_all}
use Rattle.cool_base.specs.Points.{Rectangle, has_point}
use Rattle.tile_key.specs.Places.{Place}
use Rattle.kit_trait.specs.Pictures.{Colour, x_at, y_at}
use Rattle.bitmap_font.specs.Glyphs.{dot_of, has_dot}
use Rattle.tile_raster.specs.Painting.{Painting, pixel, IsPainted}
use Rattle.tile_raster.specs.Lettering.{text_dot, letter_at}
use Rattle.tile_raster.specs.Bytes.{letter_dot}
use Rattle.tile_raster.specs.Spans.{in_span}

pub in_both : (a b c d n : ℕ) → in_span (max a c) (min b d) n ≡ (in_span a b n && in_span c d n)
in_both a b c d n = grind (arith, nat_tests)

-- what is known of the pixels of a span
pub within_span : (first end n from to point : ℕ) → first ≤ n → n < end → in_span first end n ≡ in_span from to point → (from ≤ point) × (point < to)
within_span first end n from to point low high same = grind (arith, nat_tests)

rearranged : (lx ly cx cy d : Bool) → ((ly && cy) && ((lx && cx) && d)) ≡ ((cx && cy) && ((lx && ly) && d))
rearranged true true true true d = refl
rearranged true true true false d = refl
rearranged true true false true d = refl
rearranged true true false false d = refl
rearranged true false true true d = refl
rearranged true false true false d = refl
rearranged true false false true d = refl
rearranged true false false false d = refl
rearranged false true true true d = refl
rearranged false true true false d = refl
rearranged false true false true d = refl
rearranged false true false false d = refl
rearranged false false true true d = refl
rearranged false false true false d = refl
rearranged false false false true d = refl
rearranged false false false false d = refl

-- the cells of a letter's block are those whose point lies in the clip and on a dot of the letter
pub letter_cells : (c x y : ℕ) (clip : Rectangle) (cf ce rf re i j px py : ℕ) → in_span cf ce i ≡ in_span (max x clip.x) (min (x + 90) (clip.x + clip.w)) px → in_span rf re j ≡ in_span (max y clip.y) (min (y + 120) (clip.y + clip.h)) py → (in_span rf re j && (in_span cf ce i && dot_of c ((px - x) / 15) ((py - y) / 15))) ≡ (has_point clip px py && letter_dot c x y px py)
letter_cells c x y clip cf ce rf re i j px py columns rows =
    rw (rows, columns, in_both x (x + 90) clip.x (clip.x + clip.w) px, in_both y (y + 120) clip.y (clip.y + clip.h) py)
    (rearranged (in_span x (x + 90) px) (in_span y (y + 120) py) (in_span clip.x (clip.x + clip.w) px) (in_span clip.y (clip.y + clip.h) py) (dot_of c ((px - x) / 15) ((py - y) / 15)))

either : (a b : Bool) (colour old : Colour) → cond b colour (cond a colour old) ≡ cond (a || b) colour old
either true true colour old = refl
either true false colour old = refl
either false b colour old = refl

pub painted_more : (area : Place) (a b c : ℕ → ℕ → Bool) (colour : Colour) (old between new : Painting) → ((px py : ℕ) → c px py ≡ (a px py || b px py)) → IsPainted area a colour old between → IsPainted area b colour between new → IsPainted area c colour old new
painted_more area a b c colour old between new both first second = record {
  width = second.width ∙ first.width;
  height = second.height ∙ first.height;
  pixels = λ i j inside below.
      rw (both (x_at area i) (y_at area j), second.pixels i j (rw first.width inside) (rw first.height below), first.pixels i j inside below)
      (either (a (x_at area i) (y_at area j)) (b (x_at area i) (y_at area j)) colour (pixel old i j));
}

pub painted_as : (area : Place) (a c : ℕ → ℕ → Bool) (colour : Colour) (old new : Painting) → ((px py : ℕ) → a px py ≡ c px py) → IsPainted area a colour old new → IsPainted area c colour old new
painted_as area a c colour old new same set = record {
  width = set.width;
  height = set.height;
  pixels = λ i j inside below. rw (← same (x_at area i) (y_at area j)) (set.pixels i j inside below);
}

pub painted_none : (area : Place) (c : ℕ → ℕ → Bool) (colour : Colour) (old : Painting) → ((px py : ℕ) → c px py ≡ false) → IsPainted area c colour old old
painted_none area c colour old none = record {
  width = refl;
  height = refl;
  pixels = λ i j inside below. rw (none (x_at area i) (y_at area j)) refl;
}

inked_front : (cs : List ℕ) (n across down : ℕ) → n ≤ length cs → has_dot (take n cs) across down ≡ (nat_lt (letter_at across) n && dot_of (slice_index cs (letter_at across)) (across % 90 / 15) (down / 15))
inked_front cs n across down within =
    let long : length (take n cs) ≡ n = simp length-take (omega arith) in
    ⊎_elim (λ (front : across / 90 < n). rw (long, get_or-take n cs (across / 90) 0 front) refl)
    (λ (past : n ≤ across / 90). let none : nat_lt (across / 90) n ≡ false = grind (arith, nat_tests) in rw (long, none) refl)
    (cases_lt (across / 90) n)

or_false : (b : Bool) → (b || false) ≡ b
or_false true = refl
or_false false = refl

and_false : (b : Bool) → (b && false) ≡ false
and_false true = refl
and_false false = refl

-- t and u say that the number of the letter that a place lies in is at most n and is below n, b that the place is across the
-- box of letter n, v and w that it is below the text's upper edge and above its lower one
one_letter : (v w t u b d e : Bool) → (t ≡ true × u ≡ true × b ≡ false) ⊎ ((t ≡ true × u ≡ false × b ≡ true × d ≡ e) ⊎ (t ≡ false × u ≡ false × b ≡ false)) → ((v && w) && (t && d)) ≡ (((v && w) && (u && d)) || ((b && (v && w)) && e))
one_letter v w t u b d e (inl h) = rw (h.0, h.1, h.2) (sym (or_false ((v && w) && d)))
one_letter true true t u b d e (inr (inl h)) = rw (h.0, h.1, h.2) h.3
one_letter true false t u b d e (inr (inl h)) = rw h.2 refl
one_letter false w t u b d e (inr (inl h)) = rw h.2 refl
one_letter v w t u b d e (inr (inr h)) = rw (h.0, h.1, h.2, and_false (v && w)) refl

letter_cases : (x px n : ℕ) → x ≤ px → ((nat_lt ((px - x) / 90) (n + 1) ≡ true) × (nat_lt ((px - x) / 90) n ≡ true) × (in_span (x + 90 * n) (x + 90 * n + 90) px ≡ false)) ⊎ (((px - x) / 90 ≡ n) ⊎ ((nat_lt ((px - x) / 90) (n + 1) ≡ false) × (nat_lt ((px - x) / 90) n ≡ false) × (in_span (x + 90 * n) (x + 90 * n + 90) px ≡ false)))
letter_cases x px n order =
    ⊎_elim (λ (less : (px - x) / 90 < n). inl (grind (arith, nat_tests), grind (arith, nat_tests), grind (arith, nat_tests)))
    (λ (least : n ≤ (px - x) / 90). ⊎_elim (λ (more : n < (px - x) / 90). inr (inr (grind (arith, nat_tests), grind (arith, nat_tests), grind (arith, nat_tests)))) (λ (most : (px - x) / 90 ≤ n). inr (inl (omega arith))) (cases_lt n ((px - x) / 90)))
    (cases_lt ((px - x) / 90) n)

-- in the box of letter n the number is n, and the column is that of the letter
in_box : (x px n : ℕ) → x ≤ px → (px - x) / 90 ≡ n → (nat_lt ((px - x) / 90) (n + 1) ≡ true) × (nat_lt ((px - x) / 90) n ≡ false) × (in_span (x + 90 * n) (x + 90 * n + 90) px ≡ true) × (px - (x + 90 * n) ≡ (px - x) % 90)
in_box x px n order at = (grind (arith, nat_tests), grind (arith, nat_tests), grind (arith, nat_tests), omega arith)

pub letter_more : (x y px py n c : ℕ) (cs : List ℕ) → n < length cs → c ≡ get_or cs n c → text_dot x y (take (n + 1) cs) px py ≡ (text_dot x y (take n cs) px py || letter_dot c (x + 90 * n) y px py)
unfolding text_dot
letter_more x y px py n c cs within at =
    rw (inked_front cs (n + 1) (px - x) (py - y) (omega arith), inked_front cs n (px - x) (py - y) (omega arith))
    (⊎_elim (λ (before : px < x).
    let none : nat_le x px ≡ false = grind (arith, nat_tests) in
    let out : nat_le (x + 90 * n) px ≡ false = grind (arith, nat_tests) in
    rw (none, out) refl)
    (λ (order : x ≤ px).
    let some : nat_le x px ≡ true = grind (arith, nat_tests) in
    rw some
    (one_letter (nat_le y py) (nat_lt py (y + 120)) (nat_lt ((px - x) / 90) (n + 1)) (nat_lt ((px - x) / 90) n) (in_span (x + 90 * n) (x + 90 * n + 90) px)
    (dot_of (slice_index cs ((px - x) / 90)) ((px - x) % 90 / 15) ((py - y) / 15)) (dot_of c ((px - (x + 90 * n)) / 15) ((py - y) / 15))
    (⊎_elim (λ h. inl h) (λ h. inr (⊎_elim (λ (same : (px - x) / 90 ≡ n).
    let box = in_box x px n order same in
    let letter : slice_index cs ((px - x) / 90) ≡ c = ap (λ k. slice_index cs k) same ∙ get_or_default cs n 0 c within ∙ sym at in
    inl (box.0, box.1, box.2, rw (letter, box.3) refl)) (λ h. inr h) h))
    (letter_cases x px n order))))
    (cases_lt px x))

and_or : (h a b : Bool) → (h && (a || b)) ≡ ((h && a) || (h && b))
and_or true a b = refl
and_or false a b = refl

-- one more letter, where the text is cut by a rectangle
pub letter_painted : (area : Place) (clip : Rectangle) (x y n c : ℕ) (cs : List ℕ) (colour : Colour) (old between new : Painting) → n < length cs → c ≡ get_or cs n c → IsPainted area (λ px py. has_point clip px py && text_dot x y (take n cs) px py) colour old between → IsPainted area (λ px py. has_point clip px py && letter_dot c (x + 90 * n) y px py) colour between new → IsPainted area (λ px py. has_point clip px py && text_dot x y (take (n + 1) cs) px py) colour old new
letter_painted area clip x y n c cs colour old between new within at first second =
    painted_more area (λ px py. has_point clip px py && text_dot x y (take n cs) px py) (λ px py. has_point clip px py && letter_dot c (x + 90 * n) y px py) (λ px py. has_point clip px py && text_dot x y (take (n + 1) cs) px py) colour old between new
    (λ px py. ap (λ b. has_point clip px py && b) (letter_more x y px py n c cs within at) ∙ and_or (has_point clip px py) (text_dot x y (take n cs) px py) (letter_dot c (x + 90 * n) y px py)) first second

no_text : (x y px py : ℕ) → text_dot x y [] px py ≡ false
unfolding text_dot
no_text x y px py =
    let none : nat_lt ((px - x) / 90) 0 ≡ false = grind (arith, nat_tests) in
    rw none (and_false (nat_le x px && nat_le y py && nat_lt py (y + 120)))

pub letters_none : (area : Place) (clip : Rectangle) (x y : ℕ) (colour : Colour) (old : Painting) → IsPainted area (λ px py. has_point clip px py && text_dot x y [] px py) colour old old
letters_none area clip x y colour old = painted_none area (λ px py. has_point clip px py && text_dot x y [] px py) colour old (λ px py. ap (λ b. has_point clip px py && b) (no_text x y px py) ∙ and_false _)

-- letters that begin right of a point don't have it
front_enough : (x y px py n : ℕ) (cs : List ℕ) → n ≤ length cs → px < x + 90 * n → text_dot x y (take n cs) px py ≡ text_dot x y cs px py
unfolding text_dot
front_enough x y px py n cs within before =
    rw (inked_front cs n (px - x) (py - y) within)
    (⊎_elim (λ (left : px < x). let none : nat_le x px ≡ false = grind (arith, nat_tests) in rw none refl)
    (λ (order : x ≤ px).
    let front : nat_lt ((px - x) / 90) n ≡ true = grind (arith, nat_tests) in
    let whole : nat_lt ((px - x) / 90) (length cs) ≡ true = grind (arith, nat_tests) in
    rw (front, whole) refl)
    (cases_lt px x))

cut_enough : (clip : Rectangle) (x y px py n : ℕ) (cs : List ℕ) → n ≤ length cs → clip.x + clip.w ≤ x + 90 * n → (has_point clip px py && text_dot x y (take n cs) px py) ≡ (has_point clip px py && text_dot x y cs px py)
cut_enough clip x y px py n cs within past =
    ⊎_elim (λ (before : px < x + 90 * n). ap (λ b. has_point clip px py && b) (front_enough x y px py n cs within before))
    (λ (beyond : x + 90 * n ≤ px). let out : nat_lt px (clip.x + clip.w) ≡ false = grind (arith, nat_tests) in rw (out, and_false (nat_le clip.x px)) refl)
    (cases_lt px (x + 90 * n))

-- the letters so far are all that the clip can show
pub letters_cut : (area : Place) (clip : Rectangle) (x y n : ℕ) (cs : List ℕ) (colour : Colour) (old new : Painting) → n ≤ length cs → clip.x + clip.w ≤ x + 90 * n → IsPainted area (λ px py. has_point clip px py && text_dot x y (take n cs) px py) colour old new → IsPainted area (λ px py. has_point clip px py && text_dot x y cs px py) colour old new
letters_cut area clip x y n cs colour old new within past first =
    painted_as area (λ px py. has_point clip px py && text_dot x y (take n cs) px py) (λ px py. has_point clip px py && text_dot x y cs px py) colour old new (λ px py. cut_enough clip x y px py n cs within past) first

-- the letters so far are all
pub letters_all : (area : Place) (clip : Rectangle) (x y n : ℕ) (cs : List ℕ) (colour : Colour) (old new : Painting) → length cs ≤ n → IsPainted area (λ px py. has_point clip px py && text_dot x y (take n cs) px py) colour old new → IsPainted area (λ px py. has_point clip px py && text_dot x y cs px py) colour old new
letters_all area clip x y n cs colour old new whole first =
    let same : take n cs ≡ cs = take_all n cs whole in
    rw same at first
