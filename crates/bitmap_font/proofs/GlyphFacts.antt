-- The glyphs of the code are those that are printed.
use Rattle.std.proofs.Common.{◌≡◌, ℕ, zero, suc, ◌-◌, ◌/◌, ◌^◌, ◌<◌, ◌≤◌, true, false, ◌&&◌, nat_le, nat_eq, bit_and, [], ◌∷◌, map, length, replicate, get_or, slice_index, refl, sym, ap, ◌∙◌, arith, ⊎_elim, lit≤}
use Rattle.std.proofs.Math.ListN as list
use Rattle.std.proofs.lemmas.List.{get_or-map}
use Rattle.std.proofs.lemmas.Bool.{cases_lt}
use Rattle.std.proofs.lemmas.Bool.Decides.{nat_tests}
use Rattle.std.proofs.lemmas.Nat.Bits.{bit_at-zero, shr_and_one}
use Rattle.bitmap_font.specs.declared.glyphs.TheConstants.{GLYPHS}
use Rattle.bitmap_font.specs.Glyphs.{printed, box, columns, glyph_of, dot_of}

pub printed_columns : map columns printed ≡ GLYPHS
unfolding printed
printed_columns = refl

printed_count : length printed ≡ 95
unfolding printed
printed_count = refl

is_printed : (c : ℕ) → 32 ≤ c → c ≤ 126 → (nat_le 32 c && nat_le c 126) ≡ true
is_printed c low high = grind (arith, nat_tests)

is_below : (c : ℕ) → c < 32 → (nat_le 32 c && nat_le c 126) ≡ false
is_below c low = grind (arith, nat_tests)

is_above : (c : ℕ) → 126 < c → (nat_le 32 c && nat_le c 126) ≡ false
is_above c high = grind (arith, nat_tests)

pub glyph-printed : (c : ℕ) → 32 ≤ c → c ≤ 126 → glyph_of c ≡ get_or GLYPHS (c - 32) []
unfolding glyph_of
glyph-printed c low high =
    let test = is_printed c low high in
    let within : c - 32 < length printed = omega (arith, printed_count) in
    rw (test, ← printed_columns) (sym (get_or-map columns printed (c - 32) box [] within))

pub glyph-below : (c : ℕ) → c < 32 → glyph_of c ≡ columns box
unfolding glyph_of
glyph-below c low = rw (is_below c low) refl

pub glyph-above : (c : ℕ) → 126 < c → glyph_of c ≡ columns box
unfolding glyph_of
glyph-above c high = rw (is_above c high) refl

pub box_columns : columns box ≡ 127 ∷ 65 ∷ 65 ∷ 65 ∷ 127 ∷ []
unfolding box
box_columns = refl

-- each glyph has five columns
five : map length GLYPHS ≡ replicate 95 5
five = refl

five_at_most : (n count : ℕ) → get_or (replicate count 5) n 0 ≤ 5
five_at_most n zero = lit≤ tt
five_at_most zero (suc count) = lit≤ tt
five_at_most (suc n) (suc count) = five_at_most n count

printed_length : (n : ℕ) → length (get_or GLYPHS n []) ≤ 5
printed_length n =
    let same : length (get_or GLYPHS n []) ≡ get_or (replicate 95 5) n 0 = sym (list.get_or-map length GLYPHS n []) ∙ ap (λ l. get_or l n 0) five in
    omega (arith, five_at_most n 95)

glyph_length : (c : ℕ) → length (glyph_of c) ≤ 5
glyph_length c = ⊎_elim (λ below. rw (glyph-below c below, box_columns) (lit≤ tt)) (λ low. ⊎_elim (λ above. rw (glyph-above c above, box_columns) (lit≤ tt)) (λ high. rw (glyph-printed c low high) (printed_length (c - 32))) (cases_lt 126 c)) (cases_lt c 32)

pub no_dot_from_five : (c x y : ℕ) → 5 ≤ x → dot_of c x y ≡ false
unfolding dot_of
no_dot_from_five c x y past =
    let short : length (glyph_of c) ≤ x = omega (arith, glyph_length c) in
    rw (list.get_or-eq_default (glyph_of c) 0 short, bit_at-zero y) refl

-- bit y of a column, as the code finds it
pub dot_by_shift : (c x y v : ℕ) → v ≡ slice_index (glyph_of c) x → nat_eq (bit_and (v / 2 ^ y) 1) 1 ≡ dot_of c x y
unfolding dot_of
dot_by_shift c x y v is = rw (shr_and_one v y, is) refl

pub ruleset glyphs = (no_dot_from_five, dot_by_shift)
