-- One more pixel of a row, and one more row of a block.
use Rattle.std.proofs.Common.{◌≡◌, ℕ, ◌+◌, ◌*◌, ◌<◌, ◌≤◌, Bool, true, false, cond, ◌&&◌, nat_eq, List, refl, sym, ap, ◌∙◌, arith, ⊎_elim}
use Rattle.std.proofs.Math.Nat.{mul-le-mul_right}
use Rattle.std.proofs.lemmas.Bool.{cases_lt}
use Rattle.std.proofs.lemmas.Bool.Decides.{nat_tests}
use Rattle.tile_key.specs.Places.{Place}
use Rattle.kit_trait.specs.Pictures.{Colour, x_at, y_at}
use Rattle.tile_raster.specs.Painting.{pixel, IsPainted}
use Rattle.tile_raster.specs.Bytes.{painting_on, IsSet, AreSet}
use Rattle.tile_raster.specs.Spans.{in_span}

-- two places of rows of w pixels are one exactly where their rows and columns are
same_place : (w i k j row : ℕ) → i < w → k < w → nat_eq (j * w + k) (row * w + i) ≡ (nat_eq j row && nat_eq k i)
same_place w i k j row inside within =
    ⊎_elim (λ (above : j < row). let far : (j + 1) * w ≤ row * w = mul-le-mul_right {m = j + 1} {n = row} w (omega arith) in grind (arith, nat_tests))
    (λ (level : row ≤ j). ⊎_elim (λ (below : row < j). let far : (row + 1) * w ≤ j * w = mul-le-mul_right {m = row + 1} {n = j} w (omega arith) in grind (arith, nat_tests))
    (λ (flat : j ≤ row). let same : j ≡ row = omega arith in rw same (grind (arith, nat_tests))) (cases_lt row j)) (cases_lt j row)

one_more : {A : Type 0} (is ink : Bool) (first i k row j : ℕ) (c old : A) → first ≤ i → (k ≡ i → is ≡ ink) → cond (is && (nat_eq j row && nat_eq k i)) c (cond (nat_eq j row && (in_span first i k && ink)) c old) ≡ cond (nat_eq j row && (in_span first (i + 1) k && ink)) c old
one_more is ink first i k row j c old order at = grind (arith, nat_tests)

pub same_cells : (p : Place) (these those : ℕ → ℕ → Bool) (colour : Colour) (old new : List ℕ) → ((i j : ℕ) → i < p.width → these i j ≡ those i j) → AreSet p these colour old new → AreSet p those colour old new
same_cells p these those colour old new same set i j inside = rw (← same i j inside) (set i j inside)

pub row_more : (p : Place) (row first i : ℕ) (is : Bool) (ink : ℕ → Bool) (colour : Colour) (old loop new : List ℕ) → first ≤ i → i < p.width → is ≡ ink i → AreSet p (λ k j. nat_eq j row && (in_span first i k && ink k)) colour old loop → IsSet (row * p.width + i) is colour loop new → AreSet p (λ k j. nat_eq j row && (in_span first (i + 1) k && ink k)) colour old new
unfolding pixel
row_more p row first i is ink colour old loop new order within dotted before set k j inside =
    rw (set (j * p.width + k), same_place p.width i k j row within inside, before k j inside)
    (one_more is (ink k) first i k row j colour _ order (λ same. dotted ∙ ap ink (sym same)))

and_true : (b : Bool) → (b && true) ≡ b
and_true true = refl
and_true false = refl

pub fill_more : (p : Place) (row first i : ℕ) (colour : Colour) (old loop new : List ℕ) → first ≤ i → i < p.width → AreSet p (λ k j. nat_eq j row && in_span first i k) colour old loop → IsSet (row * p.width + i) true colour loop new → AreSet p (λ k j. nat_eq j row && in_span first (i + 1) k) colour old new
fill_more p row first i colour old loop new order within before set =
    same_cells p (λ k j. nat_eq j row && (in_span first (i + 1) k && true)) (λ k j. nat_eq j row && in_span first (i + 1) k) colour old new (λ k j inside. ap (λ b. nat_eq j row && b) (and_true (in_span first (i + 1) k)))
    (row_more p row first i true (λ _. true) colour old loop new order within refl
    (same_cells p (λ k j. nat_eq j row && in_span first i k) (λ k j. nat_eq j row && (in_span first i k && true)) colour old loop (λ k j inside. ap (λ b. nat_eq j row && b) (sym (and_true (in_span first i k)))) before) set)

row_over : {A : Type 0} (cell row_cell : Bool) (first r j : ℕ) (c old : A) → first ≤ r → (j ≡ r → cell ≡ row_cell) → cond (nat_eq j r && row_cell) c (cond (in_span first r j && cell) c old) ≡ cond (in_span first (r + 1) j && cell) c old
row_over cell row_cell first r j c old order at = grind (arith, nat_tests)

pub block_more : (p : Place) (first r : ℕ) (cells : ℕ → ℕ → Bool) (row_cells : ℕ → Bool) (colour : Colour) (old loop new : List ℕ) → first ≤ r → ((i : ℕ) → i < p.width → cells i r ≡ row_cells i) → AreSet p (λ i j. in_span first r j && cells i j) colour old loop → AreSet p (λ i j. nat_eq j r && row_cells i) colour loop new → AreSet p (λ i j. in_span first (r + 1) j && cells i j) colour old new
block_more p first r cells row_cells colour old loop new order same before set i j inside =
    rw (set i j inside, before i j inside)
    (row_over (cells i j) (row_cells i) first r j colour _ order (λ at. ap (cells i) at ∙ same i inside))

pub painted : (p : Place) (cells points : ℕ → ℕ → Bool) (colour : Colour) (old new : List ℕ) → ((i j : ℕ) → i < p.width → j < p.height → cells i j ≡ points (x_at p i) (y_at p j)) → AreSet p cells colour old new → IsPainted p points colour (painting_on p old) (painting_on p new)
painted p cells points colour old new same set = record {
  width = refl;
  height = refl;
  pixels = λ i j inside below. rw (← same i j inside below) (set i j inside);
}
