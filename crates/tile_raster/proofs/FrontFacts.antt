-- The bytes of a painting, pixel by pixel.
use Rattle.std.proofs.Common.{◌≡◌, ℕ, zero, suc, ◌+◌, ◌*◌, ◌<◌, ◌≤◌, List, [], ◌∷◌, ◌++◌, length, take, get_or, replicate, refl, sym, ap, ◌∙◌, arith, append_assoc, append-nil}
use Rattle.std.proofs.lemmas.Nat.{mul-add-lt}
use Rattle.std.proofs.lemmas.List.{take_more, take_all, get_or-replicate}
use Rattle.tile_key.specs.Places.{Place}
use Rattle.kit_trait.specs.declared.values.Pixels.{Pixels}
use Rattle.kit_trait.specs.Pictures.{Colour, rgba as bytes_of, row, rows, picture}
use Rattle.tile_raster.specs.Painting.{Painting, pixel, colour_at, IsBlank, Shows, row_of, rows_of, pixels_of}

four_more : (xs : List ℕ) (n : ℕ) → n + 4 ≤ length xs → take (n + 4) xs ≡ take n xs ++ bytes_of (colour_at xs n)
four_more xs n within =
    let one : take (n + 1) xs ≡ take n xs ++ get_or xs n 0 ∷ [] = take_more xs n 0 (omega arith) in
    let two : take (n + 1 + 1) xs ≡ take (n + 1) xs ++ get_or xs (n + 1) 0 ∷ [] = take_more xs (n + 1) 0 (omega arith) in
    let three : take (n + 2 + 1) xs ≡ take (n + 2) xs ++ get_or xs (n + 2) 0 ∷ [] = take_more xs (n + 2) 0 (omega arith) in
    let four : take (n + 3 + 1) xs ≡ take (n + 3) xs ++ get_or xs (n + 3) 0 ∷ [] = take_more xs (n + 3) 0 (omega arith) in
    let to_two : n + 1 + 1 ≡ n + 2 = omega arith in
    let to_three : n + 2 + 1 ≡ n + 3 = omega arith in
    let to_four : n + 3 + 1 ≡ n + 4 = omega arith in
    rw (← to_four, four, ← to_three, three, ← to_two, two, one, append_assoc, append_assoc, append_assoc) refl

row_front : (p : Painting) (j i : ℕ) → length p.rgba ≡ 4 * (p.height * p.width) → j < p.height → i ≤ p.width → rows_of p j ≡ take (4 * (j * p.width)) p.rgba → rows_of p j ++ row_of p j i ≡ take (4 * (j * p.width + i)) p.rgba
unfolding pixel
row_front p j zero size below within front =
    let same : j * p.width + 0 ≡ j * p.width = omega arith in
    rw (same, append-nil) front
row_front p j (suc i) size below within front =
    let place = mul-add-lt j p.width i p.height below (omega arith) in
    let next : 4 * (j * p.width + suc i) ≡ 4 * (j * p.width + i) + 4 = omega arith in
    rw (next, four_more p.rgba (4 * (j * p.width + i)) (omega (arith, place)), ← row_front p j i size below (omega arith) front) (sym (append_assoc (rows_of p j) (row_of p j i) (bytes_of (pixel p i j))))

rows_front : (p : Painting) (j : ℕ) → length p.rgba ≡ 4 * (p.height * p.width) → j ≤ p.height → rows_of p j ≡ take (4 * (j * p.width)) p.rgba
rows_front p zero size within =
    let none : 4 * (0 * p.width) ≡ 0 = omega arith in
    rw none refl
rows_front p (suc j) size within =
    let next : suc j * p.width ≡ j * p.width + p.width = omega arith in
    rw next (row_front p j p.width size (omega arith) (omega arith) (rows_front p j size (omega arith)))

pub all_rows : (p : Painting) → length p.rgba ≡ 4 * (p.height * p.width) → rows_of p p.height ≡ p.rgba
all_rows p size = rows_front p p.height size (omega arith) ∙ take_all (4 * (p.height * p.width)) p.rgba (omega arith)

same_row : (colour : ℕ → ℕ → ℕ → Colour) (p : Place) (painting : Painting) (j i : ℕ) → Shows colour p painting → j < p.height → i ≤ p.width → row_of painting j i ≡ row colour p j i
same_row colour p painting j zero shows below within = refl
same_row colour p painting j (suc i) shows below within =
    rw (same_row colour p painting j i shows below (omega arith), shows.pixels i j (omega arith) below) refl

same_rows : (colour : ℕ → ℕ → ℕ → Colour) (p : Place) (painting : Painting) (j : ℕ) → Shows colour p painting → j ≤ p.height → rows_of painting j ≡ rows colour p j
same_rows colour p painting zero shows within = refl
same_rows colour p painting (suc j) shows within =
    ap (λ w. rows_of painting j ++ row_of painting j w) shows.width
    ∙ (ap (λ front. front ++ row_of painting j p.width) (same_rows colour p painting j shows (omega arith))
    ∙ ap (λ last. rows colour p j ++ last) (same_row colour p painting j p.width shows (omega arith) (omega arith)))

pixels_with : ℕ → ℕ → List ℕ → Pixels
pixels_with width height bytes = record { width = width; height = height; rgba = bytes }

pub same_pixels : (p : Painting) (all : List ℕ) → length p.rgba ≡ 4 * (p.height * p.width) → all ≡ p.rgba → ◌≡◌ {A = Pixels} (record { width = p.width; height = p.height; rgba = all }) (pixels_of p)
unfolding pixels_with
same_pixels p all size same = ap (pixels_with p.width p.height) (same ∙ sym (all_rows p size))

pub same_picture : (colour : ℕ → ℕ → ℕ → Colour) (p : Place) (painting : Painting) → Shows colour p painting → pixels_of painting ≡ picture colour p
unfolding pixels_with
same_picture colour p painting shows =
    ap (λ w. pixels_with w painting.height (rows_of painting painting.height)) shows.width
    ∙ (ap (λ h. pixels_with p.width h (rows_of painting h)) shows.height ∙ ap (pixels_with p.width p.height) (same_rows colour p painting p.height shows (omega arith)))

pub blank : (w h : ℕ) (bytes : List ℕ) → bytes ≡ replicate (4 * (h * w)) 255 → IsBlank w h (record { width = w; height = h; rgba = bytes })
unfolding pixel
blank w h bytes all = record {
  width = refl;
  height = refl;
  pixels = λ i j inside below.
      let place = mul-add-lt j w i h below inside in
      let n = 4 * (j * w + i) in
      let one : get_or bytes n 0 ≡ 255 = rw all (get_or-replicate (4 * (h * w)) n 255 0 (omega (arith, place))) in
      let two : get_or bytes (n + 1) 0 ≡ 255 = rw all (get_or-replicate (4 * (h * w)) (n + 1) 255 0 (omega (arith, place))) in
      let three : get_or bytes (n + 2) 0 ≡ 255 = rw all (get_or-replicate (4 * (h * w)) (n + 2) 255 0 (omega (arith, place))) in
      let four : get_or bytes (n + 3) 0 ≡ 255 = rw all (get_or-replicate (4 * (h * w)) (n + 3) 255 0 (omega (arith, place))) in
      rw (one, two, three, four) refl;
}
