-- The tiles of rows and columns: which they are, how many, and in which order.
use Rattle.std.proofs.Common.{◌≡◌, ℕ, zero, suc, ◌+◌, ◌*◌, ◌<◌, ◌≤◌, List, [], ◌∷◌, ◌++◌, length, All, AllPairs, Contains, refl, sym, inl, inr, arith, length-append}
use Rattle.std.specs.declared.cmp.Ordering.TheVariants.{Less, Equal}
use Rattle.std.specs.Ordering.{nat_cmp}
use Rattle.std.specs.Cmp.{nat_cmp_is}
use Rattle.std.proofs.lemmas.Bool.{cases_lt}
use Rattle.std.proofs.lemmas.List.Elements.{All-append, Contains-append_left, Contains-append_right}
use Rattle.std.proofs.lemmas.List.Kept.{AllPairs-cons}
use Rattle.std.proofs.Math.Nat.{mul-le-mul_right}
use Rattle.tile_key.specs.Places.{Place, Scale}
use Rattle.tile_key.specs.Visible.{IsBefore, tile_in, row_of, rows_of}

all_none : {X : Type 0} (P : X → Type 0) → All P []
all_none P k d h = absurd (omega arith)

all_one : {X : Type 0} (P : X → Type 0) (x : X) → P x → All P (x ∷ [])
all_one P x p zero d h = p
all_one P x p (suc k) d h = absurd (omega arith)

all_tail : {X : Type 0} (P : X → Type 0) (x : X) (xs : List X) → All P (x ∷ xs) → All P xs
all_tail P x xs h k d below = let b : suc k < length (x ∷ xs) = omega arith in h (suc k) d b

all_head : {X : Type 0} (P : X → Type 0) (x : X) (xs : List X) → All P (x ∷ xs) → P x
all_head P x xs h = let b : 0 < length (x ∷ xs) = omega arith in h 0 x b

pairs_tail : {X : Type 0} (R : X → X → Type 0) (x : X) (xs : List X) → AllPairs R (x ∷ xs) → AllPairs R xs
pairs_tail R x xs h i j d before below = let b : suc j < length (x ∷ xs) = omega arith in let a : suc i < suc j = omega arith in h (suc i) (suc j) d a b

pairs_head : {X : Type 0} (R : X → X → Type 0) (x : X) (xs : List X) → AllPairs R (x ∷ xs) → All (R x) xs
pairs_head R x xs h k d below = let b : suc k < length (x ∷ xs) = omega arith in let a : 0 < suc k = omega arith in h 0 (suc k) d a b

-- two lists in order, each of the first being before each of the second
pairs_append : {X : Type 0} (R : X → X → Type 0) (xs ys : List X) → AllPairs R xs → AllPairs R ys → All (λ x. All (R x) ys) xs → AllPairs R (xs ++ ys)
pairs_append R [] ys a b across = b
pairs_append R (x ∷ xs) ys a b across =
    AllPairs-cons R x (xs ++ ys) (All-append (R x) xs ys (pairs_head R x xs a) (all_head (λ z. All (R z) ys) x xs across))
    (pairs_append R xs ys (pairs_tail R x xs a) b (all_tail (λ z. All (R z) ys) x xs across))

-- what holds of the tiles in the columns holds of the row
row_all : (P : Place → Type 0) (part : ℕ) (zoom : Scale) (first row n : ℕ) → ((i : ℕ) → i < n → P (tile_in part zoom (first + i) row)) → All P (row_of part zoom first row n)
unfolding row_of
row_all P part zoom first row zero h = all_none P
row_all P part zoom first row (suc n) h =
    All-append P (row_of part zoom first row n) (tile_in part zoom (first + n) row ∷ [])
    (row_all P part zoom first row n (λ i below. h i (omega arith)))
    (all_one P (tile_in part zoom (first + n) row) (h n (omega arith)))

-- what holds of the tiles in the rows and columns holds of them all
pub rows_all : (P : Place → Type 0) (part : ℕ) (zoom : Scale) (first columns top n : ℕ) → ((i j : ℕ) → i < columns → j < n → P (tile_in part zoom (first + i) (top + j))) → All P (rows_of part zoom first columns top n)
unfolding rows_of
rows_all P part zoom first columns top zero h = all_none P
rows_all P part zoom first columns top (suc n) h =
    All-append P (rows_of part zoom first columns top n) (row_of part zoom first (top + n) columns)
    (rows_all P part zoom first columns top n (λ i j a b. h i j a (omega arith)))
    (row_all P part zoom first (top + n) columns (λ i a. h i n a (omega arith)))

contains_one : (p : Place) → Contains (p ∷ []) p
contains_one p = (0, omega arith, refl)

-- a row has the tile of each of its columns
row_has : (part : ℕ) (zoom : Scale) (first row n i : ℕ) → i < n → Contains (row_of part zoom first row n) (tile_in part zoom (first + i) row)
unfolding row_of
row_has part zoom first row zero i below = absurd (omega arith)
row_has part zoom first row (suc n) i below =
    elim (cases_lt i n) [
      | inl less ↦ Contains-append_left (row_of part zoom first row n) (tile_in part zoom (first + n) row ∷ []) (tile_in part zoom (first + i) row) (row_has part zoom first row n i less)
      | inr most ↦ let same : i ≡ n = omega arith in
          rw same (Contains-append_right (row_of part zoom first row n) (tile_in part zoom (first + n) row ∷ []) (tile_in part zoom (first + n) row) (contains_one (tile_in part zoom (first + n) row)))
    ]

-- rows have the tile of each of their columns and rows
pub rows_has : (part : ℕ) (zoom : Scale) (first columns top n i j : ℕ) → i < columns → j < n → Contains (rows_of part zoom first columns top n) (tile_in part zoom (first + i) (top + j))
unfolding rows_of
rows_has part zoom first columns top zero i j across below = absurd (omega arith)
rows_has part zoom first columns top (suc n) i j across below =
    elim (cases_lt j n) [
      | inl less ↦ Contains-append_left (rows_of part zoom first columns top n) (row_of part zoom first (top + n) columns) (tile_in part zoom (first + i) (top + j)) (rows_has part zoom first columns top n i j across less)
      | inr most ↦ let same : j ≡ n = omega arith in
          rw same (Contains-append_right (rows_of part zoom first columns top n) (row_of part zoom first (top + n) columns) (tile_in part zoom (first + i) (top + n)) (row_has part zoom first (top + n) columns i across))
    ]

row_length : (part : ℕ) (zoom : Scale) (first row n : ℕ) → length (row_of part zoom first row n) ≡ n
unfolding row_of
row_length part zoom first row zero = refl
row_length part zoom first row (suc n) =
    let rest : length (row_of part zoom first row n) ≡ n = row_length part zoom first row n in
    rw (length-append (row_of part zoom first row n) (tile_in part zoom (first + n) row ∷ []), rest) (omega arith)

-- the number of tiles in rows and columns
pub rows_length : (part : ℕ) (zoom : Scale) (first columns top n : ℕ) → length (rows_of part zoom first columns top n) ≡ n * columns
unfolding rows_of
rows_length part zoom first columns top zero = omega arith
rows_length part zoom first columns top (suc n) =
    let rest : length (rows_of part zoom first columns top n) ≡ n * columns = rows_length part zoom first columns top n in
    rw (length-append (rows_of part zoom first columns top n) (row_of part zoom first (top + n) columns), rest, row_length part zoom first (top + n) columns) (omega arith)

less_is : (m n : ℕ) → m < n → nat_cmp m n ≡ Less
less_is m n h = sym (nat_cmp_is m n Less h)

same_is : (n : ℕ) → nat_cmp n n ≡ Equal
same_is n = sym (nat_cmp_is n n Equal refl)

before_right : (part : ℕ) (zoom : Scale) (c d row : ℕ) → c * zoom.twip_w < d * zoom.twip_w → IsBefore (tile_in part zoom c row) (tile_in part zoom d row)
before_right part zoom c d row h = rw (same_is part, same_is (row * zoom.twip_h), less_is (c * zoom.twip_w) (d * zoom.twip_w) h) refl

before_down : (part : ℕ) (zoom : Scale) (c d r s : ℕ) → r * zoom.twip_h < s * zoom.twip_h → IsBefore (tile_in part zoom c r) (tile_in part zoom d s)
before_down part zoom c d r s h = rw (same_is part, less_is (r * zoom.twip_h) (s * zoom.twip_h) h) refl

times_less : (a b n : ℕ) → 0 < n → a < b → a * n < b * n
times_less a b n some h =
    let le : (a + 1) * n ≤ b * n = mul-le-mul_right n (omega arith) in
    omega (arith, le)

-- a row is in key order
row_order : (part : ℕ) (zoom : Scale) (first row n : ℕ) → 0 < zoom.twip_w → AllPairs IsBefore (row_of part zoom first row n)
unfolding row_of
row_order part zoom first row zero wide = λ i j d before below. absurd (omega arith)
row_order part zoom first row (suc n) wide =
    pairs_append IsBefore (row_of part zoom first row n) (tile_in part zoom (first + n) row ∷ []) (row_order part zoom first row n wide)
    (λ i j d before below. absurd (omega arith))
    (row_all (λ p. All (IsBefore p) (tile_in part zoom (first + n) row ∷ [])) part zoom first row n
    (λ i less. all_one (IsBefore (tile_in part zoom (first + i) row)) (tile_in part zoom (first + n) row)
    (before_right part zoom (first + i) (first + n) row (times_less (first + i) (first + n) zoom.twip_w wide (omega arith)))))

-- rows are in key order
pub rows_order : (part : ℕ) (zoom : Scale) (first columns top n : ℕ) → 0 < zoom.twip_w → 0 < zoom.twip_h → AllPairs IsBefore (rows_of part zoom first columns top n)
unfolding rows_of
rows_order part zoom first columns top zero wide high = λ i j d before below. absurd (omega arith)
rows_order part zoom first columns top (suc n) wide high =
    pairs_append IsBefore (rows_of part zoom first columns top n) (row_of part zoom first (top + n) columns) (rows_order part zoom first columns top n wide high)
    (row_order part zoom first (top + n) columns wide)
    (rows_all (λ p. All (IsBefore p) (row_of part zoom first (top + n) columns)) part zoom first columns top n
    (λ i j across less. row_all (IsBefore (tile_in part zoom (first + i) (top + j))) part zoom first (top + n) columns
    (λ k a. before_down part zoom (first + i) (first + k) (top + j) (top + n) (times_less (top + j) (top + n) zoom.twip_h high (omega arith)))))
