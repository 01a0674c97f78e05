-- How many elements pass a test, where one test passes no more than another.
use Rattle.std.proofs.Common.{◌≡◌, ◌⊎◌, ℕ, suc, ◌+◌, ◌<◌, ◌≤◌, Bool, true, false, cond, List, [], ◌∷◌, length, refl, inl, inr, arith}
use Rattle.std.specs.List.{AllByRecursion}
use Rattle.std.proofs.lemmas.Bool.{both_ways}

-- how many elements pass
unfoldable pub count : {K : Type 0} → (K → Bool) → List K → ℕ
count p [] = 0
count p (x ∷ xs) = cond (p x) 1 0 + count p xs

-- each element that passes the first test passes the second
abbrev pub Narrows : {K : Type 0} → (K → Bool) → (K → Bool) → Type 0
Narrows {K} q p = (x : K) → q x ≡ true → p x ≡ true

pub count_le_length : {K : Type 0} (p : K → Bool) → (xs : List K) → count p xs ≤ length xs
unfolding count
count_le_length p [] = omega arith
count_le_length p (x ∷ xs) = first_at_most (p x) (count p xs) (length xs) (count_le_length p xs)
  where
    first_at_most : (a : Bool) (m n : ℕ) → m ≤ n → cond a 1 0 + m ≤ suc n
    first_at_most true m n le = omega arith
    first_at_most false m n le = omega arith

-- what one more element adds
first_le : (b a : Bool) (m n : ℕ) → (b ≡ true → a ≡ true) → m ≤ n → cond b 1 0 + m ≤ cond a 1 0 + n
first_le true true m n h le = omega arith
first_le true false m n h le = absurd (both_ways false refl (h refl))
first_le false true m n h le = omega arith
first_le false false m n h le = omega arith

pub count_le : {K : Type 0} (q p : K → Bool) → Narrows q p → (xs : List K) → count q xs ≤ count p xs
unfolding count
count_le q p narrows [] = omega arith
count_le q p narrows (x ∷ xs) = first_le (q x) (p x) (count q xs) (count p xs) (narrows x) (count_le q p narrows xs)

first_same : (b a : Bool) (m n : ℕ) (P : Type 0) → (b ≡ true → a ≡ true) → m ≤ n → P ⊎ (m < n) → ((b ≡ a) × P) ⊎ (cond b 1 0 + m < cond a 1 0 + n)
first_same true true m n P h le (inl p) = inl (refl, p)
first_same true true m n P h le (inr fewer) = inr (omega arith)
first_same true false m n P h le rest = absurd (both_ways false refl (h refl))
first_same false true m n P h le rest = inr (omega arith)
first_same false false m n P h le (inl p) = inl (refl, p)
first_same false false m n P h le (inr fewer) = inr (omega arith)

-- the narrower test agrees with the other at each element, or passes fewer
pub same_or_fewer : {K : Type 0} (q p : K → Bool) → Narrows q p → (xs : List K) → AllByRecursion (λ x. q x ≡ p x) xs ⊎ (count q xs < count p xs)
unfolding count
same_or_fewer q p narrows [] = inl tt
same_or_fewer q p narrows (x ∷ xs) =
    first_same (q x) (p x) (count q xs) (count p xs) (AllByRecursion (λ y. q y ≡ p y) xs) (narrows x) (count_le q p narrows xs) (same_or_fewer q p narrows xs)
