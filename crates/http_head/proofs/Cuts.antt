-- Lists that two cuts make the same.
use Rattle.std.proofs.Common.{◌≡◌, ℕ, List, [], ◌∷◌, ◌++◌, ◌⊎◌, inl, inr, refl, sym, ap}

-- two cuts of one list: the first part of one begins the first part of the other
pub two_cuts : (a b c d : List ℕ) → a ++ b ≡ c ++ d → ((m : List ℕ) × (a ≡ c ++ m) × (d ≡ m ++ b)) ⊎ ((m : List ℕ) × (c ≡ a ++ m) × (b ≡ m ++ d))
two_cuts [] b c d e = inr (c, refl, e)
two_cuts (x ∷ a) b [] d e = inl (x ∷ a, refl, sym e)
two_cuts (x ∷ a) b (y ∷ c) d e =
    let head : x ≡ y = cc in
    let tail : a ++ b ≡ c ++ d = cc in
    elim (two_cuts a b c d tail) [
      | inl w ↦ inl (w.0, (λ i. head i ∷ w.1 i), w.2)
      | inr w ↦ inr (w.0, (λ i. sym head i ∷ w.1 i), w.2)
    ]

-- a list is empty or has a last item
pub last_of : (a : List ℕ) → (a ≡ []) ⊎ ((b : List ℕ) × (x : ℕ) × (a ≡ b ++ x ∷ []))
last_of [] = inl refl
last_of (y ∷ a) = elim (last_of a) [
  | inl none ↦ inr ([], y, ap (λ l. y ∷ l) none)
  | inr w ↦ inr (y ∷ w.0, w.1, ap (λ l. y ∷ l) w.2)
]
