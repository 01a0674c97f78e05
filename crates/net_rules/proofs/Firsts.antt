-- The first of those that wait.
use Rattle.std.proofs.Common.{◌≡◌, ap, sym, ℕ, ◌<◌, List, [], ◌∷◌, length, slice_index_or, arith}

-- What stands at the front stands before the rest.
pub before_the_rest : {A : Type 0} (xs : List A) (x : A) → 0 < length xs
    → x ≡ slice_index_or xs 0 x → (rest : List A) × (xs ≡ x ∷ rest)
before_the_rest [] x some is = absurd (omega arith)
before_the_rest (y ∷ ys) x some is = (ys, ap (λ z. z ∷ ys) (sym is))
