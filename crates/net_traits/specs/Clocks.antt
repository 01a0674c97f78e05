-- What a clock tells: the moments to come.
use Rattle.std.specs.Prelude.{ℕ, ◌≡◌, List, [], ◌∷◌, Option, Some, None, ⊤}

-- The clock gives the first of the moments to come and takes it off, but the last one stays.
abbrev pub Gives : List ℕ → ℕ → List ℕ → Type 0
Gives [] moment new = ⊥
Gives (m ∷ []) moment new = (moment ≡ m) × (new ≡ m ∷ [])
Gives (m ∷ n ∷ rest) moment new = (moment ≡ m) × (new ≡ n ∷ rest)

-- The same where the clock tells them. They are told before and after, or neither time.
unfoldable pub Ticks : Option (List ℕ) → ℕ → Option (List ℕ) → Type 0
Ticks None moment None = ⊤
Ticks None moment (Some new) = ⊥
Ticks (Some old) moment None = ⊥
Ticks (Some old) moment (Some new) = Gives old moment new
