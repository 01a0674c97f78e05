-- Plays in which nothing is left to a choice.
use Rattle.std.specs.Prelude.{ℕ, ◌≡◌, List}

-- from a good state a line that acts writes one thing and leads to one state
abbrev pub StepsOnce : {X : Type 0} → (X → List ℕ → List ℕ → X → Type 0) → (X → Type 0) → Type 0
StepsOnce {X} step Good = (s t u : X) (line a b : List ℕ) → Good s → step s line a t → step s line b u → (a ≡ b) × (t ≡ u)

-- and that one is good too
abbrev pub StaysGood : {X : Type 0} → (X → List ℕ → List ℕ → X → Type 0) → (X → Type 0) → Type 0
StaysGood {X} step Good = (s t : X) (line a : List ℕ) → Good s → step s line a t → Good t
