-- Which words are those of the host of files.
use Rattle.std.specs.Prelude.{ℕ, ◌≡◌, List, [], ◌∷◌, codes}

-- the first word is `host`
abbrev pub IsHost : List (List ℕ) → Type 0
IsHost [] = ⊥
IsHost (first ∷ rest) = first ≡ codes "host"
