-- The works that a yard in memory holds.
use Rattle.std.specs.Prelude.{ℕ, ◌≡◌, Bool, ◌&&◌, nat_lt, List, Option, Some, None, slice_index_or}
use Rattle.std.specs.List.{remove}

-- Whether a yard that holds so many works has room for one more. No number lies beyond 2^64 - 1.
abbrev pub has_room : ℕ → ℕ → ℕ → Bool
has_room held room count = nat_lt held room && nat_lt count 18446744073709551615

-- The item at this index was taken out of the list.
abbrev pub OutAt : {A : Type 0} → ℕ → List A → Option A → List A → Type 0
OutAt i old None new = ⊥
OutAt i old (Some a) new = (a ≡ slice_index_or old i a) × (new ≡ remove old i)
