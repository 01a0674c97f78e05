-- Lists of keys, in key order and in the order asked.
use Rattle.std.specs.Prelude.{⊤, Bool, List, [], ◌∷◌, if◌then◌else◌}
use Rattle.std.specs.List.{list_any, AllByRecursion}
use Rattle.std.specs.Ordering.{is_lt}
use Rattle.tile_key.specs.Places.{Place, key_order, same_place}

-- R holds of each element and each later one
abbrev pub Pairwise : {X : Type 0} → (X → X → Type 0) → List X → Type 0
Pairwise R [] = ⊤
Pairwise R (x ∷ xs) = AllByRecursion (R x) xs × Pairwise R xs

-- whether the list has the key
abbrev pub is_among : List Place → Place → Bool
is_among keys key = list_any (λ other. same_place other key) keys

-- the key put into a list in key order, where it isn't there yet
abbrev pub inserted : List Place → Place → List Place
inserted [] key = key ∷ []
inserted (other ∷ others) key =
    if is_lt (key_order key other) then key ∷ (other ∷ others)
    else (if same_place key other then other ∷ others else other ∷ inserted others key)

-- these keys put one after the other into a list in key order
abbrev pub ordered : List Place → List Place → List Place
ordered [] list = list
ordered (key ∷ keys) list = ordered keys (inserted list key)
