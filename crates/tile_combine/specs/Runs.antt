-- Keys in key order, their runs, and the groups of these.
use Rattle.std.specs.Prelude.{Bool, nat_lt, List, [], ◌∷◌, ◌++◌, length, if◌then◌else◌}
use Rattle.std.specs.List.{fold, flat_map}
use Rattle.std.specs.BTreeSet.{insert_key}
use Rattle.tile_key.specs.Places.{Place, key_order, same_place, next_place}

-- the distinct keys of a list, in key order
abbrev pub in_key_order : List Place → List Place
in_key_order keys = fold (insert_key key_order) [] keys

-- whether the second key begins where the first one ends and differs from it in its position alone
abbrev pub follows : Place → Place → Bool
follows key other = same_place other (next_place key)

-- a key put in front of the first of some runs where that follows it, else in front of all as a run
-- of its own
abbrev pub joined : Place → List (List Place) → List (List Place)
joined key [] = (key ∷ []) ∷ []
joined key ([] ∷ others) = (key ∷ []) ∷ [] ∷ others
joined key ((other ∷ run) ∷ others) =
    if follows key other then (key ∷ other ∷ run) ∷ others else (key ∷ []) ∷ (other ∷ run) ∷ others

-- the longest runs of keys that a list of keys is cut into, each key following the one before it
abbrev pub runs : List Place → List (List Place)
runs [] = []
runs (key ∷ keys) = joined key (runs keys)

-- keys added to a piece until it has eight of them, and then to the next one
abbrev pub pieces : List Place → List Place → List (List Place)
pieces piece [] = piece ∷ []
pieces piece (key ∷ keys) =
    if nat_lt (length piece) 8 then pieces (piece ++ key ∷ []) keys else piece ∷ pieces (key ∷ []) keys

-- a run cut from its left into pieces of eight keys, the last of which may be shorter
abbrev pub eights : List Place → List (List Place)
eights [] = []
eights (key ∷ keys) = pieces (key ∷ []) keys

-- the groups of keys that are in key order: the pieces of their runs
abbrev pub groups_of : List Place → List (List Place)
groups_of keys = flat_map eights (runs keys)
