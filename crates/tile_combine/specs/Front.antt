-- How far the first group of some keys goes.
use Rattle.std.specs.Prelude.{ℕ, zero, suc, List, [], ◌∷◌, if◌then◌else◌}
use Rattle.tile_key.specs.Places.{Place}
use Rattle.tile_combine.specs.Runs.{follows}

-- how many keys, at most `most`, follow one another behind a key
abbrev pub following : (most : ℕ) → Place → List Place → ℕ
following zero key keys = 0
following (suc most) key [] = 0
following (suc most) key (other ∷ others) = if follows key other then suc (following most other others) else 0

-- how many keys the first group has
abbrev pub front_of : List Place → ℕ
front_of [] = 0
front_of (key ∷ keys) = suc (following 7 key keys)
