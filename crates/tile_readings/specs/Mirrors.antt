-- What stands beside a cache of tiles of one pixel.
use Rattle.std.specs.Prelude.{◌≡◌, ⊤, ℕ, List, [], ◌∷◌, length}
use Rattle.tile_key.specs.Places.{Place}
use Rattle.kit_trait.specs.declared.values.Pixels.{Pixels}
use Rattle.tile_cache.specs.declared.outs.Out.{Out}

-- a key of one pixel
abbrev pub IsOne : Place → Type 0
IsOne key = (key.width ≡ 1) × (key.height ≡ 1)

-- the tickets of keys out, which have one pixel each
abbrev pub Mirrors : List Out → List ℕ → Type 0
Mirrors [] [] = ⊤
Mirrors [] (ticket ∷ tickets) = ⊥
Mirrors (out ∷ outs) [] = ⊥
Mirrors (out ∷ outs) (ticket ∷ tickets) =
    ((out.ticket ≡ ticket) × IsOne out.key) × Mirrors outs tickets

-- a picture of one pixel
abbrev pub IsDot : Pixels → Type 0
IsDot picture = (picture.width ≡ 1) × (picture.height ≡ 1) × (length picture.rgba ≡ 4)
