-- How the calls go about it.
use Rattle.std.specs.Prelude.{ℕ, Bool, true, not, ◌&&◌, nat_lt, List, [], ◌∷◌, Option, Some, None, is_some, if◌then◌else◌}
use Rattle.std.specs.Map.{lookup, set_value}
use Rattle.cool_base.specs.Points.{Rectangle}
use Rattle.tile_key.specs.Places.{Place, same_place}
use Rattle.tile_cache.specs.declared.tiles.Tile.{Tile}
use Rattle.tile_cache.specs.Calls.{meets_key, keep}

-- whether a damage meets a tile that none met before
abbrev pub is_newly_met : (part : ℕ) → Rectangle → (n : ℕ) → Place × Tile → Bool
is_newly_met part rect n entry = not entry.1.is_met && (nat_lt entry.1.number n && meets_key part rect entry.0)

-- the tiles, with a mark on the one of the key
abbrev pub marked : Place → List (Place × Tile) → Option Tile → List (Place × Tile)
marked key tiles None = tiles
marked key tiles (Some tile) = set_value (same_place key) tiles (record tile { is_met = true })

-- the tiles with places for the keys of new ones, a place being a tile without pixels
abbrev pub blank : Tile
blank = record { number = 0; rgba = []; is_met = true }

abbrev pub reserved : List (Place × Tile) → List (Place × Tile) → List (Place × Tile)
reserved [] tiles = tiles
reserved (entry ∷ entries) tiles =
    reserved entries (if is_some (lookup (same_place entry.0) tiles) then tiles else (entry.0, blank) ∷ tiles)

-- a new tile put into the place of its key, and several
abbrev pub placed : Place × Tile → List (Place × Tile) → List (Place × Tile)
placed entry tiles = if is_some (lookup (same_place entry.0) tiles) then keep entry tiles else tiles

abbrev pub place_all : List (Place × Tile) → List (Place × Tile) → List (Place × Tile)
place_all [] tiles = tiles
place_all (entry ∷ entries) tiles = place_all entries (placed entry tiles)
