-- The tiles that a message asks for.
use Rattle.std.specs.Prelude.{ℕ, Bool, ◌&&◌, nat_lt, List, [], ◌∷◌, map, zip, Option, None, Some, if◌then◌else◌}
use Rattle.std.specs.List.{list_all}
use Rattle.cool_message.specs.declared.message.ClientMessage.{ClientMessage}
use Rattle.cool_message.specs.declared.message.ClientMessage.TheVariants.{Tile, TileCombine}
use Rattle.cool_message.specs.declared.message.CombineWords.{CombineWords}
use Rattle.tile_key.specs.Places.{Place, is_key, look_of}
use Rattle.tile_key.specs.Words.{place_of}

-- the place of a `tilecombine` at one pair of its positions
abbrev pub place_at : CombineWords → ℕ × ℕ → Place
place_at w at =
    record {
      part = w.part;
      width = w.width;
      height = w.height;
      posx = at.0;
      posy = at.1;
      tilewidth = w.tilewidth;
      tileheight = w.tileheight;
      nviewid = look_of w.nviewid;
    }

-- the places of a `tilecombine`, in the order given
abbrev pub pairs_of : CombineWords → List Place
pairs_of w = map (place_at w) (zip w.tileposx w.tileposy)

-- the places that a message names, in the order given: the one of `tile`, the pairs of `tilecombine`, and
-- none of another
abbrev pub places_of : ClientMessage → List Place
places_of (Tile words) = place_of words ∷ []
places_of (TileCombine words) = pairs_of words
places_of _ = []

-- whether the place is a key of one of so many parts
abbrev pub is_key_of : ℕ → Place → Bool
is_key_of parts place = is_key place && nat_lt place.part parts

-- all of the places, where each is a key of one of so many parts
abbrev pub all_keys : ℕ → List Place → Option (List Place)
all_keys parts places = if list_all (is_key_of parts) places then Some places else None

-- the keys that a message asks for in a document of so many parts
abbrev pub keys_of : ℕ → ClientMessage → Option (List Place)
keys_of parts message = all_keys parts (places_of message)
