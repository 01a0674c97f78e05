-- The pictures of a group's keys as parts of the group's picture.
use Rattle.std.specs.Prelude.{◌≡◌, ℕ, zero, suc, ◌+◌, ◌*◌, List, [], ◌∷◌, ◌++◌, length, take, drop}
use Rattle.tile_key.specs.Places.{Place}
use Rattle.kit_trait.specs.declared.values.Pixels.{Pixels}
use Rattle.kit_trait.specs.Pictures.{Colour, picture}

-- the picture has the size of the place, four bytes a pixel
pub record HasSize (place : Place) (pixels : Pixels) : Type 0 where
  pub width : pixels.width ≡ place.width
  pub height : pixels.height ≡ place.height
  pub bytes : length pixels.rgba ≡ 4 * (place.height * place.width)

-- so many rows of the columns from `left` on, `width` of them, of a picture's bytes
unfoldable pub columns : Pixels → (left width rows : ℕ) → List ℕ
columns pixels left width zero = []
columns pixels left width (suc row) =
    columns pixels left width row ++ take (4 * width) (drop (4 * (row * pixels.width + left)) pixels.rgba)

-- the part of a picture that a key has, from its column `left` on
abbrev pub part_at : Pixels → ℕ → Place → Pixels
part_at pixels left key =
    record { width = key.width; height = key.height; rgba = columns pixels left key.width key.height }

-- the parts of a picture that keys side by side have, the first from the column `left` on
abbrev pub parts_from : Pixels → ℕ → List Place → List Pixels
parts_from pixels left [] = []
parts_from pixels left (key ∷ keys) = part_at pixels left key ∷ parts_from pixels (left + key.width) keys

-- the picture of a place in its look, where `colour` has the colour of each point in each look
abbrev pub picture_in : (ℕ → ℕ → ℕ → ℕ → Colour) → Place → Pixels
picture_in colour place = picture (colour place.nviewid) place
