-- What contracts see of a canvas: its pixels, and which of them a call paints.
use Rattle.std.specs.Prelude.{◌≡◌, ℕ, zero, suc, ◌+◌, ◌*◌, ◌<◌, Bool, List, [], ◌++◌, slice_index, if◌then◌else◌}
use Rattle.tile_key.specs.Places.{Place}
use Rattle.kit_trait.specs.declared.values.Pixels.{Pixels}
use Rattle.kit_trait.specs.Pictures.{Colour, white, rgba as bytes_of, x_at, y_at}

-- a width and a height in pixels, and the four bytes of each pixel, row by row
pub record Painting : Type 0 where
  pub width : ℕ
  pub height : ℕ
  pub rgba : List ℕ

-- the colour that four bytes are, from byte n on
abbrev pub colour_at : List ℕ → ℕ → Colour
colour_at bytes n =
    record { red = slice_index bytes n; green = slice_index bytes (n + 1); blue = slice_index bytes (n + 2); alpha = slice_index bytes (n + 3) }

-- the colour that four bytes are
abbrev pub colour_of : List ℕ → Colour
colour_of bytes = colour_at bytes 0

-- the colour of the pixel in column i and row j
unfoldable pub pixel : Painting → ℕ → ℕ → Colour
pixel painting i j = colour_at painting.rgba (4 * (j * painting.width + i))

-- a painting of this size with no stroke on it: every pixel is white
pub record IsBlank (across down : ℕ) (painting : Painting) : Type 0 where
  pub width : painting.width ≡ across
  pub height : painting.height ≡ down
  pub pixels : (i j : ℕ) → i < across → j < down → pixel painting i j ≡ white

-- the new painting is the old one, but that exactly the pixels whose sampled point is one of `points`
-- have the colour
pub record IsPainted (area : Place) (points : ℕ → ℕ → Bool) (colour : Colour) (old new : Painting) : Type 0 where
  pub width : new.width ≡ old.width
  pub height : new.height ≡ old.height
  pub pixels : (i j : ℕ) → i < old.width → j < old.height →
      pixel new i j ≡ (if points (x_at area i) (y_at area j) then colour else pixel old i j)

-- the painting has the size of the place, and each pixel the colour of the point that it samples
pub record Shows (colour : ℕ → ℕ → ℕ → Colour) (p : Place) (painting : Painting) : Type 0 where
  pub width : painting.width ≡ p.width
  pub height : painting.height ≡ p.height
  pub pixels : (i j : ℕ) → i < p.width → j < p.height → pixel painting i j ≡ colour p.part (x_at p i) (y_at p j)

-- the bytes of the first `count` pixels of row j
abbrev pub row_of : Painting → ℕ → ℕ → List ℕ
row_of painting j zero = []
row_of painting j (suc i) = row_of painting j i ++ bytes_of (pixel painting i j)

-- the bytes of the first `count` rows
abbrev pub rows_of : Painting → ℕ → List ℕ
rows_of painting zero = []
rows_of painting (suc j) = rows_of painting j ++ row_of painting j painting.width

-- all pixels: the rows from the top, each from the left
abbrev pub pixels_of : Painting → Pixels
pixels_of painting = record { width = painting.width; height = painting.height; rgba = rows_of painting painting.height }
