-- The bytes of a canvas while it is painted.
use Rattle.std.specs.Prelude.{◌≡◌, ℕ, ◌+◌, ◌-◌, ◌*◌, ◌/◌, ◌<◌, Bool, ◌&&◌, nat_eq, List, if◌then◌else◌}
use Rattle.tile_key.specs.Places.{Place}
use Rattle.kit_trait.specs.Pictures.{Colour}
use Rattle.bitmap_font.specs.Glyphs.{dot_of}
use Rattle.tile_raster.specs.Painting.{Painting, pixel, colour_at}
use Rattle.tile_raster.specs.Spans.{in_span}

-- the bytes as a painting of the place's size
abbrev pub painting_on : Place → List ℕ → Painting
painting_on p bytes = record { width = p.width; height = p.height; rgba = bytes }

-- the new bytes are the old ones, but that pixel n, where there is one, has the colour
abbrev pub IsSet : ℕ → Bool → Colour → List ℕ → List ℕ → Type 0
IsSet n is colour old new = (m : ℕ) → colour_at new (4 * m) ≡ (if is && nat_eq m n then colour else colour_at old (4 * m))

-- the new bytes are the old ones, but that the pixels of these rows and columns have the colour
abbrev pub AreSet : Place → (ℕ → ℕ → Bool) → Colour → List ℕ → List ℕ → Type 0
AreSet p these colour old new =
    (i j : ℕ) → i < p.width → pixel (painting_on p new) i j ≡ (if these i j then colour else pixel (painting_on p old) i j)

-- whether the point (px, py) lies on a dot of a letter whose box begins at x, y
abbrev pub letter_dot : ℕ → ℕ → ℕ → ℕ → ℕ → Bool
letter_dot c x y px py = (in_span x (x + 90) px && in_span y (y + 120) py) && dot_of c ((px - x) / 15) ((py - y) / 15)
