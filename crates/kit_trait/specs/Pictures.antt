-- Pictures, point by point.
use Rattle.std.specs.Prelude.{ℕ, zero, suc, ◌+◌, ◌*◌, ◌/◌, List, [], ◌∷◌, ◌++◌}
use Rattle.tile_key.specs.Places.{Place}
use Rattle.kit_trait.specs.declared.values.Pixels.{Pixels}

-- the colour of a point
pub record Colour : Type 0 where
  pub red : ℕ
  pub green : ℕ
  pub blue : ℕ
  pub alpha : ℕ

abbrev pub white : Colour
white = record { red = 255; green = 255; blue = 255; alpha = 255 }

-- a pixel's four bytes
abbrev pub rgba : Colour → List ℕ
rgba c = c.red ∷ c.green ∷ c.blue ∷ c.alpha ∷ []

-- the point that pixel (i, j) of a place samples
abbrev pub x_at : Place → ℕ → ℕ
x_at p i = p.posx + i * p.tilewidth / p.width

abbrev pub y_at : Place → ℕ → ℕ
y_at p j = p.posy + j * p.tileheight / p.height

-- the first `count` pixels of row j, each in the colour of the point that it samples
abbrev pub row : (ℕ → ℕ → ℕ → Colour) → Place → ℕ → ℕ → List ℕ
row colour p j zero = []
row colour p j (suc i) = row colour p j i ++ rgba (colour p.part (x_at p i) (y_at p j))

-- the first `count` rows
abbrev pub rows : (ℕ → ℕ → ℕ → Colour) → Place → ℕ → List ℕ
rows colour p zero = []
rows colour p (suc j) = rows colour p j ++ row colour p j p.width

-- the picture of a place: its rows from the top, each from the left
abbrev pub picture : (ℕ → ℕ → ℕ → Colour) → Place → Pixels
picture colour p = record { width = p.width; height = p.height; rgba = rows colour p p.height }
