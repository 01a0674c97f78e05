-- Strokes one after another.
use Rattle.std.specs.Prelude.{◌≡◌, ℕ, Bool, ◌&&◌, List, [], ◌∷◌, if◌then◌else◌}
use Rattle.cool_base.specs.Points.{Rectangle, has_point}
use Rattle.tile_key.specs.Places.{Place}
use Rattle.kit_trait.specs.Pictures.{Colour, white}
use Rattle.tile_raster.specs.Painting.{Painting, IsPainted}
use Rattle.tile_raster.specs.Lettering.{text_dot, black}

-- a rectangle filled with a colour; or a text of characters that begins at x, y, cut by a rectangle
pub data Stroke : Type 0 where
  Fill : Rectangle → Colour → Stroke
  Letters : ℕ → ℕ → Rectangle → List ℕ → Stroke

-- whether the stroke has the point
abbrev pub has : Stroke → ℕ → ℕ → Bool
has (Fill rect colour) px py = has_point rect px py
has (Letters x y clip text) px py = has_point clip px py && text_dot x y text px py

-- the colour that the stroke gives its points
abbrev pub ink : Stroke → Colour
ink (Fill rect colour) = colour
ink (Letters x y clip text) = black

-- the colour of a point after these strokes in order, where it had this colour before
abbrev pub stroked_over : Colour → List Stroke → ℕ → ℕ → Colour
stroked_over before [] px py = before
stroked_over before (stroke ∷ strokes) px py = stroked_over (if has stroke px py then ink stroke else before) strokes px py

-- the colour of a point after these strokes in order, on white
abbrev pub stroked : List Stroke → ℕ → ℕ → Colour
stroked strokes px py = stroked_over white strokes px py

-- the new painting comes from the old one by a call for each of these strokes in order
abbrev pub Follows : Place → Painting → List Stroke → Painting → Type 0
Follows area old [] new = new ≡ old
Follows area old (stroke ∷ strokes) new =
    (next : Painting) × IsPainted area (has stroke) (ink stroke) old next × Follows area next strokes new
