-- Strokes one after another.
use Rattle.std.proofs.Common.{◌≡◌, ℕ, ◌<◌, List, [], ◌∷◌, ◌++◌, refl, ◌∙◌, ap, if◌then◌else◌}
use Rattle.tile_key.specs.Places.{Place}
use Rattle.kit_trait.specs.Pictures.{Colour, x_at, y_at}
use Rattle.tile_raster.specs.Painting.{Painting, pixel, IsBlank, Shows}
use Rattle.tile_raster.specs.Strokes.{Stroke, has, ink, stroked, stroked_over, Follows}

pub last_over : (before : Colour) (strokes : List Stroke) (last : Stroke) (px py : ℕ) → stroked_over before (strokes ++ last ∷ []) px py ≡ (if has last px py then ink last else stroked_over before strokes px py)
last_over before [] last px py = refl
last_over before (stroke ∷ strokes) last px py = last_over (if has stroke px py then ink stroke else before) strokes last px py

-- what follows from strokes over an old painting
record IsOver (area : Place) (strokes : List Stroke) (old new : Painting) : Type 0 where
  pub width : new.width ≡ area.width
  pub height : new.height ≡ area.height
  pub pixels : (i j : ℕ) → i < area.width → j < area.height → pixel new i j ≡ stroked_over (pixel old i j) strokes (x_at area i) (y_at area j)

is_over : (area : Place) (strokes : List Stroke) (old new : Painting) → old.width ≡ area.width → old.height ≡ area.height → Follows area old strokes new → IsOver area strokes old new
is_over area [] old new width height same = record {
  width = ap (λ p. p.width) same ∙ width;
  height = ap (λ p. p.height) same ∙ height;
  pixels = λ i j inside below. ap (λ p. pixel p i j) same;
}
is_over area (stroke ∷ strokes) old new width height steps =
    let next = steps.0 in
    let first = steps.1 in
    let rest = is_over area strokes next new (first.width ∙ width) (first.height ∙ height) steps.2 in
    record {
      width = rest.width;
      height = rest.height;
      pixels = λ i j inside below. rest.pixels i j inside below ∙ ap (λ c. stroked_over c strokes (x_at area i) (y_at area j)) (first.pixels i j (rw width inside) (rw height below));
    }

pub strokes_show : (area : Place) (strokes : List Stroke) (blank new : Painting) → IsBlank area.width area.height blank → Follows area blank strokes new → Shows (λ part. stroked strokes) area new
strokes_show area strokes blank new white_all steps =
    let over = is_over area strokes blank new white_all.width white_all.height steps in
    record {
      width = over.width;
      height = over.height;
      pixels = λ i j inside below. over.pixels i j inside below ∙ ap (λ c. stroked_over c strokes (x_at area i) (y_at area j)) (white_all.pixels i j inside below);
    }
