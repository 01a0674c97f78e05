-- Which tiles a view sees.
use Rattle.std.specs.Prelude.{◌≡◌, ℕ, zero, suc, ◌+◌, ◌-◌, ◌*◌, ◌/◌, ◌^◌, ◌<◌, Bool, ◌&&◌, ◌||◌, nat_lt, List, [], ◌∷◌, ◌++◌, IsTrue}
use Rattle.std.specs.declared.cmp.Ordering.TheVariants.{Less}
use Rattle.cool_base.specs.Points.{Rectangle, Extent, has_point, intersection_of}
use Rattle.tile_key.specs.Places.{Place, Scale, IsKey, tile_at, rect_of_place, key_order}

-- the points of a part
abbrev pub whole_part : Extent → Rectangle
whole_part size = record { x = 0; y = 0; w = size.w; h = size.h }

-- a part's size, of at most 2,147,483,647 twips on both sides
pub record IsPart (size : Extent) : Type 0 where
  pub width : size.w < 2 ^ 31
  pub height : size.h < 2 ^ 31

-- a view of this part, zoom and area sees the key: it is a key of the part and the zoom, and one of its
-- points is a point of the area and of the part
pub record IsVisible (part : ℕ) (zoom : Scale) (area : Rectangle) (size : Extent) (key : Place) : Type 0 where
  pub of_zoom : key ≡ tile_at part zoom key.posx key.posy
  pub form : IsKey key
  pub seen : (px : ℕ) × (py : ℕ) × IsTrue (has_point (rect_of_place key) px py && (has_point area px py && has_point (whole_part size) px py))

-- the one key comes before the other in key order
abbrev pub IsBefore : Place → Place → Type 0
IsBefore p q = key_order p q ≡ Less

-- the tile of a zoom in a column and a row
abbrev pub tile_in : ℕ → Scale → ℕ → ℕ → Place
tile_in part zoom column row = tile_at part zoom (column * zoom.twip_w) (row * zoom.twip_h)

-- so many tiles of a row, from the one in column `first`
unfoldable pub row_of : ℕ → Scale → (first row columns : ℕ) → List Place
row_of part zoom first row zero = []
row_of part zoom first row (suc columns) = row_of part zoom first row columns ++ tile_in part zoom (first + columns) row ∷ []

-- so many rows of tiles, one after the other, from row `top`
unfoldable pub rows_of : ℕ → Scale → (first columns top rows : ℕ) → List Place
rows_of part zoom first columns top zero = []
rows_of part zoom first columns top (suc rows) = rows_of part zoom first columns top rows ++ row_of part zoom first (top + rows) columns

-- how many tiles of a side have one of the points from `from` to below `end`
abbrev pub tiles_to : (from end twips : ℕ) → ℕ
tiles_to from end twips = (end + twips - 1) / twips - from / twips

-- the keys that a view sees: the rows and columns of its zoom over its area, cut to the part
unfoldable pub visible_keys : ℕ → Scale → Rectangle → Extent → List Place
visible_keys part zoom area size =
    let seen = intersection_of area (whole_part size) in
    rows_of part zoom (seen.x / zoom.twip_w) (tiles_to seen.x (seen.x + seen.w) zoom.twip_w)
    (seen.y / zoom.twip_h) (tiles_to seen.y (seen.y + seen.h) zoom.twip_h)

-- so many keys are more than a view may see: more than 4,096, or more than 16,777,216 pixels
abbrev pub is_too_large : Scale → (count : ℕ) → Bool
is_too_large zoom count = nat_lt 4096 count || nat_lt 16777216 (count * (zoom.pixel_w * zoom.pixel_h))
