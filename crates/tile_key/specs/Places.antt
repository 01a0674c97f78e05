-- Keys and areas as plain records of eight numbers.
use Rattle.std.specs.Prelude.{◌≡◌, ℕ, ◌+◌, ◌%◌, ◌≤◌, Bool, ◌&&◌, nat_le, nat_eq, List, [], ◌∷◌, length, sum_by, Option, Some, None, if◌then◌else◌}
use Rattle.std.specs.declared.cmp.Ordering.{Ordering}
use Rattle.std.specs.Ordering.{ordering_then, nat_cmp}
use Rattle.cool_base.specs.Points.{Rectangle}

-- a tile or an area: its part, its width and height in pixels, its place and size in twips, and the
-- look that it shows the document in: 0 with grid lines, 1 without
pub record Place : Type 0 where
  pub part : ℕ
  pub width : ℕ
  pub height : ℕ
  pub posx : ℕ
  pub posy : ℕ
  pub tilewidth : ℕ
  pub tileheight : ℕ
  pub nviewid : ℕ

-- the look that a number names: 1 means 1, every other number counts as 0
abbrev pub look_of : ℕ → ℕ
look_of n = if nat_eq n 1 then 1 else 0

-- the points of a place in its part
abbrev pub rect_of_place : Place → Rectangle
rect_of_place p = record { x = p.posx; y = p.posy; w = p.tilewidth; h = p.tileheight }

-- whether a pixel size, a twip size and a position are those of a key
abbrev pub is_key_side : ℕ → ℕ → ℕ → Bool
is_key_side pixels twips pos =
    (nat_le 1 pixels && nat_le pixels 256) && (nat_le 15 twips && nat_le twips 61440) && (nat_le pos 2147483647 && nat_eq (pos % twips) 0)

-- whether the place is that of a key
abbrev pub is_key : Place → Bool
is_key p =
    is_key_side p.width p.tilewidth p.posx && is_key_side p.height p.tileheight p.posy && nat_le p.nviewid 1

-- the key at the place, where it is one
abbrev pub key_at : Place → Option Place
key_at p = if is_key p then Some p else None

-- what holds of a key's place
pub record IsKey (p : Place) : Type 0 where
  pub width_low : 1 ≤ p.width
  pub width_high : p.width ≤ 256
  pub height_low : 1 ≤ p.height
  pub height_high : p.height ≤ 256
  pub tilewidth_low : 15 ≤ p.tilewidth
  pub tilewidth_high : p.tilewidth ≤ 61440
  pub tileheight_low : 15 ≤ p.tileheight
  pub tileheight_high : p.tileheight ≤ 61440
  pub posx_high : p.posx ≤ 2147483647
  pub posy_high : p.posy ≤ 2147483647
  pub posx_multiple : p.posx % p.tilewidth ≡ 0
  pub posy_multiple : p.posy % p.tileheight ≡ 0
  pub nviewid_high : p.nviewid ≤ 1

-- whether the place is that of an area
abbrev pub is_area : Place → Bool
is_area p =
    (nat_le 1 p.width && nat_le p.width 2048) && (nat_le 1 p.height && nat_le p.height 256)
    && (nat_le 1 p.tilewidth && nat_le p.tilewidth 491520) && (nat_le 1 p.tileheight && nat_le p.tileheight 491520)
    && (nat_le p.posx 2147483647 && nat_le p.posy 2147483647) && nat_le p.nviewid 1

-- the area at the place, where it is one
abbrev pub area_at : Place → Option Place
area_at p = if is_area p then Some p else None

-- what holds of an area's place
pub record IsArea (p : Place) : Type 0 where
  pub width_low : 1 ≤ p.width
  pub width_high : p.width ≤ 2048
  pub height_low : 1 ≤ p.height
  pub height_high : p.height ≤ 256
  pub tilewidth_low : 1 ≤ p.tilewidth
  pub tilewidth_high : p.tilewidth ≤ 491520
  pub tileheight_low : 1 ≤ p.tileheight
  pub tileheight_high : p.tileheight ≤ 491520
  pub posx_high : p.posx ≤ 2147483647
  pub posy_high : p.posy ≤ 2147483647
  pub nviewid_high : p.nviewid ≤ 1

-- the place that begins where another ends, and differs from it in its position alone
abbrev pub next_place : Place → Place
next_place p = record p { posx = p.posx + p.tilewidth }

-- the place with nothing in it, which no key and no area has
abbrev pub no_place : Place
no_place =
    record { part = 0; width = 0; height = 0; posx = 0; posy = 0; tilewidth = 0; tileheight = 0; nviewid = 0 }

-- key order: by part, tileposy, tileposx, width, height, tilewidth, tileheight and nviewid, in this
-- order
abbrev pub key_order : Place → Place → Ordering
key_order p q =
    ordering_then (nat_cmp p.part q.part) (ordering_then (nat_cmp p.posy q.posy) (ordering_then (nat_cmp p.posx q.posx)
    (ordering_then (nat_cmp p.width q.width) (ordering_then (nat_cmp p.height q.height)
    (ordering_then (nat_cmp p.tilewidth q.tilewidth) (ordering_then (nat_cmp p.tileheight q.tileheight)
    (nat_cmp p.nviewid q.nviewid)))))))

-- whether two places are one
abbrev pub same_place : Place → Place → Bool
same_place p q =
    (nat_eq p.part q.part && nat_eq p.posy q.posy && nat_eq p.posx q.posx) && (nat_eq p.width q.width && nat_eq p.height q.height)
    && (nat_eq p.tilewidth q.tilewidth && nat_eq p.tileheight q.tileheight) && nat_eq p.nviewid q.nviewid

-- each key is the place behind the one before it
abbrev pub IsRun : Place → List Place → Type 0
IsRun p [] = Unit {0}
IsRun p (q ∷ qs) = (q ≡ next_place p) × IsRun q qs

-- one to eight keys, each of which begins where the one before it ends and differs from it in
-- tileposx alone
abbrev pub IsGroup : List Place → Type 0
IsGroup [] = ⊥
IsGroup (p ∷ ps) = (length ps ≤ 7) × IsRun p ps

-- the place that all keys of a list take together: from the first one's edge, as wide as all of them
abbrev pub place_of_keys : List Place → Place
place_of_keys [] = no_place
place_of_keys (p ∷ ps) = record p { width = sum_by (λ q. q.width) (p ∷ ps); tilewidth = sum_by (λ q. q.tilewidth) (p ∷ ps) }

-- a zoom: the size of a tile in pixels and in twips, and the look
pub record Scale : Type 0 where
  pub pixel_w : ℕ
  pub pixel_h : ℕ
  pub twip_w : ℕ
  pub twip_h : ℕ
  pub nviewid : ℕ

-- the place of a zoom's tile at a position of a part
abbrev pub tile_at : ℕ → Scale → ℕ → ℕ → Place
tile_at part zoom posx posy =
    record {
      part = part;
      width = zoom.pixel_w;
      height = zoom.pixel_h;
      posx = posx;
      posy = posy;
      tilewidth = zoom.twip_w;
      tileheight = zoom.twip_h;
      nviewid = zoom.nviewid;
    }

-- whether the numbers make a zoom: at position 0, 0 they make a key
abbrev pub is_zoom : Scale → Bool
is_zoom zoom = is_key (tile_at 0 zoom 0 0)

-- the zoom of five numbers, where they make one
abbrev pub zoom_of : Scale → Option Scale
zoom_of zoom = if is_zoom zoom then Some zoom else None
