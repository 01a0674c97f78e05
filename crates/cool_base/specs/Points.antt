-- Rectangles as sets of points, and sizes.
use Rattle.std.specs.Prelude.{ℕ, ◌+◌, ◌-◌, min, max, Bool, ◌&&◌, nat_lt, nat_le, IsTrue, if◌then◌else◌}

-- a rectangle by its least point, its width and its height
pub record Rectangle : Type 0 where
  pub x : ℕ
  pub y : ℕ
  pub w : ℕ
  pub h : ℕ

-- a width and a height
pub record Extent : Type 0 where
  pub w : ℕ
  pub h : ℕ

-- whether the point (px, py) is one of the rectangle's points
abbrev pub has_point : Rectangle → ℕ → ℕ → Bool
has_point r px py = (nat_le r.x px && nat_lt px (r.x + r.w)) && (nat_le r.y py && nat_lt py (r.y + r.h))

-- the two rectangles have a common point
abbrev pub Meet : Rectangle → Rectangle → Type 0
Meet a b = (px : ℕ) × (py : ℕ) × IsTrue (has_point a px py && has_point b px py)

-- the rectangle of no point
abbrev pub nowhere : Rectangle
nowhere = record { x = 0; y = 0; w = 0; h = 0 }

-- the same by corners: the greater of the two beginnings lies before the lesser of the two ends
abbrev pub do_meet : Rectangle → Rectangle → Bool
do_meet a b = nat_lt (max a.x b.x) (min (a.x + a.w) (b.x + b.w)) && nat_lt (max a.y b.y) (min (a.y + a.h) (b.y + b.h))

-- the common points by corners, all zero where there is none
abbrev pub intersection_of : Rectangle → Rectangle → Rectangle
intersection_of a b =
    if do_meet a b then record {
      x = max a.x b.x;
      y = max a.y b.y;
      w = min (a.x + a.w) (b.x + b.w) - max a.x b.x;
      h = min (a.y + a.h) (b.y + b.h) - max a.y b.y;
    } else nowhere
