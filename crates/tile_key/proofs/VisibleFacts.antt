-- The listed keys are those that the view sees, in key order, and no more than counted.
use Rattle.std.proofs.Common.{◌≡◌, ◌↔◌, ℕ, ◌+◌, ◌-◌, ◌*◌, ◌/◌, ◌%◌, ◌<◌, ◌≤◌, ◌^◌, max, min, Bool, true, false, ◌&&◌, List, length, All, AllPairs, Contains, refl, ap, sym, subst, inl, inr, ◌⊎◌, arith}
use Rattle.std.proofs.lemmas.Bool.{cases_Bool}
use Rattle.std.proofs.lemmas.Bool.Decides.{nat_tests}
use Rattle.std.proofs.Math.Nat.{mul-mod_left}
use Rattle.std.proofs.lemmas.Nat.{div-add-mod'}
use Rattle.cool_base.specs.Points.{Rectangle, Extent, has_point, do_meet, intersection_of, nowhere}
use Rattle.tile_key.specs.Places.{Place, Scale, IsKey, is_zoom, rect_of_place}
use Rattle.tile_key.specs.Visible.{IsVisible, IsBefore, tile_in, rows_of, tiles_to, visible_keys, whole_part, is_too_large}
use Rattle.tile_key.proofs.GridFacts.{rows_all, rows_has, rows_length, rows_order}
use Rattle.tile_key.proofs.SpanFacts.{none_over, side_point, side_has, span_end, span_small}

-- what holds of a zoom
pub record IsSized (zoom : Scale) : Type 0 where
  pub pixel_w_low : 1 ≤ zoom.pixel_w
  pub pixel_w_high : zoom.pixel_w ≤ 256
  pub pixel_h_low : 1 ≤ zoom.pixel_h
  pub pixel_h_high : zoom.pixel_h ≤ 256
  pub twip_w_low : 15 ≤ zoom.twip_w
  pub twip_w_high : zoom.twip_w ≤ 61440
  pub twip_h_low : 15 ≤ zoom.twip_h
  pub twip_h_high : zoom.twip_h ≤ 61440
  pub nviewid_high : zoom.nviewid ≤ 1

pub zoom_facts : (zoom : Scale) → is_zoom zoom ≡ true → IsSized zoom
zoom_facts zoom passes = grind (arith, nat_tests)

-- the zoom's tile in a column and a row is a key
pub tile_is_key : (part : ℕ) (zoom : Scale) (column row : ℕ) → is_zoom zoom ≡ true → column * zoom.twip_w ≤ 2147483647 → row * zoom.twip_h ≤ 2147483647 → IsKey (tile_in part zoom column row)
tile_is_key part zoom column row passes across down =
    let z : IsSized zoom = zoom_facts zoom passes in
    record {
      width_low = z.pixel_w_low;
      width_high = z.pixel_w_high;
      height_low = z.pixel_h_low;
      height_high = z.pixel_h_high;
      tilewidth_low = z.twip_w_low;
      tilewidth_high = z.twip_w_high;
      tileheight_low = z.twip_h_low;
      tileheight_high = z.twip_h_high;
      posx_high = across;
      posy_high = down;
      posx_multiple = mul-mod_left column zoom.twip_w;
      posy_multiple = mul-mod_left row zoom.twip_h;
      nviewid_high = z.nviewid_high;
    }

pub ruleset tile_facts = (tile_is_key, zoom_facts)

-- the point is one of the rectangle's
record IsIn (r : Rectangle) (px py : ℕ) : Type 0 where
  left : r.x ≤ px
  right : px < r.x + r.w
  upper : r.y ≤ py
  lower : py < r.y + r.h

in_by : (r : Rectangle) (px py : ℕ) → has_point r px py ≡ true → IsIn r px py
in_by r px py has = grind (arith, nat_tests)

has_by : (r : Rectangle) (px py : ℕ) → IsIn r px py → has_point r px py ≡ true
has_by r px py is = grind (arith, nat_tests)

both : (a b : Bool) → (a && b) ≡ true → (a ≡ true) × (b ≡ true)
both true b e = (refl, e)
both false b e = absurd (cc)

-- two rectangles that meet, by their corners
record MeetBy (a b : Rectangle) : Type 0 where
  across : max a.x b.x < min (a.x + a.w) (b.x + b.w)
  down : max a.y b.y < min (a.y + a.h) (b.y + b.h)

meet_by : (a b : Rectangle) → do_meet a b ≡ true → MeetBy a b
meet_by a b h = grind (arith, nat_tests)

by_meet : (a b : Rectangle) → MeetBy a b → do_meet a b ≡ true
by_meet a b h = grind (arith, nat_tests)

-- the common points of an area and a part
record IsCut (a : Rectangle) (size : Extent) (s : Rectangle) : Type 0 where
  right : s.x + s.w ≤ size.w
  lower : s.y + s.h ≤ size.h
  some : (s ≡ nowhere) ⊎ ((0 < s.w) × (0 < s.h))
  to : (px py : ℕ) → IsIn s px py → IsIn a px py × IsIn (whole_part size) px py
  from : (px py : ℕ) → IsIn a px py → IsIn (whole_part size) px py → IsIn s px py

cut_meets : (a : Rectangle) (size : Extent) → do_meet a (whole_part size) ≡ true → IsCut a size (intersection_of a (whole_part size))
cut_meets a size meets =
    let m : MeetBy a (whole_part size) = meet_by a (whole_part size) meets in
    rw meets (record {
      right = omega (arith, m.across);
      lower = omega (arith, m.down);
      some = inr (omega (arith, m.across), omega (arith, m.down));
      to = λ px py i. (record { left = omega (arith, i.left); right = omega (arith, i.left, i.right); upper = omega (arith, i.upper); lower = omega (arith, i.upper, i.lower) }, record { left = omega (arith, i.left); right = omega (arith, i.right); upper = omega (arith, i.upper); lower = omega (arith, i.lower) });
      from = λ px py i j. record { left = omega (arith, i.left, j.left); right = omega (arith, i.left, i.right, j.left, j.right); upper = omega (arith, i.upper, j.upper); lower = omega (arith, i.upper, i.lower, j.upper, j.lower) };
    })

common_meets : (a b : Rectangle) (px py : ℕ) → IsIn a px py → IsIn b px py → do_meet a b ≡ true
common_meets a b px py i j = by_meet a b (record { across = omega (arith, i.left, i.right, j.left, j.right); down = omega (arith, i.upper, i.lower, j.upper, j.lower) })

cut_misses : (a : Rectangle) (size : Extent) → do_meet a (whole_part size) ≡ false → IsCut a size (intersection_of a (whole_part size))
cut_misses a size misses =
    rw misses (record {
      right = omega arith;
      lower = omega arith;
      some = inl refl;
      to = λ px py i. absurd (omega (arith, i.left, i.right));
      from = λ px py i j. absurd (let e : do_meet a (whole_part size) ≡ true = common_meets a (whole_part size) px py i j in cc);
    })

cut_is : (a : Rectangle) (size : Extent) → IsCut a size (intersection_of a (whole_part size))
cut_is a size = elim (cases_Bool (do_meet a (whole_part size))) [ inl meets ↦ cut_meets a size meets | inr misses ↦ cut_misses a size misses ]

-- a multiple is its quotient as often
multiple_is : (n m : ℕ) → n % m ≡ 0 → n / m * m ≡ n
multiple_is n m e = let d : n / m * m + n % m ≡ n = div-add-mod' n m in omega (arith, d, e)

-- nothing is seen of an empty area
none_seen : (s : Rectangle) (zoom : Scale) → 0 < zoom.twip_w → s ≡ nowhere → tiles_to s.x (s.x + s.w) zoom.twip_w ≡ 0
none_seen s zoom wide e = rw e (none_over zoom.twip_w wide)

-- a tile counted is seen
tile_seen : (part : ℕ) (zoom : Scale) (a : Rectangle) (size : Extent) (s : Rectangle) (i j : ℕ) → is_zoom zoom ≡ true → IsCut a size s → size.w < 2 ^ 31 → size.h < 2 ^ 31 → 0 < s.w → 0 < s.h
    → i < tiles_to s.x (s.x + s.w) zoom.twip_w → j < tiles_to s.y (s.y + s.h) zoom.twip_h
    → IsVisible part zoom a size (tile_in part zoom (s.x / zoom.twip_w + i) (s.y / zoom.twip_h + j))
tile_seen part zoom a size s i j passes is w h some_w some_h across down =
    let z : IsSized zoom = zoom_facts zoom passes in
    let px = side_point s.x (s.x + s.w) zoom.twip_w i (omega (arith, z.twip_w_low)) (omega arith) across in
    let py = side_point s.y (s.y + s.h) zoom.twip_h j (omega (arith, z.twip_h_low)) (omega arith) down in
    let mine : IsIn (rect_of_place (tile_in part zoom (s.x / zoom.twip_w + i) (s.y / zoom.twip_h + j))) px.0 py.0 = record { left = px.1; right = px.2; upper = py.1; lower = py.2 } in
    let there = is.to px.0 py.0 (record { left = px.3; right = px.4; upper = py.3; lower = py.4 }) in
    record {
      of_zoom = refl;
      form = tile_is_key part zoom (s.x / zoom.twip_w + i) (s.y / zoom.twip_h + j) passes (omega (arith, px.1, px.4, is.right)) (omega (arith, py.1, py.4, is.lower));
      seen = (px.0, py.0, rw (has_by (rect_of_place (tile_in part zoom (s.x / zoom.twip_w + i) (s.y / zoom.twip_h + j))) px.0 py.0 mine, has_by a px.0 py.0 there.0, has_by (whole_part size) px.0 py.0 there.1) refl);
    }

-- each listed key is seen
pub visible_all : (part : ℕ) (zoom : Scale) (a : Rectangle) (size : Extent) → is_zoom zoom ≡ true → size.w < 2 ^ 31 → size.h < 2 ^ 31 → All (IsVisible part zoom a size) (visible_keys part zoom a size)
unfolding visible_keys
visible_all part zoom a size passes w h =
    let s : Rectangle = intersection_of a (whole_part size) in
    let is : IsCut a size s = cut_is a size in
    let z : IsSized zoom = zoom_facts zoom passes in
    rows_all (IsVisible part zoom a size) part zoom (s.x / zoom.twip_w) (tiles_to s.x (s.x + s.w) zoom.twip_w) (s.y / zoom.twip_h) (tiles_to s.y (s.y + s.h) zoom.twip_h)
    (λ i j across down. elim is.some [
      | inl e ↦ absurd (let none : tiles_to s.x (s.x + s.w) zoom.twip_w ≡ 0 = none_seen s zoom (omega (arith, z.twip_w_low)) e in omega (arith, none, across))
      | inr some ↦ tile_seen part zoom a size s i j passes is w h some.0 some.1 across down
    ])

-- a key that is seen is listed
pub visible_has : (part : ℕ) (zoom : Scale) (a : Rectangle) (size : Extent) (key : Place) → is_zoom zoom ≡ true → IsVisible part zoom a size key → Contains (visible_keys part zoom a size) key
unfolding visible_keys
visible_has part zoom a size key passes v =
    let s : Rectangle = intersection_of a (whole_part size) in
    let is : IsCut a size s = cut_is a size in
    let z : IsSized zoom = zoom_facts zoom passes in
    let px : ℕ = v.seen.0 in
    let py : ℕ = v.seen.1 in
    let one = both (has_point (rect_of_place key) px py) (has_point a px py && has_point (whole_part size) px py) v.seen.2 in
    let two = both (has_point a px py) (has_point (whole_part size) px py) one.1 in
    let mine : IsIn (rect_of_place key) px py = in_by (rect_of_place key) px py one.0 in
    let there : IsIn s px py = is.from px py (in_by a px py two.0) (in_by (whole_part size) px py two.1) in
    let wide : key.tilewidth ≡ zoom.twip_w = ap (λ p. p.tilewidth) v.of_zoom in
    let high : key.tileheight ≡ zoom.twip_h = ap (λ p. p.tileheight) v.of_zoom in
    let x_is : key.posx / zoom.twip_w * zoom.twip_w ≡ key.posx = multiple_is key.posx zoom.twip_w (rw wide at v.form.posx_multiple) in
    let y_is : key.posy / zoom.twip_h * zoom.twip_h ≡ key.posy = multiple_is key.posy zoom.twip_h (rw high at v.form.posy_multiple) in
    let i = side_has s.x (s.x + s.w) zoom.twip_w (key.posx / zoom.twip_w) px (omega (arith, z.twip_w_low)) (omega (arith, x_is, mine.left)) (omega (arith, x_is, wide, mine.right)) there.left there.right in
    let j = side_has s.y (s.y + s.h) zoom.twip_h (key.posy / zoom.twip_h) py (omega (arith, z.twip_h_low)) (omega (arith, y_is, mine.upper)) (omega (arith, y_is, high, mine.lower)) there.upper there.lower in
    let has = rows_has part zoom (s.x / zoom.twip_w) (tiles_to s.x (s.x + s.w) zoom.twip_w) (s.y / zoom.twip_h) (tiles_to s.y (s.y + s.h) zoom.twip_h) i.0 j.0 i.1 j.1 in
    let e : tile_in part zoom (s.x / zoom.twip_w + i.0) (s.y / zoom.twip_h + j.0) ≡ key = rw (i.2, j.2, x_is, y_is) (sym v.of_zoom) in
    subst (λ (p : Place). Contains (visible_keys part zoom a size) p) e has

-- what the list of keys says, as `visible` promises it
pub visible_each : (part : ℕ) (zoom : Scale) (a : Rectangle) (size : Extent) (keys : List Place) → is_zoom zoom ≡ true → size.w < 2 ^ 31 → size.h < 2 ^ 31 → keys ≡ visible_keys part zoom a size → (key : Place) → Contains keys key ↔ IsVisible part zoom a size key
visible_each part zoom a size keys passes w h e key =
    rw e (λ has. subst (λ (p : Place). IsVisible part zoom a size p) has.2 (visible_all part zoom a size passes w h has.0 key has.1), λ v. visible_has part zoom a size key passes v)

pub visible_order : (part : ℕ) (zoom : Scale) (a : Rectangle) (size : Extent) (keys : List Place) → is_zoom zoom ≡ true → keys ≡ visible_keys part zoom a size → AllPairs IsBefore keys
unfolding visible_keys
visible_order part zoom a size keys passes e =
    let s : Rectangle = intersection_of a (whole_part size) in
    let z : IsSized zoom = zoom_facts zoom passes in
    rw e (rows_order part zoom (s.x / zoom.twip_w) (tiles_to s.x (s.x + s.w) zoom.twip_w) (s.y / zoom.twip_h) (tiles_to s.y (s.y + s.h) zoom.twip_h) (omega (arith, z.twip_w_low)) (omega (arith, z.twip_h_low)))

pub ruleset listed = (visible_each, visible_order)

-- what `grid_of` promises of the columns and of the rows
pub record IsSpan (from length twips first count : ℕ) : Type 0 where
  pub first_is : first ≡ from / twips
  pub count_is : count ≡ tiles_to from (from + length) twips
  pub reach : (first + count) * twips ≤ 2147483647 + twips
  pub small : first + count < 2 ^ 32

pub span_is : (from length twips first count t : ℕ) → t ≡ twips → 15 ≤ twips → twips ≤ 61440 → from + length < 2 ^ 31 → first ≡ from / t → count ≡ (from + length + t - 1) / t - first → IsSpan from length twips first count
span_is from length twips first count t same some short small first_is count_is =
    let f : first ≡ from / twips = rw same at first_is in
    let n : count ≡ tiles_to from (from + length) twips = rw (same, f) at count_is in
    record {
      first_is = f;
      count_is = n;
      reach = rw (f, n) (span_end from (from + length) twips (omega arith) (omega arith) small);
      small = rw (f, n) (span_small from (from + length) twips (omega arith) (omega arith) small short);
    }

pub visible_rows : (part : ℕ) (zoom : Scale) (a : Rectangle) (size : Extent) (s : Rectangle) (first columns top rows : ℕ) → s ≡ intersection_of a (whole_part size)
    → IsSpan s.x s.w zoom.twip_w first columns → IsSpan s.y s.h zoom.twip_h top rows → rows_of part zoom first columns top rows ≡ visible_keys part zoom a size
unfolding visible_keys
visible_rows part zoom a size s first columns top rows e across down = rw (across.first_is, across.count_is, down.first_is, down.count_is, e) refl

pub seen_right : (a : Rectangle) (size : Extent) (s : Rectangle) → s ≡ intersection_of a (whole_part size) → s.x + s.w ≤ size.w
seen_right a size s e = rw e (cut_is a size).right

pub seen_lower : (a : Rectangle) (size : Extent) (s : Rectangle) → s ≡ intersection_of a (whole_part size) → s.y + s.h ≤ size.h
seen_lower a size s e = rw e (cut_is a size).lower

-- so many are the listed keys
pub count_large : (part : ℕ) (zoom : Scale) (first columns top rows : ℕ) (keys : List Place) → rows_of part zoom first columns top rows ≡ keys → is_too_large zoom (rows * columns) ≡ is_too_large zoom (length keys)
count_large part zoom first columns top rows keys e = rw (← e, rows_length part zoom first columns top rows) refl
