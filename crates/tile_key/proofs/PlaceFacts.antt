-- The tests on places and what holds of the places that pass them.
use Rattle.std.proofs.Common.{◌≡◌, ℕ, ◌≤◌, ◌%◌, ◌&&◌, true, nat_le, arith}
use Rattle.std.proofs.lemmas.Bool.{and_parts}
use Rattle.std.proofs.lemmas.Bool.Decides.{nat_tests}
use Rattle.tile_key.specs.Places.{Place, look_of, is_key, is_key_side, IsKey, is_area, IsArea}

-- what holds of the pixels, the twips and the position of a key on one side
record IsSide (pixels twips pos : ℕ) : Type 0 where
  pixels_low : 1 ≤ pixels
  pixels_high : pixels ≤ 256
  twips_low : 15 ≤ twips
  twips_high : twips ≤ 61440
  pos_high : pos ≤ 2147483647
  pos_multiple : pos % twips ≡ 0

side_facts : (pixels twips pos : ℕ) → is_key_side pixels twips pos ≡ true → IsSide pixels twips pos
side_facts pixels twips pos passes = grind (arith, nat_tests)

low : (n : ℕ) → nat_le n 1 ≡ true → n ≤ 1
low n passes = grind (arith, nat_tests)

pub key_facts : (p : Place) → is_key p ≡ true → IsKey p
key_facts p passes =
    let parts = and_parts (is_key_side p.width p.tilewidth p.posx && is_key_side p.height p.tileheight p.posy) (nat_le p.nviewid 1) passes in
    let sides = and_parts (is_key_side p.width p.tilewidth p.posx) (is_key_side p.height p.tileheight p.posy) parts.0 in
    let across : IsSide p.width p.tilewidth p.posx = side_facts p.width p.tilewidth p.posx sides.0 in
    let down : IsSide p.height p.tileheight p.posy = side_facts p.height p.tileheight p.posy sides.1 in
    record {
      width_low = across.pixels_low;
      width_high = across.pixels_high;
      height_low = down.pixels_low;
      height_high = down.pixels_high;
      tilewidth_low = across.twips_low;
      tilewidth_high = across.twips_high;
      tileheight_low = down.twips_low;
      tileheight_high = down.twips_high;
      posx_high = across.pos_high;
      posy_high = down.pos_high;
      posx_multiple = across.pos_multiple;
      posy_multiple = down.pos_multiple;
      nviewid_high = low p.nviewid parts.1;
    }

pub area_facts : (p : Place) → is_area p ≡ true → IsArea p
area_facts p passes = grind (arith, nat_tests)

pub ruleset facts = (key_facts, area_facts)

-- a look names itself
pub look_same : (n : ℕ) → n ≤ 1 → look_of n ≡ n
look_same n few = grind (arith, nat_tests)
