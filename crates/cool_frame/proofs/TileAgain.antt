-- The line of a tile is read as what it names.
use Rattle.std.proofs.Common.{◌≡◌, ℕ, zero, suc, ◌<◌, ◌≤◌, ◌^◌, ◌%◌, true, false, List, ◌∷◌, ◌++◌, take, codes, Some, refl, arith, append_assoc, le-leb, eq-eqb}
use Rattle.std.specs.Fmt.{decimal}
use Rattle.std.specs.List.{position_or_len}
use Rattle.std.specs.Str.{bytes_eq}
use Rattle.cool_base.specs.declared.ids.Wid.{Wid}
use Rattle.tile_key.specs.Places.{Place, IsKey, is_key, key_at}
use Rattle.cool_frame.specs.Frames.{tile_pixels, tile_twips, look_text, tile_numbers, tile_line}
use Rattle.cool_frame.specs.Likely.{look_in, place_in, tile_in, is_other, small, large}
use Rattle.cool_frame.specs.Reading.{IsTileLine}
use Rattle.cool_frame.proofs.Scans.{number_again}

-- the key of a tile's line, word for word, and what stands behind it
abbrev place_text : Place → List ℕ → List ℕ
place_text key tail =
    codes "tile: part=" ++ (decimal key.part ++ (codes " width=" ++ (decimal key.width ++ (codes " height=" ++ (decimal key.height
    ++ (codes " tileposx=" ++ (decimal key.posx ++ (codes " tileposy=" ++ (decimal key.posy ++ (codes " tilewidth=" ++ (decimal key.tilewidth
    ++ (codes " tileheight=" ++ (decimal key.tileheight ++ tail)))))))))))))

-- a tile, word for word
abbrev tile_text : Place → ℕ → Wid → List ℕ → List ℕ
tile_text key ver wid pixels = place_text key (look_text key.nviewid ++ (codes " ver=" ++ (decimal ver ++ (codes " wid=" ++ (decimal wid.0 ++ (codes "\n" ++ pixels))))))

pub tile_bytes : (key : Place) (ver : ℕ) (wid : Wid) (pixels : List ℕ) → tile_line key ver wid ++ pixels ≡ tile_text key ver wid pixels
unfolding tile_line tile_pixels tile_twips tile_numbers
tile_bytes key ver wid pixels = simp append_assoc

-- the word of a look is found again, where what follows doesn't begin with it
look_again : (n : ℕ) (rest : List ℕ) → n ≤ 1 → bytes_eq (take 10 rest) (codes " nviewid=1") ≡ false → look_in (look_text n ++ rest) ≡ (n, rest)
unfolding look_in look_text
look_again zero rest few other = rw other refl
look_again (suc zero) rest few other = refl
look_again (suc (suc n)) rest few other = absurd (omega (arith, few))

-- a blank stands behind the sizes, with the word of a look and without it
look_stops : (n : ℕ) (rest : List ℕ) → n ≤ 1 → position_or_len is_other (look_text n ++ (32 ∷ rest)) ≡ 0
unfolding look_text
look_stops zero rest few = refl
look_stops (suc zero) rest few = refl
look_stops (suc (suc n)) rest few = absurd (omega (arith, few))

place_again : (key : Place) (tail rest : List ℕ) → IsKey key → key.part < 2 ^ 32 → position_or_len is_other tail ≡ 0 → look_in tail ≡ (key.nviewid, rest)
    → place_in (place_text key tail) ≡ Some (key, rest)
unfolding place_in
place_again key tail rest is part stop look =
    let t6 : List ℕ = codes " tileheight=" ++ (decimal key.tileheight ++ tail) in
    let t5 : List ℕ = codes " tilewidth=" ++ (decimal key.tilewidth ++ t6) in
    let t4 : List ℕ = codes " tileposy=" ++ (decimal key.posy ++ t5) in
    let t3 : List ℕ = codes " tileposx=" ++ (decimal key.posx ++ t4) in
    let t2 : List ℕ = codes " height=" ++ (decimal key.height ++ t3) in
    let t1 : List ℕ = codes " width=" ++ (decimal key.width ++ t2) in
    let e0 = number_again small key.part (codes "tile: part=") t1 refl refl (omega arith) (omega arith) in
    let e1 = number_again small key.width (codes " width=") t2 refl refl (omega (arith, is.width_high)) (omega (arith, is.width_high)) in
    let e2 = number_again small key.height (codes " height=") t3 refl refl (omega (arith, is.height_high)) (omega (arith, is.height_high)) in
    let e3 = number_again small key.posx (codes " tileposx=") t4 refl refl (omega (arith, is.posx_high)) (omega (arith, is.posx_high)) in
    let e4 = number_again small key.posy (codes " tileposy=") t5 refl refl (omega (arith, is.posy_high)) (omega (arith, is.posy_high)) in
    let e5 = number_again small key.tilewidth (codes " tilewidth=") t6 refl refl (omega (arith, is.tilewidth_high)) (omega (arith, is.tilewidth_high)) in
    let e6 = number_again small key.tileheight (codes " tileheight=") tail refl stop (omega (arith, is.tileheight_high)) (omega (arith, is.tileheight_high)) in
    rw (e0, e1, e2, e3, e4, e5, e6, look) refl

key_passes : (key : Place) → IsKey key → is_key key ≡ true
key_passes key is =
    rw (
      le-leb 1 key.width is.width_low,
      le-leb key.width 256 is.width_high,
      le-leb 15 key.tilewidth is.tilewidth_low,
      le-leb key.tilewidth 61440 is.tilewidth_high,
      le-leb key.posx 2147483647 is.posx_high,
      eq-eqb (key.posx % key.tilewidth) 0 is.posx_multiple,
      le-leb 1 key.height is.height_low,
      le-leb key.height 256 is.height_high,
      le-leb 15 key.tileheight is.tileheight_low,
      le-leb key.tileheight 61440 is.tileheight_high,
      le-leb key.posy 2147483647 is.posy_high,
      eq-eqb (key.posy % key.tileheight) 0 is.posy_multiple,
      le-leb key.nviewid 1 is.nviewid_high,
    ) refl

key_again : (key : Place) → IsKey key → key_at key ≡ Some key
key_again key is = rw (key_passes key is) refl

pub tile_again : (key : Place) (ver : ℕ) (wid : Wid) (pixels : List ℕ) → IsTileLine key ver wid → tile_in (tile_text key ver wid pixels) ≡ Some (key, ver, wid)
unfolding tile_in
tile_again key ver wid pixels line =
    let t2 : List ℕ = codes " wid=" ++ (decimal wid.0 ++ (codes "\n" ++ pixels)) in
    let t1 : List ℕ = codes " ver=" ++ (decimal ver ++ t2) in
    let version : ver < 2 ^ 64 = line.version in
    let number : wid.0 < 2 ^ 64 = line.number in
    let t0 : List ℕ = look_text key.nviewid ++ t1 in
    let e1 = place_again key t0 t1 line.form line.part (look_stops key.nviewid _ line.form.nviewid_high) (look_again key.nviewid t1 line.form.nviewid_high refl) in
    let e2 = number_again large ver (codes " ver=") t2 refl refl version (omega arith) in
    let e3 = number_again large wid.0 (codes " wid=") (codes "\n" ++ pixels) refl refl number (omega arith) in
    rw (e1, key_again key line.form, e2, e3) refl
