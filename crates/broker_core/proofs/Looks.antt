-- The look of a zoom that a message names.
use Rattle.std.proofs.Common.{◌≡◌, ℕ, ◌<◌, ◌≤◌, Bool, true, false, ◌&&◌, cond, Some, None, refl, ap, ◌∙◌, arith}
use Rattle.std.specs.Prelude.{nat_le}
use Rattle.std.proofs.lemmas.Bool.Decides.{nat_tests}
use Rattle.tile_key.specs.Places.{Scale, is_key_side, look_of, zoom_of}

and_false : (b : Bool) → (b && false) ≡ false
and_false true = refl
and_false false = refl

sized : (pixel_w pixel_h twip_w twip_h : ℕ) → Bool
sized pixel_w pixel_h twip_w twip_h = is_key_side pixel_w twip_w 0 && is_key_side pixel_h twip_h 0

-- no other look makes a zoom
pub no_look : (pixel_w pixel_h twip_w twip_h nviewid : ℕ) → 1 < nviewid → zoom_of (record { pixel_w = pixel_w; pixel_h = pixel_h; twip_w = twip_w; twip_h = twip_h; nviewid = nviewid }) ≡ None
unfolding sized
no_look pixel_w pixel_h twip_w twip_h nviewid high =
    let z : Scale = record { pixel_w = pixel_w; pixel_h = pixel_h; twip_w = twip_w; twip_h = twip_h; nviewid = nviewid } in
    let past : nat_le nviewid 1 ≡ false = grind (arith, nat_tests) in
    ap (λ (b : Bool). cond (sized pixel_w pixel_h twip_w twip_h && b) (Some z) None) past
    ∙ ap (λ (b : Bool). cond b (Some z) None) (and_false (sized pixel_w pixel_h twip_w twip_h))

-- a look names itself
pub same_look : (pixel_w pixel_h twip_w twip_h nviewid : ℕ) → nviewid ≤ 1 → zoom_of (record { pixel_w = pixel_w; pixel_h = pixel_h; twip_w = twip_w; twip_h = twip_h; nviewid = look_of nviewid }) ≡ zoom_of (record { pixel_w = pixel_w; pixel_h = pixel_h; twip_w = twip_w; twip_h = twip_h; nviewid = nviewid })
same_look pixel_w pixel_h twip_w twip_h nviewid low =
    let same : look_of nviewid ≡ nviewid = grind (arith, nat_tests) in
    ap (λ (n : ℕ). zoom_of (record { pixel_w = pixel_w; pixel_h = pixel_h; twip_w = twip_w; twip_h = twip_h; nviewid = n })) same
