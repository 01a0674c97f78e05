-- One more key of a job.
use Rattle.std.proofs.Common.{◌≡◌, ℕ, zero, suc, ◌+◌, ◌<◌, arith, true, false, List, [], ◌∷◌, ◌++◌, length, drop, get_or, refl, ap, sym, ◌∙◌, add-one, append_assoc}
use Rattle.kit_trait.specs.declared.values.Pixels.{Pixels}
use Rattle.tile_key.specs.Places.{Place}
use Rattle.tile_cache.specs.declared.outs.Out.{Out}
use Rattle.tile_cache.specs.declared.tiles.Tile.{Tile}
use Rattle.tile_cache.specs.Calls.{new_tiles}

drop_here : {X : Type 0} (xs : List X) (i : ℕ) (x : X) → i < length xs → x ≡ get_or xs i x → drop i xs ≡ x ∷ drop (i + 1) xs
drop_here [] i x low is = absurd (omega (arith, low))
drop_here (y ∷ xs) zero x low is = ap (λ z. z ∷ xs) (sym is)
drop_here (y ∷ xs) (suc i) x low is = drop_here xs i x (omega (arith, low)) is ∙ rw (add-one, add-one) refl

drop_some : {X : Type 0} (xs : List X) (i : ℕ) → i < length xs → (x : X) × (drop i xs ≡ x ∷ drop (i + 1) xs)
drop_some [] i low = absurd (omega (arith, low))
drop_some (y ∷ xs) zero low = (y, refl)
drop_some (y ∷ xs) (suc i) low = let rest = drop_some xs i (omega (arith, low)) in (rest.0, rest.1 ∙ rw (add-one, add-one) refl)

pub new_met : (outs : List Out) (pictures : List Pixels) (i : ℕ) (out : Out) (tiles all : List (Place × Tile)) → i < length outs → i < length pictures → out ≡ get_or outs i out → out.is_met ≡ true → tiles ++ new_tiles (drop i outs) (drop i pictures) ≡ all → tiles ++ new_tiles (drop (i + 1) outs) (drop (i + 1) pictures) ≡ all
new_met outs pictures i out tiles all low under is met before =
    let shown = drop_some pictures i under in
    let rest_outs = drop (i + 1) outs in
    let rest_pictures = drop (i + 1) pictures in
    let split : new_tiles (drop i outs) (drop i pictures) ≡ new_tiles (out ∷ rest_outs) (shown.0 ∷ rest_pictures) = ap (λ (os : List Out). new_tiles os (drop i pictures)) (drop_here outs i out low is) ∙ ap (λ (ps : List Pixels). new_tiles (out ∷ rest_outs) ps) shown.1 in
    let skip : new_tiles (out ∷ rest_outs) (shown.0 ∷ rest_pictures) ≡ new_tiles rest_outs rest_pictures = rw met refl in
    ap (λ (ts : List (Place × Tile)). tiles ++ ts) (sym (split ∙ skip)) ∙ before

pub new_kept : (outs : List Out) (pictures : List Pixels) (i : ℕ) (out : Out) (picture : Pixels) (tiles more all : List (Place × Tile)) → i < length outs → i < length pictures → out ≡ get_or outs i out → picture ≡ get_or pictures i picture → out.is_met ≡ false → more ≡ tiles ++ (out.key, record { number = out.number; rgba = picture.rgba; is_met = false }) ∷ [] → tiles ++ new_tiles (drop i outs) (drop i pictures) ≡ all → more ++ new_tiles (drop (i + 1) outs) (drop (i + 1) pictures) ≡ all
new_kept outs pictures i out picture tiles more all low under is shown fresh now before =
    let split : new_tiles (drop i outs) (drop i pictures) ≡ new_tiles (out ∷ drop (i + 1) outs) (picture ∷ drop (i + 1) pictures) = rw (drop_here outs i out low is, drop_here pictures i picture under shown) refl in
    let one : Place × Tile = (out.key, record { number = out.number; rgba = picture.rgba; is_met = false }) in
    let take_one : new_tiles (out ∷ drop (i + 1) outs) (picture ∷ drop (i + 1) pictures) ≡ one ∷ new_tiles (drop (i + 1) outs) (drop (i + 1) pictures) = rw fresh refl in
    rw (now, append_assoc tiles (one ∷ []) (new_tiles (drop (i + 1) outs) (drop (i + 1) pictures)))
    (ap (λ ts. tiles ++ ts) (sym (split ∙ take_one)) ∙ before)

pub ruleset new_facts = (new_kept)
