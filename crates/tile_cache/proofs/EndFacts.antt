-- The end of a job.
use Rattle.std.proofs.Common.{◌≡◌, ℕ, ◌≤◌, ◌<◌, arith, Bool, true, false, not, nat_eq, cond, List, [], ◌∷◌, length, map, take, filter, Some, None, refl, ap, sym, subst, ◌∙◌, take_all}
use Rattle.kit_trait.specs.declared.values.Pixels.{Pixels}
use Rattle.tile_key.specs.Places.{Place}
use Rattle.tile_cache.specs.declared.tiles.Tile.{Tile}
use Rattle.tile_cache.specs.declared.tiles.KeyEnd.{KeyEnd}
use Rattle.tile_cache.specs.declared.outs.Out.{Out}
use Rattle.tile_cache.specs.Cached.{Cached}
use Rattle.tile_cache.specs.Calls.{AreSized, outs_of, outs_but, end_of, ends_of, new_tiles, keep_all, finished}

-- a picture for each key
pub sized_length : (outs : List Out) (pictures : List Pixels) → AreSized outs pictures → length outs ≡ length pictures
sized_length [] [] sized = refl
sized_length [] (picture ∷ pictures) sized = absurd sized
sized_length (out ∷ outs) [] sized = absurd sized
sized_length (out ∷ outs) (picture ∷ pictures) sized = let rest = sized_length outs pictures sized.3 in omega (arith, rest)

-- the keys of the other jobs are no more than all
pub but_fewer : (ticket : ℕ) (outs : List Out) → length (outs_but ticket outs) ≤ length outs
but_fewer ticket [] = omega arith
but_fewer ticket (out ∷ outs) =
    let rest = but_fewer ticket outs in
    let go : (b : Bool) → length (cond b (out ∷ outs_but ticket outs) (outs_but ticket outs)) ≤ length (out ∷ outs) = elim [ true ↦ omega (arith, rest) | false ↦ omega (arith, rest) ] in
    go (not (nat_eq out.ticket ticket))

-- where no job has the ticket, none of the keys goes
none_goes : (ticket : ℕ) (outs : List Out) → filter (λ (out : Out). nat_eq out.ticket ticket) outs ≡ [] → outs_but ticket outs ≡ outs
none_goes ticket [] none = refl
none_goes ticket (out ∷ outs) none =
    let go : (b : Bool) → cond b (out ∷ filter (λ (other : Out). nat_eq other.ticket ticket) outs) (filter (λ (other : Out). nat_eq other.ticket ticket) outs) ≡ [] → cond (not b) (out ∷ outs_but ticket outs) (outs_but ticket outs) ≡ out ∷ outs = elim [
      | true ↦ λ one. cc
      | false ↦ λ rest. ap (λ (os : List Out). out ∷ os) (none_goes ticket outs rest)
    ] in go (nat_eq out.ticket ticket) none

pub stranger_is : (ticket : ℕ) (pictures : List Pixels) (cache : Cached) → outs_of ticket cache ≡ [] → length cache.tiles ≤ 256 → finished ticket pictures cache ≡ cache
stranger_is ticket pictures cache none few =
    ap (λ (os : List Out). let c : Cached = record cache { tiles = take 256 (keep_all (new_tiles os pictures) cache.tiles); outs = outs_but ticket cache.outs } in c) none
    ∙ (ap (λ (ts : List (Place × Tile)). let c : Cached = record cache { tiles = ts; outs = outs_but ticket cache.outs } in c) (take_all 256 cache.tiles few)
    ∙ ap (λ (os : List Out). let c : Cached = record cache { outs = os } in c) (none_goes ticket cache.outs none))

none_left : {X : Type 0} (xs : List X) → length xs ≡ 0 → xs ≡ []
none_left [] none = refl
none_left (x ∷ xs) none = absurd (omega (arith, none))

some_ends : (own : List Out) (ends : List KeyEnd) → 0 < length own → ends ≡ map end_of own → Some ends ≡ ends_of own
some_ends [] ends more is = absurd (omega (arith, more))
some_ends (out ∷ outs) ends more is = ap (λ (es : List KeyEnd). Some es) is

-- what a cache with these tiles and keys out answers and becomes
module _ (ticket : ℕ) (tiles : List (Place × Tile)) (outs : List Out) (next : ℕ) (cache : Cached) (view : record { tiles = tiles; outs = outs; next = next } ≡ cache) (own : List Out) (own_is : own ≡ filter (λ (out : Out). nat_eq out.ticket ticket) outs) where
  pub own_here : own ≡ outs_of ticket cache
  own_here = own_is ∙ ap (λ (c : Cached). outs_of ticket c) view

  pub stranger_answer : length own ≡ 0 → None ≡ ends_of (outs_of ticket cache)
  stranger_answer zero_own = ap ends_of (sym (none_left own zero_own) ∙ own_here)

  pub stranger_same : (pictures : List Pixels) → length own ≡ 0 → length tiles ≤ 256 → record { tiles = tiles; outs = outs; next = next } ≡ finished ticket pictures cache
  stranger_same pictures zero_own few =
      let none : outs_of ticket cache ≡ [] = sym own_here ∙ none_left own zero_own in
      let short : length cache.tiles ≤ 256 = subst (λ (c : Cached). length c.tiles ≤ 256) view few in
      view ∙ sym (stranger_is ticket pictures cache none short)

  pub keys_answer : (ends : List KeyEnd) → 0 < length own → ends ≡ map end_of own → Some ends ≡ ends_of (outs_of ticket cache)
  keys_answer ends more is = some_ends own ends more is ∙ ap ends_of own_here

  pub keys_kept : (pictures : List Pixels) (new kept : List (Place × Tile)) (others : List Out) → new ≡ new_tiles own pictures → kept ≡ take 256 (keep_all new tiles) → others ≡ outs_but ticket outs → record { tiles = kept; outs = others; next = next } ≡ finished ticket pictures cache
  keys_kept pictures new kept others new_is kept_is others_is =
      let all : kept ≡ take 256 (keep_all (new_tiles (filter (λ (out : Out). nat_eq out.ticket ticket) outs) pictures) tiles) = kept_is ∙ ap (λ (ns : List (Place × Tile)). take 256 (keep_all ns tiles)) (new_is ∙ ap (λ (os : List Out). new_tiles os pictures) own_is) in
      ap (λ (ts : List (Place × Tile)). let c : Cached = record { tiles = ts; outs = others; next = next } in c) all
      ∙ (ap (λ (os : List Out). let c : Cached = record { tiles = take 256 (keep_all (new_tiles (filter (λ (out : Out). nat_eq out.ticket ticket) outs) pictures) tiles); outs = os; next = next } in c) others_is
      ∙ ap (λ (c : Cached). finished ticket pictures c) view)
