-- What holds of the tiles that are kept, and of what is on screens, once tiles are sent or kept.
use Rattle.std.proofs.Common.{◌≡◌, ◌≢◌, ℕ, zero, suc, ◌≤◌, Bool, true, false, not, ◌||◌, cond, List, [], ◌∷◌, length, take, map, filter, Some, refl, sym, subst, arith, inl, inr}
use Rattle.std.specs.List.{AllByRecursion}
use Rattle.std.proofs.lemmas.Bool.{cases_Bool}
use Rattle.send_window.proofs.Closing.{filter_le}
use Rattle.kit_trait.specs.Rules.{Rules}
use Rattle.tile_key.specs.Places.{Place, same_place}
use Rattle.document_machine.proofs.Lists.{all_filter, same_self}
use Rattle.document_machine.specs.Due.{asked_after, is_current, screen_after, sent, takes, visible}
use Rattle.document_machine.specs.Held.{KeptTile, kept_version, with_kept, with_painted}
use Rattle.document_machine.specs.Keys.{Pairwise, is_among}
use Rattle.document_machine.specs.State.{Shown, View, Document}
use Rattle.document_machine.specs.Step.{offered, views_offered}
use Rattle.document_laws.proofs.KeptViews.{screen_all}
use Rattle.document_laws.proofs.KeyOrder.{not_same, same_is}
use Rattle.document_laws.proofs.Ordered.{both}
use Rattle.document_laws.proofs.Views.{pairwise_filter}

-- P holds of all that is on the views' screens
abbrev pub OnScreens : (Shown → Type 0) → List View → Type 0
OnScreens P views = AllByRecursion (λ view. AllByRecursion P view.screen) views

screen_put : (P : Shown → Type 0) (screen : List Shown) (key : Place) (version : ℕ) (wanted : Bool)
    → P (record { key = key; version = version }) → AllByRecursion P screen
    → AllByRecursion P (screen_after screen key version wanted)
screen_put P screen key version true here all = screen_all P screen key version here all
screen_put P screen key version false here all =
    all_filter P (λ shown. not (same_place shown.key key)) screen all

module _ {C B S : Type 0} (rules : Rules C B) (d : Document S) (n : ℕ) (P : Shown → Type 0) where
  -- once a tile was sent
  pub sent_on : (key : Place) (view : View) → P (record { key = key; version = n })
      → AllByRecursion P view.screen → AllByRecursion P (sent rules d n key view).screen
  sent_on key view here all =
      screen_put P view.screen key n
      (is_among (visible rules d view) key
      || is_among (asked_after view.asked key (is_current rules d n key)) key) here all

  offered_on : (key : Place) (view : View) → P (record { key = key; version = n })
      → AllByRecursion P view.screen → AllByRecursion P (offered rules d n key view).screen
  offered_on key view here all =
      elim (takes rules d n key view) as
      (λ b. AllByRecursion P (cond b (sent rules d n key view) view).screen) [
        | true ↦ sent_on key view here all
        | false ↦ all
      ]

  map_on : (key : Place) (views : List View) → P (record { key = key; version = n })
      → OnScreens P views → OnScreens P (map (offered rules d n key) views)
  map_on key [] here all = tt
  map_on key (view ∷ views) here all = (offered_on key view here all.0, map_on key views here all.1)

  -- once painted tiles were offered
  pub offers_on : (keys : List Place) (views : List View)
      → AllByRecursion (λ key. P (record { key = key; version = n })) keys → OnScreens P views
      → OnScreens P (views_offered rules d n keys views)
  offers_on [] views here all = all
  offers_on (key ∷ keys) views here all =
      offers_on keys (map (offered rules d n key) views) here.1 (map_on key views here.0 all)

-- two tiles are of two keys
abbrev pub AreOfTwo : KeptTile → KeptTile → Type 0
AreOfTwo a b = a.key ≢ b.key

away : (tiles : List KeptTile) (key : Place)
    → AllByRecursion (λ tile. key ≢ tile.key) (filter (λ tile. not (same_place tile.key key)) tiles)
away [] key = tt
away (t ∷ ts) key =
    let rest = away ts key in
    let go : (b : Bool) → same_place t.key key ≡ b
    → AllByRecursion (λ (tile : KeptTile). key ≢ tile.key)
    (cond (not b) (t ∷ filter (λ (tile : KeptTile). not (same_place tile.key key)) ts)
    (filter (λ (tile : KeptTile). not (same_place tile.key key)) ts)) = elim [
      | true ↦ λ e. rest
      | false ↦ λ e. ((λ is. not_same t.key key e (sym is)), rest)
    ] in
    go (same_place t.key key) refl

-- each key is kept once
pub once_with : (tiles : List KeptTile) (key : Place) (version : ℕ) → Pairwise AreOfTwo tiles
    → Pairwise AreOfTwo (with_kept tiles key version)
once_with tiles key version once =
    (away tiles key, pairwise_filter AreOfTwo (λ tile. not (same_place tile.key key)) tiles once)

-- what holds of all of them and of one more
pub all_with : (Q : KeptTile → Type 0) (tiles : List KeptTile) (key : Place) (version : ℕ)
    → Q (record { key = key; version = version }) → AllByRecursion Q tiles
    → AllByRecursion Q (with_kept tiles key version)
all_with Q tiles key version here all =
    (here, all_filter Q (λ tile. not (same_place tile.key key)) tiles all)

-- the same where it need hold of no other tile of the key
pub all_others : (Q R : KeptTile → Type 0) (tiles : List KeptTile) (key : Place)
    → ((tile : KeptTile) → key ≢ tile.key → Q tile → R tile) → AllByRecursion Q tiles
    → AllByRecursion R (filter (λ tile. not (same_place tile.key key)) tiles)
all_others Q R tiles key imp all =
    both (λ tile. key ≢ tile.key) Q R (filter (λ tile. not (same_place tile.key key)) tiles) imp
    (away tiles key) (all_filter Q (λ tile. not (same_place tile.key key)) tiles all)

module _ {C B S : Type 0} (rules : Rules C B) (d : Document S) (n : ℕ) where
  -- once painted tiles came
  pub all_painted : (Q : KeptTile → Type 0) (keys : List Place) (tiles : List KeptTile)
      → AllByRecursion
      (λ key. is_current rules d n key ≡ true → Q (record { key = key; version = n })) keys
      → AllByRecursion Q tiles → AllByRecursion Q (with_painted rules d n keys tiles)
  all_painted Q [] tiles here all = all
  all_painted Q (key ∷ keys) tiles here all =
      let go : (b : Bool) → is_current rules d n key ≡ b
      → AllByRecursion Q (cond b (with_kept tiles key n) tiles) = elim [
        | true ↦ λ current. all_with Q tiles key n (here.0 current) all
        | false ↦ λ not_current. all
      ] in
      all_painted Q keys (cond (is_current rules d n key) (with_kept tiles key n) tiles) here.1
      (go (is_current rules d n key) refl)

  pub once_painted : (keys : List Place) (tiles : List KeptTile) → Pairwise AreOfTwo tiles
      → Pairwise AreOfTwo (with_painted rules d n keys tiles)
  once_painted [] tiles once = once
  once_painted (key ∷ keys) tiles once =
      let go : (b : Bool) → Pairwise AreOfTwo (cond b (with_kept tiles key n) tiles) = elim [
        | true ↦ once_with tiles key n once
        | false ↦ once
      ] in
      once_painted keys (cond (is_current rules d n key) (with_kept tiles key n) tiles)
      (go (is_current rules d n key))

-- the first so many
pub take_few : {X : Type 0} (n : ℕ) (xs : List X) → length (take n xs) ≤ n
take_few zero xs = omega arith
take_few (suc n) [] = omega arith
take_few (suc n) (x ∷ xs) = omega (arith, take_few n xs)

pub all_take : {X : Type 0} (P : X → Type 0) (n : ℕ) (xs : List X) → AllByRecursion P xs
    → AllByRecursion P (take n xs)
all_take P zero xs all = tt
all_take P (suc n) [] all = tt
all_take P (suc n) (x ∷ xs) all = (all.0, all_take P n xs all.1)

pub pairwise_take : {X : Type 0} (R : X → X → Type 0) (n : ℕ) (xs : List X) → Pairwise R xs
    → Pairwise R (take n xs)
pairwise_take R zero xs order = tt
pairwise_take R (suc n) [] order = tt
pairwise_take R (suc n) (x ∷ xs) order = (all_take (R x) n xs order.0, pairwise_take R n xs order.1)

-- what holds of all kept tiles holds of the one of a key
pub found_tile : (Q : KeptTile → Type 0) (tiles : List KeptTile) (key : Place) (version : ℕ)
    → AllByRecursion Q tiles → kept_version tiles key ≡ Some version
    → Q (record { key = key; version = version })
found_tile Q [] key version all e = absurd (cc)
found_tile Q (t ∷ ts) key version all e =
    let go : (b : Bool) → same_place t.key key ≡ b
    → cond b (Some t.version) (kept_version ts key) ≡ Some version
    → Q (record { key = key; version = version }) = elim [
      | true ↦ λ same is.
          let key_is : t.key ≡ key = same_is t.key key same in
          let version_is : t.version ≡ version = cc in
          subst (λ n. Q (record { key = key; version = n })) version_is
          (subst (λ k. Q (record { key = k; version = t.version })) key_is all.0)
      | false ↦ λ apart is. found_tile Q ts key version all.1 is
    ] in
    go (same_place t.key key) refl e

-- one that is used again isn't one more
pub fewer_tiles : (tiles : List KeptTile) (key : Place) (version : ℕ)
    → kept_version tiles key ≡ Some version → length (with_kept tiles key version) ≤ length tiles
fewer_tiles [] key version e = absurd (cc)
fewer_tiles (t ∷ ts) key version e =
    let others : List KeptTile = filter (λ (tile : KeptTile). not (same_place tile.key key)) ts in
    let go : (b : Bool) → cond b (Some t.version) (kept_version ts key) ≡ Some version
    → length (with_kept ts key version) ≤ suc (length ts)
    → suc (length (cond (not b) (t ∷ others) others)) ≤ suc (length ts) = elim [
      | true ↦ λ is few. omega
          (arith, filter_le (λ (tile : KeptTile). not (same_place tile.key key)) ts)
      | false ↦ λ is few. omega (arith, fewer_tiles ts key version is)
    ] in
    go (same_place t.key key) e
    (omega (arith, filter_le (λ (tile : KeptTile). not (same_place tile.key key)) ts))

-- two keys are not the same place
pub apart_by : (p q : Place) → p ≢ q → same_place p q ≡ false
apart_by p q apart =
    elim (cases_Bool (same_place p q))
    [ inl same ↦ absurd (apart (same_is p q same)) | inr off ↦ off ]

-- each is found by its key
pub tiles_found : (tiles : List KeptTile) → Pairwise AreOfTwo tiles
    → AllByRecursion (λ tile. kept_version tiles tile.key ≡ Some tile.version) tiles
tiles_found [] once = tt
tiles_found (t ∷ ts) once =
    let here : kept_version (t ∷ ts) t.key ≡ Some t.version = rw (same_self t.key) refl in (
      here,
      both (λ u. t.key ≢ u.key) (λ u. kept_version ts u.key ≡ Some u.version)
          (λ u. kept_version (t ∷ ts) u.key ≡ Some u.version) ts
          (λ u apart is. let off : same_place t.key u.key ≡ false = apart_by t.key u.key apart in
          rw off is) once.0 (tiles_found ts once.1),
    )
