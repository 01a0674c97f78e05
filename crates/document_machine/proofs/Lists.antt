-- Keys in lists.
use Rattle.std.proofs.Common.{◌≡◌, ℕ, zero, suc, ◌+◌, ◌<◌, Bool, true, false, not, ◌||◌, cond, List, [], ◌∷◌, ◌++◌, length, take, drop, map, filter, find, get_or, None, Some, refl, ap, subst, ◌∙◌, arith, nat_eq, append_assoc}
use Rattle.std.specs.List.{list_any, insert, AllByRecursion}
use Rattle.std.specs.Ordering.{is_lt}
use Rattle.std.proofs.lemmas.List.{drop_more, take-append-drop}
use Rattle.std.proofs.lemmas.Map.Views.{any-filter_same}
use Rattle.tile_key.specs.Places.{Place, key_order, same_place}
use Rattle.document_machine.specs.Keys.{is_among, inserted}
use Rattle.send_window.proofs.Closing.{filter_le}
use Rattle.send_window.specs.Tiles.{Sent}

-- a number is itself
pub nat_eq_self : (n : ℕ) → nat_eq n n ≡ true
nat_eq_self n = grind arith

-- a place is itself
pub same_self : (p : Place) → same_place p p ≡ true
same_self p =
    rw (
      nat_eq_self p.part,
      nat_eq_self p.posy,
      nat_eq_self p.posx,
      nat_eq_self p.width,
      nat_eq_self p.height,
      nat_eq_self p.tilewidth,
      nat_eq_self p.tileheight,
      nat_eq_self p.nviewid,
    )
    refl

-- where the key belongs in front of the one at the place, it is put there
pub put_here : (keys : List Place) (i : ℕ) (key other : Place) → i < length keys → get_or keys i other ≡ other → is_lt (key_order key other) ≡ true → take i keys ++ inserted (drop i keys) key ≡ insert keys i key
put_here keys i key other here is less =
    let e : drop i keys ≡ other ∷ drop (i + 1) keys = drop_more keys i other here ∙ ap (λ k. k ∷ drop (i + 1) keys) is in
    rw e (rw less refl)

-- where the key is there already, nothing is put
pub put_not : (keys : List Place) (i : ℕ) (key other : Place) → i < length keys → get_or keys i other ≡ other → is_lt (key_order key other) ≡ false → same_place key other ≡ true → take i keys ++ inserted (drop i keys) key ≡ keys
put_not keys i key other here is more same =
    let e : drop i keys ≡ other ∷ drop (i + 1) keys = drop_more keys i other here ∙ ap (λ k. k ∷ drop (i + 1) keys) is in
    let t : inserted (drop i keys) key ≡ drop i keys = rw e (rw (more, same) refl) in
    ap (λ ks. take i keys ++ ks) t ∙ take-append-drop i keys

-- a test holds of what it finds
pub find_holds : {X : Type 0} (p : X → Bool) (xs : List X) (x : X) → find p xs ≡ Some x → p x ≡ true
find_holds p [] x e = cc
find_holds p (y ∷ ys) x e =
    let go : (b : Bool) → p y ≡ b → cond b (Some y) (find p ys) ≡ Some x → p x ≡ true = elim [
      | true ↦ λ is some. let same : y ≡ x = cc in rw (← same) is
      | false ↦ λ is some. find_holds p ys x some
    ] in
    go (p y) refl e

-- where nothing is found the test holds of nothing
pub find_fails : {X : Type 0} (P : X → Type 0) (p : X → Bool) (xs : List X) → find p xs ≡ None → AllByRecursion (λ x. p x ≡ true → P x) xs
find_fails P p [] e = tt
find_fails P p (y ∷ ys) e =
    let go : (b : Bool) → p y ≡ b → cond b (Some y) (find p ys) ≡ None → (p y ≡ true → P y) × AllByRecursion (λ x. p x ≡ true → P x) ys = elim [
      | true ↦ λ is none. absurd (cc)
      | false ↦ λ is none. ((λ yes. absurd (cc)), find_fails P p ys none)
    ] in
    go (p y) refl e

-- what holds of all keys holds of one of them
pub holds_among : (P : Place → Type 0) (keys : List Place) (key : Place) → ((p q : Place) → same_place p q ≡ true → P p → P q) → AllByRecursion P keys → is_among keys key ≡ true → P key
holds_among P [] key move all e = absurd (cc)
holds_among P (other ∷ others) key move all e =
    let go : (b : Bool) → same_place other key ≡ b → (b || list_any (λ k. same_place k key) others) ≡ true → P key = elim [
      | true ↦ λ is some. move other key is all.0
      | false ↦ λ is some. holds_among P others key move all.1 some
    ] in
    go (same_place other key) refl e

-- what is taken out is not there
pub taken_out : (keys : List Place) (key : Place) → is_among (filter (λ other. not (same_place other key)) keys) key ≡ false
taken_out keys key =
    any-filter_same (λ other. same_place other key) (λ other. not (same_place other key)) false (λ other is. rw is refl) keys

-- fewer keys are left once one of them is taken out
pub fewer : (keys : List Place) (key : Place) → is_among keys key ≡ true → length (filter (λ other. not (same_place other key)) keys) < length keys
fewer [] key e = absurd (cc)
fewer (other ∷ others) key e =
    let go : (b : Bool) → (b || list_any (λ k. same_place k key) others) ≡ true → length (cond (not b) (other ∷ filter (λ k. not (same_place k key)) others) (filter (λ k. not (same_place k key)) others)) < length (other ∷ others) = elim [
      | true ↦ λ some. omega (arith, filter_le (λ k. not (same_place k key)) others)
      | false ↦ λ some. omega (arith, fewer others key some)
    ] in
    go (same_place other key) e

-- numbers of tiles that are all named
pub any_here : (xs ys : List Sent) (tile : Sent) → list_any (λ wid. nat_eq wid tile.wid) (map (λ t. t.wid) (xs ++ tile ∷ ys)) ≡ true
any_here [] ys tile = rw (nat_eq_self tile.wid) refl
any_here (x ∷ xs) ys tile =
    let go : (b : Bool) → (b || list_any (λ wid. nat_eq wid tile.wid) (map (λ t. t.wid) (xs ++ tile ∷ ys))) ≡ true = elim [ true ↦ refl | false ↦ any_here xs ys tile ] in
    go (nat_eq x.wid tile.wid)

-- a window whose tiles are all named is empty after it
pub all_gone : (xs ys : List Sent) → filter (λ tile. not (list_any (λ wid. nat_eq wid tile.wid) (map (λ t. t.wid) (xs ++ ys)))) ys ≡ []
all_gone xs [] = refl
all_gone xs (y ∷ ys) =
    let rest : filter (λ tile. not (list_any (λ wid. nat_eq wid tile.wid) (map (λ t. t.wid) (xs ++ y ∷ ys)))) ys ≡ [] = rw (append_assoc xs (y ∷ []) ys) at (all_gone (xs ++ y ∷ []) ys) in
    rw (any_here xs ys y) rest

-- what holds of all and of one more
pub all_push : {X : Type 0} (P : X → Type 0) (xs : List X) (x : X) → AllByRecursion P xs → P x → AllByRecursion P (xs ++ x ∷ [])
all_push P [] x all p = (p, tt)
all_push P (y ∷ ys) x all p = (all.0, all_push P ys x all.1 p)

-- what holds of all holds of those that a filter keeps
pub all_filter : {X : Type 0} (P : X → Type 0) (p : X → Bool) (xs : List X) → AllByRecursion P xs → AllByRecursion P (filter p xs)
all_filter P p [] all = tt
all_filter P p (x ∷ xs) all =
    elim (p x) as (λ b. AllByRecursion P (cond b (x ∷ filter p xs) (filter p xs))) [
      | true ↦ (all.0, all_filter P p xs all.1)
      | false ↦ all_filter P p xs all.1
    ]

-- what holds of all holds of the one at a place
pub all_at : {X : Type 0} (P : X → Type 0) (xs : List X) (i : ℕ) (x : X) → AllByRecursion P xs → i < length xs → get_or xs i x ≡ x → P x
all_at P [] i x all lt is = absurd (omega arith)
all_at P (y ∷ ys) zero x all lt is = let same : y ≡ x = is in subst P same all.0
all_at P (y ∷ ys) (suc i) x all lt is = all_at P ys i x all.1 (omega arith) is

-- what always holds holds of all
pub all_any : {X : Type 0} (P : X → Type 0) (xs : List X) → ((x : X) → P x) → AllByRecursion P xs
all_any P [] f = tt
all_any P (x ∷ xs) f = (f x, all_any P xs f)
