-- The places of two lists of positions, pair by pair.
use Rattle.std.proofs.Common.{◌≡◌, ◌∙◌, ℕ, ◌⊎◌, inl, inr, Bool, true, false, ◌&&◌, if◌then◌else◌, List, [], ◌∷◌, ◌++◌, map, zip, None, Some, refl, sym, ap, append_assoc, append-nil}
use Rattle.std.specs.List.{list_all}
use Rattle.tile_key.specs.Places.{Place}
use Rattle.cool_message.specs.declared.message.CombineWords.{CombineWords}
use Rattle.cool_message.specs.Asked.{place_at, is_key_of}

-- a test of two lists, one behind the other
all_joined : (p : Place → Bool) (a b : List Place) → list_all p a ≡ true → list_all p (a ++ b) ≡ list_all p b
all_joined p [] b all = refl
all_joined p (x ∷ a) b all =
    let go : (t : Bool) → (t && list_all p a) ≡ true → (t && list_all p (a ++ b)) ≡ list_all p b = elim [
      | true ↦ λ rest. all_joined p a b rest
      | false ↦ λ rest. absurd (cc)
    ] in
    go (p x) all

-- one of the two lists of positions is used up, so no pair is left
no_pair : {A B : Type 0} (xs : List A) (ys : List B) → (xs ≡ []) ⊎ (ys ≡ []) → zip xs ys ≡ []
no_pair [] ys h = refl
no_pair (x ∷ xs) [] h = refl
no_pair (x ∷ xs) (y ∷ ys) (inl e) = absurd (cc)
no_pair (x ∷ xs) (y ∷ ys) (inr e) = absurd (cc)

-- the key of one place, by the test
key_is : (b : Bool) (place key : Place) → (if b then Some place else None) ≡ Some key → (b ≡ true) × (key ≡ place)
key_is true place key e = (refl, (cc))
key_is false place key e = absurd (cc)

no_key_is : (b : Bool) (place : Place) → (if b then Some place else None) ≡ None → b ≡ false
no_key_is true place e = absurd (cc)
no_key_is false place e = refl

-- one place more, and it is a key
pub one_more : (w : CombineWords) (parts x y : ℕ) (xs ys xs' ys' : List ℕ) (keys : List Place) (place key : Place) (all : List Place)
    → list_all (is_key_of parts) keys ≡ true → keys ++ map (place_at w) (zip xs ys) ≡ all
    → xs ≡ x ∷ xs' → ys ≡ y ∷ ys' → place ≡ place_at w (x, y) → (if is_key_of parts place then Some place else None) ≡ Some key
    → (list_all (is_key_of parts) (keys ++ key ∷ []) ≡ true) × ((keys ++ key ∷ []) ++ map (place_at w) (zip xs' ys') ≡ all)
one_more w parts x y xs ys xs' ys' keys place key all good left xs_is ys_is place_is key_here =
    let both = key_is (is_key_of parts place) place key key_here in
    let test : is_key_of parts key ≡ true = ap (is_key_of parts) both.1 ∙ both.0 in
    let more : list_all (is_key_of parts) (keys ++ key ∷ []) ≡ true = all_joined (is_key_of parts) keys (key ∷ []) good ∙ rw test refl in
    let now : keys ++ place_at w (x, y) ∷ map (place_at w) (zip xs' ys') ≡ all = rw (xs_is, ys_is) at left in
    (more, append_assoc keys (key ∷ []) (map (place_at w) (zip xs' ys')) ∙ ap (λ p. keys ++ p ∷ map (place_at w) (zip xs' ys')) (both.1 ∙ place_is) ∙ now)

-- one place more, and it is no key
pub one_bad : (w : CombineWords) (parts x y : ℕ) (xs ys xs' ys' : List ℕ) (keys : List Place) (place : Place) (all : List Place)
    → list_all (is_key_of parts) keys ≡ true → keys ++ map (place_at w) (zip xs ys) ≡ all
    → xs ≡ x ∷ xs' → ys ≡ y ∷ ys' → place ≡ place_at w (x, y) → (if is_key_of parts place then Some place else None) ≡ None
    → None ≡ (if list_all (is_key_of parts) all then Some all else None)
one_bad w parts x y xs ys xs' ys' keys place all good left xs_is ys_is place_is none =
    let test : is_key_of parts (place_at w (x, y)) ≡ false = ap (is_key_of parts) (sym place_is) ∙ no_key_is (is_key_of parts place) place none in
    let now : keys ++ place_at w (x, y) ∷ map (place_at w) (zip xs' ys') ≡ all = rw (xs_is, ys_is) at left in
    let bad : list_all (is_key_of parts) all ≡ false = ap (list_all (is_key_of parts)) (sym now) ∙ all_joined (is_key_of parts) keys (place_at w (x, y) ∷ map (place_at w) (zip xs' ys')) good ∙ rw test refl in
    ap (λ (b : Bool). if b then Some all else None) (sym bad)

-- no place more
pub no_more : (w : CombineWords) (parts : ℕ) (xs ys : List ℕ) (keys all : List Place)
    → list_all (is_key_of parts) keys ≡ true → keys ++ map (place_at w) (zip xs ys) ≡ all → (xs ≡ []) ⊎ (ys ≡ [])
    → Some keys ≡ (if list_all (is_key_of parts) all then Some all else None)
no_more w parts xs ys keys all good left ends =
    let none : map (place_at w) (zip xs ys) ≡ [] = ap (map (place_at w)) (no_pair xs ys ends) in
    let same : keys ≡ all = sym (append-nil keys) ∙ ap (λ ps. keys ++ ps) (sym none) ∙ left in
    let test : list_all (is_key_of parts) all ≡ true = ap (list_all (is_key_of parts)) (sym same) ∙ good in
    ap Some same ∙ ap (λ (b : Bool). if b then Some all else None) (sym test)
