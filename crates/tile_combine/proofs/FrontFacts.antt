-- How the first group of some keys is found, a key at a time.
use Rattle.std.proofs.Common.{◌≡◌, ℕ, zero, suc, ◌+◌, ◌-◌, ◌≤◌, ◌<◌, arith, Bool, true, false, List, [], ◌∷◌, length, take, drop, get_or, refl, ap, sym, ◌∙◌, if◌then◌else◌, length-take, drop_of_length-le, add-one}
use Rattle.tile_key.specs.Places.{Place, IsRun, IsGroup, no_place}
use Rattle.tile_combine.specs.Runs.{follows}
use Rattle.tile_combine.specs.Front.{following, front_of}
use Rattle.tile_combine.proofs.SameFacts.{follows_is}

pub drop_here : {X : Type 0} (xs : List X) (i : ℕ) (d : X) → i < length xs → drop i xs ≡ get_or xs i d ∷ drop (suc i) xs
drop_here [] i d low = absurd (omega (arith, low))
drop_here (x ∷ xs) zero d low = refl
drop_here (x ∷ xs) (suc i) d low = drop_here xs i d (omega (arith, low))

-- one more key follows
pub follows_on : (most : ℕ) (key other : Place) (others : List Place) → follows key other ≡ true → following (suc most) key (other ∷ others) ≡ suc (following most other others)
follows_on most key other others on = rw on refl

-- none does
pub follows_not : (most : ℕ) (key other : Place) (others : List Place) → follows key other ≡ false → following most key (other ∷ others) ≡ 0
follows_not zero key other others off = refl
follows_not (suc most) key other others off = rw off refl

pub follows_none : (most : ℕ) (key : Place) → following most key [] ≡ 0
follows_none zero key = refl
follows_none (suc most) key = refl

-- a step of the walk
pub goes_on : (keys : List Place) (most count : ℕ) (key d : Place) → count < length keys → follows key (get_or keys count d) ≡ true → following (suc most) key (drop count keys) ≡ suc (following most (get_or keys count d) (drop (suc count) keys))
goes_on keys most count key d low on = rw (drop_here keys count d low) (follows_on most key (get_or keys count d) (drop (suc count) keys) on)

pub ends : (keys : List Place) (most count : ℕ) (key d : Place) → count < length keys → follows key (get_or keys count d) ≡ false → following most key (drop count keys) ≡ 0
ends keys most count key d low off = rw (drop_here keys count d low) (follows_not most key (get_or keys count d) (drop (suc count) keys) off)

pub few : (most : ℕ) (key : Place) (keys : List Place) → following most key keys ≤ most
few zero key keys = omega arith
few (suc most) key [] = omega arith
few (suc most) key (other ∷ others) =
    let go : (b : Bool) → (if b then suc (following most other others) else 0) ≤ suc most = elim [
      | true ↦ omega (arith, few most other others)
      | false ↦ omega arith
    ] in go (follows key other)

pub within : (most : ℕ) (key : Place) (keys : List Place) → following most key keys ≤ length keys
within zero key keys = omega arith
within (suc most) key [] = omega arith
within (suc most) key (other ∷ others) =
    let go : (b : Bool) → (if b then suc (following most other others) else 0) ≤ suc (length others) = elim [
      | true ↦ omega (arith, within most other others)
      | false ↦ omega arith
    ] in go (follows key other)

get_or_same : {X : Type 0} (xs : List X) (i : ℕ) (d e : X) → i < length xs → get_or xs i d ≡ get_or xs i e
get_or_same [] i d e low = absurd (omega (arith, low))
get_or_same (x ∷ xs) zero d e low = refl
get_or_same (x ∷ xs) (suc i) d e low = get_or_same xs i d e (omega (arith, low))

-- what is known of the count: it counts keys, and as many as still follow make up the first group
abbrev pub IsCounted : List Place → ℕ → Type 0
IsCounted keys count = (d : Place) → front_of keys ≡ count + following (8 - count) (get_or keys (count - 1) d) (drop count keys)

pub counted_more : (keys : List Place) (count : ℕ) (key other : Place) → 1 ≤ count → count < 8 → count < length keys → key ≡ get_or keys (count - 1) key → other ≡ get_or keys count other → follows key other ≡ true → IsCounted keys count → IsCounted keys (count + 1)
counted_more keys count key other low high within first second on known d =
    let last : get_or keys (count - 1) d ≡ key = get_or_same keys (count - 1) d key (omega (arith, within)) ∙ sym first in
    let next : get_or keys count d ≡ other = get_or_same keys count d other within ∙ sym second in
    let left : 8 - count ≡ suc (8 - (count + 1)) = omega (arith, high) in
    let here : count + 1 - 1 ≡ count = omega arith in
    let test : follows (get_or keys (count - 1) d) (get_or keys count d) ≡ true = rw (last, next) on in
    let one : following (8 - count) (get_or keys (count - 1) d) (drop count keys) ≡ following (suc (8 - (count + 1))) (get_or keys (count - 1) d) (drop count keys) = ap (λ m. following m (get_or keys (count - 1) d) (drop count keys)) left in
    let two = goes_on keys (8 - (count + 1)) count (get_or keys (count - 1) d) d within test in
    let three : following (8 - (count + 1)) (get_or keys (count + 1 - 1) d) (drop (count + 1) keys) ≡ following (8 - (count + 1)) (get_or keys count d) (drop (suc count) keys) = rw (here, add-one) refl in
    omega (arith, known d, one, two, three)

pub counted_stop : (keys : List Place) (count : ℕ) (key other : Place) → 1 ≤ count → count < length keys → key ≡ get_or keys (count - 1) key → other ≡ get_or keys count other → follows key other ≡ false → IsCounted keys count → count ≡ front_of keys
counted_stop keys count key other low within first second off known =
    let test : follows (get_or keys (count - 1) key) (get_or keys count key) ≡ false = rw (sym first, get_or_same keys count key other within ∙ sym second) off in
    omega (arith, known key, ends keys (8 - count) count (get_or keys (count - 1) key) key within test)

pub counted_all : (keys : List Place) (count : ℕ) → length keys ≤ count → IsCounted keys count → count ≡ front_of keys
counted_all keys count all known =
    let none : following (8 - count) (get_or keys (count - 1) no_place) (drop count keys) ≡ 0 = rw (drop_of_length-le keys all) (follows_none (8 - count) (get_or keys (count - 1) no_place)) in
    omega (arith, known no_place, none)

pub counted_full : (keys : List Place) (count : ℕ) → count ≡ 8 → IsCounted keys count → count ≡ front_of keys
counted_full keys count full known =
    let none : following (8 - count) (get_or keys (count - 1) no_place) (drop count keys) ≡ 0 = rw full refl in
    omega (arith, known no_place, none)

-- the keys that follow are a run
pub are_run : (most : ℕ) (key : Place) (keys : List Place) → IsRun key (take (following most key keys) keys)
are_run zero key keys = tt
are_run (suc most) key [] = tt
are_run (suc most) key (other ∷ others) =
    let go : (b : Bool) → follows key other ≡ b → IsRun key (take (if b then suc (following most other others) else 0) (other ∷ others)) = elim [
      | true ↦ λ on. (follows_is key other on, are_run most other others)
      | false ↦ λ off. tt
    ] in go (follows key other) refl

pub front_some : (keys : List Place) → 0 < length keys → 0 < front_of keys
front_some [] some = some
front_some (key ∷ keys) some = omega arith

pub front_within : (keys : List Place) → front_of keys ≤ length keys
front_within [] = omega arith
front_within (key ∷ keys) = omega (arith, within 7 key keys)

pub front_group : (keys : List Place) → 0 < length keys → IsGroup (take (front_of keys) keys)
front_group [] some = absurd (omega (arith, some))
front_group (key ∷ keys) some = (omega (arith, few 7 key keys, length-take (following 7 key keys) keys), are_run 7 key keys)

pub ruleset fronts = (front_some, front_within, front_group)
