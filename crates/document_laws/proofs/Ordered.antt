-- Keys put in order: which there are, and how many of them pass a test.
use Rattle.std.proofs.Common.{◌≡◌, ◌≢◌, ◌<◌, ◌+◌, ℕ, suc, Bool, true, false, not, ◌&&◌, ◌||◌, cond, List, [], ◌∷◌, ◌++◌, length, All, AllPairs, refl, sym, ap, subst, ◌∙◌, inl, inr, arith}
use Rattle.std.specs.List.{count_by, AllByRecursion}
use Rattle.std.specs.Ordering.{is_lt}
use Rattle.std.proofs.lemmas.Bool.{cases_Bool}
use Rattle.std.proofs.lemmas.List.Sums.{sum_by-cons}
use Rattle.tile_key.specs.Places.{Place, key_order, same_place}
use Rattle.tile_key.specs.Visible.{IsBefore}
use Rattle.document_machine.proofs.Lists.{same_self}
use Rattle.document_machine.specs.Keys.{Pairwise, is_among, inserted, ordered}
use Rattle.document_laws.proofs.KeyOrder.{same_is, same_sym, before_apart, before_by, after_by, before_trans}

-- what two facts on each of a list give together
pub both : {X : Type 0} (P Q R : X → Type 0) (xs : List X) → ((x : X) → P x → Q x → R x)
    → AllByRecursion P xs → AllByRecursion Q xs → AllByRecursion R xs
both P Q R [] f ps qs = tt
both P Q R (x ∷ xs) f ps qs = (f x ps.0 qs.0, both P Q R xs f ps.1 qs.1)

-- what follows from a fact on each
pub weaker : {X : Type 0} (P Q : X → Type 0) (xs : List X) → ((x : X) → P x → Q x)
    → AllByRecursion P xs → AllByRecursion Q xs
weaker P Q [] f ps = tt
weaker P Q (x ∷ xs) f ps = (f x ps.0, weaker P Q xs f ps.1)

-- what holds of two lists holds of both together
pub all_both : {X : Type 0} (P : X → Type 0) (xs ys : List X) → AllByRecursion P xs
    → AllByRecursion P ys → AllByRecursion P (xs ++ ys)
all_both P [] ys a b = b
all_both P (x ∷ xs) ys a b = (a.0, all_both P xs ys a.1 b)

-- what holds of the keys of a list and of one more holds once that one is put in
pub all_inserted : (P : Place → Type 0) (list : List Place) (key : Place) → P key
    → AllByRecursion P list → AllByRecursion P (inserted list key)
all_inserted P [] key here all = (here, tt)
all_inserted P (other ∷ others) key here all =
    let go : (a b : Bool)
    → AllByRecursion P
    (cond a (key ∷ (other ∷ others)) (cond b (other ∷ others) (other ∷ inserted others key))) =
    elim [
      | true ↦ λ b. (here, all)
      | false ↦ elim [
        | true ↦ all
        | false ↦ (all.0, all_inserted P others key here all.1)
      ]
    ] in
    go (is_lt (key_order key other)) (same_place key other)

-- what holds of the keys of two lists holds once they are in one
pub all_ordered : (P : Place → Type 0) (keys list : List Place) → AllByRecursion P keys
    → AllByRecursion P list → AllByRecursion P (ordered keys list)
all_ordered P [] list all more = more
all_ordered P (key ∷ keys) list all more =
    all_ordered P keys (inserted list key) all.1 (all_inserted P list key all.0 more)

-- and what holds of the one list holds of the keys of both
inserted_all : (P : Place → Type 0) (list : List Place) (key : Place)
    → AllByRecursion P (inserted list key) → P key × AllByRecursion P list
inserted_all P [] key all = (all.0, tt)
inserted_all P (other ∷ others) key all =
    let go : (a b : Bool) → same_place key other ≡ b
    → AllByRecursion P
    (cond a (key ∷ (other ∷ others)) (cond b (other ∷ others) (other ∷ inserted others key)))
    → P key × AllByRecursion P (other ∷ others) = elim [
      | true ↦ λ b e is. (is.0, is.1)
      | false ↦ elim [
        | true ↦ λ e is. (subst P (sym (same_is key other e)) is.0, is)
        | false ↦ λ e is. let rest = inserted_all P others key is.1 in (rest.0, (is.0, rest.1))
      ]
    ] in
    go (is_lt (key_order key other)) (same_place key other) refl all

pub ordered_all : (P : Place → Type 0) (keys list : List Place)
    → AllByRecursion P (ordered keys list) → AllByRecursion P keys × AllByRecursion P list
ordered_all P [] list all = (tt, all)
ordered_all P (key ∷ keys) list all =
    let rest = ordered_all P keys (inserted list key) all in
    let here = inserted_all P list key rest.1 in
    ((here.0, rest.0), here.1)

-- a list has each of its keys
among_more : (key other : Place) (list : List Place) → is_among list key ≡ true
    → is_among (other ∷ list) key ≡ true
among_more key other list e =
    let go : (b : Bool) → (b || is_among list key) ≡ true = elim [
      | true ↦ refl
      | false ↦ e
    ] in
    go (same_place other key)

pub all_among : (list : List Place) → AllByRecursion (λ key. is_among list key ≡ true) list
all_among [] = tt
all_among (other ∷ others) =
    let here : is_among (other ∷ others) other ≡ true = rw (same_self other) refl in (
      here,
      weaker (λ key. is_among others key ≡ true)
          (λ key. is_among (other ∷ others) key ≡ true) others
          (λ key p. among_more key other others p) (all_among others),
    )

-- what is before all of a list is not in it
not_among : (key : Place) (list : List Place) → AllByRecursion (IsBefore key) list
    → is_among list key ≡ false
not_among key [] before = refl
not_among key (other ∷ others) before =
    let here : same_place other key ≡ false =
    same_sym other key ∙ before_apart key other before.0 in
    rw (here, not_among key others before.1) refl

-- what is before the first of a list in order is before all of it
before_all : (key other : Place) (others : List Place) → IsBefore key other
    → AllByRecursion (IsBefore other) others → AllByRecursion (IsBefore key) others
before_all key other others first rest =
    weaker (IsBefore other) (IsBefore key) others (λ q b. before_trans key other q first b) rest

-- a list stays in order
pub inserted_order : (list : List Place) (key : Place) → Pairwise IsBefore list
    → Pairwise IsBefore (inserted list key)
inserted_order [] key order = (tt, tt)
inserted_order (other ∷ others) key order =
    let go : (a b : Bool) → is_lt (key_order key other) ≡ a → same_place key other ≡ b
    → Pairwise IsBefore
    (cond a (key ∷ (other ∷ others)) (cond b (other ∷ others) (other ∷ inserted others key))) =
    elim [
      | true ↦ λ b less e. let first =
          before_by key other less in ((first, before_all key other others first order.0), order)
      | false ↦ elim [
        | true ↦ λ less e. order
        | false ↦ λ less e. (
          all_inserted (IsBefore other) others key
              (after_by key other less e) order.0,
          inserted_order others key order.1,
        )
      ]
    ] in
    go (is_lt (key_order key other)) (same_place key other) refl refl

-- one where the test passes, else none
abbrev pub one : Bool → ℕ
one b = cond b 1 0

-- a list has one more that passes where the key that was put in passes and wasn't there
count_inserted : (p : Place → Bool) (list : List Place) (key : Place) → Pairwise IsBefore list
    → count_by p (inserted list key) ≡ count_by p list + one (p key && not (is_among list key))
count_inserted p [] key order =
    let go : (b : Bool) → one b ≡ one (b && true) = elim [ true ↦ refl | false ↦ refl ] in
    rw (sum_by-cons (λ x. one (p x)) key []) (let e = go (p key) in omega arith)
count_inserted p (other ∷ others) key order =
    let here = sum_by-cons (λ x. one (p x)) other others in
    let front = sum_by-cons (λ x. one (p x)) key (other ∷ others) in
    let later = sum_by-cons (λ x. one (p x)) other (inserted others key) in
    let rest : count_by p (inserted others key)
    ≡ count_by p others + one (p key && not (is_among others key)) =
    count_inserted p others key order.1 in
    let go : (a b : Bool) → is_lt (key_order key other) ≡ a → same_place key other ≡ b
    → count_by p
    (cond a (key ∷ (other ∷ others)) (cond b (other ∷ others) (other ∷ inserted others key)))
    ≡ count_by p (other ∷ others) + one (p key && not (is_among (other ∷ others) key)) = elim [
      | true ↦ λ b less e.
          let first = before_by key other less in
          let none : is_among (other ∷ others) key ≡ false =
          not_among key (other ∷ others) (first, before_all key other others first order.0) in
          let all : (b : Bool) → one (b && true) ≡ one b = elim [ true ↦ refl | false ↦ refl ] in
          let same = all (p key) in
          rw none (omega (arith, front, same))
      | false ↦ elim [
        | true ↦ λ less e.
            let there : same_place other key ≡ true = same_sym other key ∙ e in
            let nothing : (b : Bool) → one (b && false) ≡ 0 = elim [ true ↦ refl | false ↦ refl ] in
            let same = nothing (p key) in
            rw there (omega (arith, same))
        | false ↦ λ less e.
            let away : same_place other key ≡ false = same_sym other key ∙ e in
            rw away (omega (arith, here, later, rest))
      ]
    ] in
    go (is_lt (key_order key other)) (same_place key other) refl refl

pub among_inserted : (list : List Place) (key x : Place)
    → is_among (inserted list key) x ≡ (is_among list x || same_place key x)
among_inserted [] key x = let go : (b : Bool) → (b || false) ≡ b =
    elim [ true ↦ refl | false ↦ refl ] in go (same_place key x)
among_inserted (other ∷ others) key x =
    let turn : (a b c : Bool) → (a || (b || c)) ≡ ((b || c) || a) =
    elim [
      | true ↦
          elim [ true ↦ λ c. refl | false ↦ elim [ true ↦ refl | false ↦ refl ] ]
      | false ↦
          elim [ true ↦ λ c. refl | false ↦ elim [ true ↦ refl | false ↦ refl ] ]
    ] in
    let join : (a b c : Bool) → (a || (b || c)) ≡ ((a || b) || c) =
    elim [ true ↦ λ b c. refl | false ↦ λ b c. refl ] in
    let have : (a b : Bool) → (a || b) ≡ ((a || b) || a) =
    elim [ true ↦ λ b. refl | false ↦ elim [ true ↦ refl | false ↦ refl ] ] in
    let go : (a b : Bool) → same_place key other ≡ b
    → is_among (cond a (key ∷ (other ∷ others))
    (cond b (other ∷ others) (other ∷ inserted others key))) x
    ≡ (is_among (other ∷ others) x || same_place key x) = elim [
      | true ↦ λ b e. turn (same_place key x) (same_place other x) (is_among others x)
      | false ↦ elim [
        | true ↦ λ e. let is : key ≡ other = same_is key other e in
            rw is (have (same_place other x) (is_among others x))
        | false ↦ λ e. ap (λ b. same_place other x || b) (among_inserted others key x)
            ∙ join (same_place other x) (is_among others x) (same_place key x)
      ]
    ] in
    go (is_lt (key_order key other)) (same_place key other) refl

-- how many of the keys pass and are not in the list
abbrev pub count_new : (Place → Bool) → List Place → List Place → ℕ
count_new p list keys = count_by (λ key. p key && not (is_among list key)) keys

-- a count goes by the answers of its test
pub count_same : (p q : Place → Bool) (P : Place → Type 0) (xs : List Place)
    → ((x : Place) → P x → p x ≡ q x) → AllByRecursion P xs → count_by p xs ≡ count_by q xs
count_same p q P [] same all = refl
count_same p q P (x ∷ xs) same all =
    let here : one (p x) ≡ one (q x) = ap one (same x all.0) in
    let rest : count_by p xs ≡ count_by q xs = count_same p q P xs same all.1 in
    omega (arith, here, rest, sum_by-cons (λ x. one (p x)) x xs, sum_by-cons (λ x. one (q x)) x xs)

-- of keys in order and asked keys, each once, as many pass as there are of the ones and of the
-- others that aren't there
pub count_ordered : (p : Place → Bool) (keys list : List Place) → Pairwise IsBefore list
    → Pairwise (λ x y. x ≢ y) keys
    → count_by p (ordered keys list) ≡ count_by p list + count_new p list keys
count_ordered p [] list order once = omega arith
count_ordered p (key ∷ keys) list order once =
    let rest : count_by p (ordered keys (inserted list key))
    ≡ count_by p (inserted list key) + count_new p (inserted list key) keys =
    count_ordered p keys (inserted list key) (inserted_order list key order) once.1 in
    let put : count_by p (inserted list key)
    ≡ count_by p list + one (p key && not (is_among list key)) =
    count_inserted p list key order in
    let none : (a b : Bool) → b ≡ false → (a || b) ≡ a =
    elim [ true ↦ λ b e. refl | false ↦ λ b e. e ] in
    let apart : (x : Place) → key ≢ x → same_place key x ≡ false =
    λ x away. elim
    (cases_Bool (same_place key x))
    [ inl same ↦ absurd (away (same_is key x same)) | inr off ↦ off ] in
    let same : count_new p (inserted list key) keys ≡ count_new p list keys =
    count_same (λ x. p x && not (is_among (inserted list key) x))
    (λ x. p x && not (is_among list x)) (λ x. key ≢ x) keys
    (λ x away. ap (λ b. p x && not b)
    (among_inserted list key x ∙ none (is_among list x) (same_place key x) (apart x away)))
    once.0 in
    omega (arith, rest, put, same, sum_by-cons (λ x. one (p x && not (is_among list x))) key keys)

-- what holds at each place holds of each
pub all_by : {X : Type 0} (P : X → Type 0) (xs : List X) → All P xs → AllByRecursion P xs
all_by P [] h = tt
all_by P (x ∷ xs) h =
    let first : 0 < length (x ∷ xs) = omega arith in
    let rest : All P xs = λ k d below. let b : suc k < length (x ∷ xs) = omega arith in
    h (suc k) d b in
    (h 0 x first, all_by P xs rest)

-- what holds of each pair by place holds pair by pair
pub pairwise_by : {X : Type 0} (R : X → X → Type 0) (xs : List X) → AllPairs R xs → Pairwise R xs
pairwise_by R [] h = tt
pairwise_by R (x ∷ xs) h =
    let first : All (R x) xs = λ k d below. let b : suc k < length (x ∷ xs) = omega arith in
    let a : 0 < suc k = omega arith in h 0 (suc k) d a b in
    let rest : AllPairs R xs = λ i j d before below. let b : suc j < length (x ∷ xs) =
    omega arith in let a : suc i < suc j = omega arith in h (suc i) (suc j) d a b in
    (all_by (R x) xs first, pairwise_by R xs rest)
