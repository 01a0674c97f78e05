-- Looking a document up by its id.
use Rattle.std.proofs.Common.{◌≡◌, ◌≢◌, ℕ, zero, suc, ◌+◌, ◌<◌, ◌≤◌, Bool, true, false, None, Some}
use Rattle.std.proofs.Common.{List, [], ◌∷◌, ◌++◌, length, set, cond, eqb, refl, sym, ap, ◌∙◌}
use Rattle.std.proofs.Common.{arith}
use Rattle.std.specs.List.{remove}
use Rattle.std.proofs.lemmas.Bool.{eqb-true}
use Rattle.std.proofs.lemmas.List.Quantifiers.{position-Some}
use Rattle.hall_machine.specs.Machine.{Desk, nobody, desk_at, place_of}
use Rattle.hall_machine.specs.Ids.{AreRising}
use Rattle.hall_laws.specs.History.{desk_of}

pub same_eqb : (n : ℕ) → eqb n n ≡ true
same_eqb n = grind arith

pub apart_eqb : (m n : ℕ) → m ≢ n → eqb m n ≡ false
apart_eqb m n h = grind arith

both : {A : Type 0} (b : Bool) (x y : A) → cond b x y ≡ cond b x (cond b x y)
both true x y = refl
both false x y = refl

twice : {A : Type 0} (b : Bool) (x y z : A) → cond b x z ≡ cond b x (cond b y z)
twice true x y z = refl
twice false x y z = refl

-- two tests that don't both pass may be made in either order
swap : {A : Type 0} (b c : Bool) (x y z : A) → ((b ≡ true) → (c ≡ true) → ⊥)
    → cond b x (cond c y z) ≡ cond c y (cond b x z)
swap true true x y z h = absurd (h refl refl)
swap true false x y z h = refl
swap false true x y z h = refl
swap false false x y z h = refl

not_both : (a d doc : ℕ) → eqb a d ≡ false → (eqb a doc ≡ true) → (eqb d doc ≡ true) → ⊥
not_both a d doc h p q = grind arith

-- a document at its place is the one that is found
pub lookup_at : (d i : ℕ) (xs : List Desk) → i < length xs → (desk_at xs i).doc ≡ d
    → ((k : ℕ) → k < i → eqb (desk_at xs k).doc d ≡ false) → desk_of d xs ≡ Some (desk_at xs i)
lookup_at d i [] lt here before = absurd (omega (arith, lt))
lookup_at d zero (x ∷ xs) lt here before = ap (λ b. cond b (Some x) (desk_of d xs))
    (ap (λ e. eqb e d) here ∙ same_eqb d)
lookup_at d (suc i) (x ∷ xs) lt here before =
    ap (λ b. cond b (Some x) (desk_of d xs)) (before 0 (omega arith))
    ∙ lookup_at d i xs (omega (arith, lt)) here (λ k l. before (suc k) (omega (arith, l)))

pub lookup_none : (d : ℕ) (xs : List Desk)
    → ((k : ℕ) → k < length xs → eqb (desk_at xs k).doc d ≡ false) → desk_of d xs ≡ None
lookup_none d [] all = refl
lookup_none d (x ∷ xs) all = ap (λ b. cond b (Some x) (desk_of d xs)) (all 0 (omega arith))
    ∙ lookup_none d xs (λ k l. all (suc k) (omega (arith, l)))

pub lookup_set : (d doc i : ℕ) (xs : List Desk) (y : Desk) → i < length xs → (desk_at xs i).doc ≡ d
    → y.doc ≡ d → ((k : ℕ) → k < i → eqb (desk_at xs k).doc d ≡ false)
    → desk_of doc (set xs i y) ≡ cond (eqb d doc) (Some y) (desk_of doc xs)
lookup_set d doc i [] y lt here there before = absurd (omega (arith, lt))
lookup_set d doc zero (x ∷ xs) y lt here there before =
    ap (λ e. cond (eqb e doc) (Some y) (desk_of doc xs)) there
    ∙ (twice (eqb d doc) (Some y) (Some x) (desk_of doc xs)
    ∙ ap (λ e. cond (eqb d doc) (Some y) (cond (eqb e doc) (Some x) (desk_of doc xs)))
    (sym here))
lookup_set d doc (suc i) (x ∷ xs) y lt here there before =
    ap (cond (eqb x.doc doc) (Some x))
    (lookup_set d doc i xs y (omega (arith, lt)) here there
    (λ k l. before (suc k) (omega (arith, l))))
    ∙ swap (eqb x.doc doc) (eqb d doc) (Some x) (Some y) (desk_of doc xs)
    (not_both x.doc d doc (before 0 (omega arith)))

-- no id below the list's is found
pub lookup_below : (d low : ℕ) (xs : List Desk) (high : ℕ) → d < low → AreRising low xs high
    → desk_of d xs ≡ None
lookup_below d low [] high lt h = refl
lookup_below d low (x ∷ xs) high lt h =
    ap (λ b. cond b (Some x) (desk_of d xs)) (apart_eqb x.doc d (omega (arith, lt, h.0)))
    ∙ lookup_below d (x.doc + 1) xs high (omega (arith, lt, h.0)) h.1

pub rising_le : (low : ℕ) (xs : List Desk) (high : ℕ) → AreRising low xs high → low ≤ high
rising_le low [] high h = h
rising_le low (x ∷ xs) high h = omega (arith, h.0, rising_le (x.doc + 1) xs high h.1)

-- nor one that wasn't given yet
pub lookup_above : (d low : ℕ) (xs : List Desk) (high : ℕ) → high ≤ d → AreRising low xs high
    → desk_of d xs ≡ None
lookup_above d low [] high le h = refl
lookup_above d low (x ∷ xs) high le h =
    let r = rising_le (x.doc + 1) xs high h.1 in
    ap (λ b. cond b (Some x) (desk_of d xs)) (apart_eqb x.doc d (omega (arith, le, r)))
    ∙ lookup_above d (x.doc + 1) xs high le h.1

pub lookup_push : (doc low : ℕ) (xs : List Desk) (high : ℕ) (x : Desk) → x.doc ≡ high
    → AreRising low xs high
    → desk_of doc (xs ++ x ∷ []) ≡ cond (eqb high doc) (Some x) (desk_of doc xs)
lookup_push doc low [] high x is h = ap (λ e. cond (eqb e doc) (Some x) None) is
lookup_push doc low (y ∷ ys) high x is h =
    ap (cond (eqb y.doc doc) (Some y)) (lookup_push doc (y.doc + 1) ys high x is h.1)
    ∙ swap (eqb y.doc doc) (eqb high doc) (Some y) (Some x) (desk_of doc ys)
    (not_both y.doc high doc
    (apart_eqb y.doc high (omega (arith, rising_le (y.doc + 1) ys high h.1))))

first_gone : (x : Desk) (d doc : ℕ) (xs : List Desk) → x.doc ≡ d → desk_of x.doc xs ≡ None
    → (b : Bool) → eqb d doc ≡ b
    → desk_of doc xs ≡ cond b None (cond (eqb x.doc doc) (Some x) (desk_of doc xs))
first_gone x d doc xs here none true is = ap (λ e. desk_of e xs)
    (sym (eqb-true d doc is) ∙ sym here) ∙ none
first_gone x d doc xs here none false is = ap (λ b. cond b (Some x) (desk_of doc xs))
    (sym (ap (λ e. eqb e doc) here ∙ is))

pub lookup_remove : (d doc low i : ℕ) (xs : List Desk) (high : ℕ) → i < length xs
    → (desk_at xs i).doc ≡ d → ((k : ℕ) → k < i → eqb (desk_at xs k).doc d ≡ false)
    → AreRising low xs high
    → desk_of doc (remove xs i) ≡ cond (eqb d doc) None (desk_of doc xs)
lookup_remove d doc low i [] high lt here before h = absurd (omega (arith, lt))
lookup_remove d doc low zero (x ∷ xs) high lt here before h = first_gone x d doc xs here
    (lookup_below x.doc (x.doc + 1) xs high (omega arith) h.1) (eqb d doc) refl
lookup_remove d doc low (suc i) (x ∷ xs) high lt here before h =
    ap (cond (eqb x.doc doc) (Some x))
    (lookup_remove d doc (x.doc + 1) i xs high (omega (arith, lt)) here
    (λ k l. before (suc k) (omega (arith, l))) h.1)
    ∙ swap (eqb x.doc doc) (eqb d doc) (Some x) None (desk_of doc xs)
    (not_both x.doc d doc (before 0 (omega arith)))

-- where the machine finds a document, it is the one that is found by its id
pub place_facts : (d i : ℕ) (xs : List Desk) → place_of d xs ≡ Some i → (i < length xs)
    × ((desk_at xs i).doc ≡ d) × ((k : ℕ) → k < i → eqb (desk_at xs k).doc d ≡ false)
place_facts d i xs e =
    let p = position-Some (λ (x : Desk). eqb x.doc d) xs i nobody e in
    (p.0, eqb-true (desk_at xs i).doc d p.1, p.2)
