-- Walks: a shorter one begins where a longer one does, and from some number of steps on all are alike.
use Rattle.std.proofs.Common.{◌≡◌, ◌⊎◌, ◌↔◌, ℕ, zero, suc, ◌+◌, ◌<◌, ◌≤◌, Bool, true, false, ◌||◌, List, [], ◌∷◌, length, refl, sym, ap, ◌∙◌, inl, inr, ⊎_elim, arith}
use Rattle.std.specs.List.{AllByRecursion, Contains, list_any}
use Rattle.std.proofs.lemmas.Bool.{or_left, or_right}
use Rattle.std.proofs.lemmas.List.Elements.{All-contains, All-from_recursion}
use Rattle.calc_base.specs.Walks.{walks, circular}
use Rattle.calc_base.specs.Laws.{Covers}
use Rattle.calc_base.proofs.Counting.{count, Narrows, count_le_length, same_or_fewer}

or_narrows : (a b c d : Bool) → (a ≡ true → b ≡ true) → (c ≡ true → d ≡ true) → (a || c) ≡ true → (b || d) ≡ true
or_narrows true b c d f g e = or_left b d (f refl)
or_narrows false b c d f g e = or_right b d (g e)

pub any_narrows : {K : Type 0} (q p : K → Bool) → Narrows q p → (xs : List K) → list_any q xs ≡ true → list_any p xs ≡ true
any_narrows q p narrows [] e = e
any_narrows q p narrows (x ∷ xs) e = or_narrows (q x) (p x) (list_any q xs) (list_any p xs) (narrows x) (any_narrows q p narrows xs) e

pub any_same : {K : Type 0} (q p : K → Bool) → ((x : K) → q x ≡ p x) → (xs : List K) → list_any q xs ≡ list_any p xs
any_same q p same [] = refl
any_same q p same (x ∷ xs) = ap (λ (b : Bool). b || list_any q xs) (same x) ∙ ap (λ (b : Bool). p x || b) (any_same q p same xs)

pub walks_shorter : {K : Type 0} (reads : K → List K) → (n : ℕ) → Narrows (walks reads (suc n)) (walks reads n)
walks_shorter reads zero c e = refl
walks_shorter reads (suc n) c e = any_narrows (walks reads (suc n)) (walks reads n) (walks_shorter reads n) (reads c) e

-- cells each of which reads one of them have walks of every length
pub stuck : {K : Type 0} (reads : K → List K) (p : K → Bool) → ((c : K) → p c ≡ true → list_any p (reads c) ≡ true) → (n : ℕ) → Narrows p (walks reads n)
stuck reads p waits zero c e = refl
stuck reads p waits (suc n) c e = any_narrows p (walks reads n) (stuck reads p waits n) (reads c) (waits c e)

-- a walk of n + 1 steps goes on for one more
IsStable : {K : Type 0} → (K → List K) → ℕ → Type 0
IsStable {K} reads n = (c : K) → walks reads (suc (suc n)) c ≡ walks reads (suc n) c

stable_more : {K : Type 0} (reads : K → List K) (n : ℕ) → IsStable reads n → IsStable reads (suc n)
unfolding IsStable
stable_more reads n stable c = any_same (walks reads (suc (suc n))) (walks reads (suc n)) stable (reads c)

stable_from : {K : Type 0} (reads : K → List K) (formulas : List K) → Covers reads formulas → (n : ℕ) → AllByRecursion (λ f. walks reads (suc (suc n)) f ≡ walks reads (suc n) f) formulas → IsStable reads n
unfolding IsStable
stable_from {K} reads formulas covers n same c =
    let P = λ (f : K). walks reads (suc (suc n)) f ≡ walks reads (suc n) f in
    ⊎_elim
    (λ (none : reads c ≡ []). ap (list_any (walks reads (suc n))) none ∙ sym (ap (list_any (walks reads n)) none))
    (λ (here : Contains formulas c). All-contains P formulas c (All-from_recursion P formulas same) here)
    (covers c)

-- each step more that isn't stable is passed by one formula cell fewer
settles : {K : Type 0} (reads : K → List K) (formulas : List K) → Covers reads formulas → (n : ℕ) → IsStable reads n ⊎ (count (walks reads (suc n)) formulas + n ≤ length formulas)
settles reads formulas covers zero = inr (omega (arith, count_le_length (walks reads 1) formulas))
settles {K} reads formulas covers (suc n) =
    ⊎_elim
    (λ (stable : IsStable reads n). inl (stable_more reads n stable))
    (λ (few : count (walks reads (suc n)) formulas + n ≤ length formulas).
    ⊎_elim
    (λ (same : AllByRecursion (λ f. walks reads (suc (suc n)) f ≡ walks reads (suc n) f) formulas).
    inl (stable_more reads n (stable_from reads formulas covers n same)))
    (λ (fewer : count (walks reads (suc (suc n))) formulas < count (walks reads (suc n)) formulas). inr (omega arith))
    (same_or_fewer (walks reads (suc (suc n))) (walks reads (suc n)) (walks_shorter reads (suc n)) formulas))
    (settles reads formulas covers n)

stable : {K : Type 0} (reads : K → List K) (formulas : List K) → Covers reads formulas → IsStable reads (length formulas)
stable {K} reads formulas covers =
    let n = length formulas in
    ⊎_elim
    (λ (done : IsStable reads n). done)
    (λ (few : count (walks reads (suc n)) formulas + n ≤ n).
    ⊎_elim
    (λ (same : AllByRecursion (λ f. walks reads (suc (suc n)) f ≡ walks reads (suc n) f) formulas). stable_from reads formulas covers n same)
    (λ (fewer : count (walks reads (suc (suc n))) formulas < count (walks reads (suc n)) formulas). absurd (omega arith))
    (same_or_fewer (walks reads (suc (suc n))) (walks reads (suc n)) (walks_shorter reads (suc n)) formulas))
    (settles reads formulas covers n)

-- a cell is circular exactly where it reads a circular cell
pub circular_step : {K : Type 0} (reads : K → List K) (formulas : List K) → Covers reads formulas → (c : K) → circular reads formulas c ≡ list_any (circular reads formulas) (reads c)
unfolding circular IsStable
circular_step reads formulas covers c = sym (stable reads formulas covers c)

-- walks of every length begin at a circular cell
pub circular_endless : {K : Type 0} (reads : K → List K) (formulas : List K) → Covers reads formulas → (n : ℕ) → Narrows (circular reads formulas) (walks reads n)
circular_endless reads formulas covers n =
    stuck reads (circular reads formulas) (λ c e. sym (circular_step reads formulas covers c) ∙ e) n

-- and a cell at which they begin is circular
pub circular_from : {K : Type 0} (reads : K → List K) (formulas : List K) → (p : K → Bool) → ((c : K) → p c ≡ true → list_any p (reads c) ≡ true) → Narrows p (circular reads formulas)
unfolding circular
circular_from reads formulas p waits = stuck reads p waits (suc (length formulas))

pub circular_iff : {K : Type 0} (reads : K → List K) (formulas : List K) → Covers reads formulas → (c : K) → circular reads formulas c ≡ true ↔ ((n : ℕ) → walks reads n c ≡ true)
unfolding circular
circular_iff reads formulas covers c = (λ e n. circular_endless reads formulas covers n c e, λ endless. endless (suc (length formulas)))
