-- Sums over views and jobs, and how they compare.
use Rattle.std.proofs.Common.{◌≡◌, ℕ, ◌+◌, ◌-◌, ◌*◌, ◌<◌, ◌≤◌, Bool, true, false, ◌||◌, cond, nat_eq, List, [], ◌∷◌, length, map, Some, refl, ap, arith}
use Rattle.std.specs.List.{list_any, count_by, sum_by, AllByRecursion}
use Rattle.std.proofs.lemmas.List.Sums.{sum_by-cons}
use Rattle.std.proofs.lemmas.Nat.{mul-le}
use Rattle.document_machine.specs.State.{View, find_view, with_view}
use Rattle.document_laws.proofs.Ordered.{one}

-- one that passes counts for no more than one that passes a weaker test
pub one_le : (a b : Bool) → (a ≡ true → b ≡ true) → one a ≤ one b
one_le true b f = let e : b ≡ true = f refl in rw e (omega arith)
one_le false b f = omega arith

-- a sum of smaller numbers is no larger
pub sum_le : {X : Type 0} (f g : X → ℕ) (xs : List X) → ((x : X) → f x ≤ g x)
    → sum_by f xs ≤ sum_by g xs
sum_le f g [] le = omega arith
sum_le f g (x ∷ xs) le =
    omega (arith, le x, sum_le f g xs le, sum_by-cons f x xs, sum_by-cons g x xs)

-- the same where something holds of each, and of what becomes of each
pub sum_map_le : {X : Type 0} (P : X → Type 0) (f g : X → ℕ) (change : X → X) (xs : List X)
    → ((x : X) → P x → f (change x) ≤ g x) → AllByRecursion P xs
    → sum_by f (map change xs) ≤ sum_by g xs
sum_map_le P f g change [] le all = omega arith
sum_map_le P f g change (x ∷ xs) le all =
    omega (
      arith,
      le x all.0,
      sum_map_le P f g change xs le all.1,
      sum_by-cons f (change x)
          (map change xs),
      sum_by-cons g x xs,
    )

-- what holds of what becomes of each
pub map_all : {X : Type 0} (P : X → Type 0) (change : X → X) (xs : List X)
    → ((x : X) → P x → P (change x)) → AllByRecursion P xs → AllByRecursion P (map change xs)
map_all P change [] stays all = tt
map_all P change (x ∷ xs) stays all = (stays x all.0, map_all P change xs stays all.1)

-- two numbers of each, summed apart
pub sum_plus : {X : Type 0} (f g : X → ℕ) (xs : List X)
    → sum_by (λ x. f x + g x) xs ≡ sum_by f xs + sum_by g xs
sum_plus f g [] = omega arith
sum_plus f g (x ∷ xs) =
    omega (
      arith,
      sum_plus f g xs,
      sum_by-cons
          (λ x. f x + g x) x xs,
      sum_by-cons f x xs,
      sum_by-cons g x xs,
    )

-- twice the one and once the other, summed apart
pub sum_apart : {X : Type 0} (f g : X → ℕ) (xs : List X)
    → sum_by (λ x. 2 * f x + g x) xs ≡ 2 * sum_by f xs + sum_by g xs
sum_apart f g [] = omega arith
sum_apart f g (x ∷ xs) =
    omega (
      arith,
      sum_apart f g xs,
      sum_by-cons
          (λ x. 2 * f x + g x) x xs,
      sum_by-cons f x xs,
      sum_by-cons g x xs,
    )

-- a sum once one view has changed
pub sum_with : (f : View → ℕ) (views : List View) (id : ℕ) (change : View → View) (view : View)
    → find_view views id ≡ Some view
    → sum_by f (with_view views id change) + f view ≡ sum_by f views + f (change view)
sum_with f [] id change view e = absurd (cc)
sum_with f (v ∷ vs) id change view e =
    let go : (b : Bool) → cond b (Some v) (find_view vs id) ≡ Some view
    → sum_by f (cond b (change v ∷ vs) (v ∷ with_view vs id change)) + f view
    ≡ sum_by f (v ∷ vs) + f (change view) = elim [
      | true ↦ λ is.
          let same : v ≡ view = cc in
          let a : f v ≡ f view = ap f same in
          let b : f (change v) ≡ f (change view) = ap (λ w. f (change w)) same in
          omega (arith, a, b, sum_by-cons f (change v) vs, sum_by-cons f v vs)
      | false ↦ λ is. omega (
        arith,
        sum_with f vs id change view is,
        sum_by-cons f v
            (with_view vs id change),
        sum_by-cons f v vs,
      )
    ] in
    go (nat_eq v.id id) e

-- a sum stays where the one view that has changed counts as before
pub sum_same : (f : View → ℕ) (views : List View) (id : ℕ) (change : View → View)
    → ((v : View) → f (change v) ≡ f v) → sum_by f (with_view views id change) ≡ sum_by f views
sum_same f [] id change same = refl
sum_same f (v ∷ vs) id change same =
    let go : (b : Bool)
    → sum_by f (cond b (change v ∷ vs) (v ∷ with_view vs id change)) ≡ sum_by f (v ∷ vs) =
    elim [
      | true ↦ omega (arith, same v, sum_by-cons f (change v) vs, sum_by-cons f v vs)
      | false ↦ omega (
        arith,
        sum_same f vs id change same,
        sum_by-cons f v
            (with_view vs id change),
        sum_by-cons f v vs,
      )
    ] in
    go (nat_eq v.id id)

-- and it is no larger where that view counts no more
pub sum_with_le : (f : View → ℕ) (views : List View) (id : ℕ) (change : View → View)
    → ((v : View) → f (change v) ≤ f v) → sum_by f (with_view views id change) ≤ sum_by f views
sum_with_le f [] id change le = omega arith
sum_with_le f (v ∷ vs) id change le =
    let go : (b : Bool)
    → sum_by f (cond b (change v ∷ vs) (v ∷ with_view vs id change)) ≤ sum_by f (v ∷ vs) =
    elim [
      | true ↦ omega (arith, le v, sum_by-cons f (change v) vs, sum_by-cons f v vs)
      | false ↦ omega (
        arith,
        sum_with_le f vs id change le,
        sum_by-cons f v
            (with_view vs id change),
        sum_by-cons f v vs,
      )
    ] in
    go (nat_eq v.id id)

-- some pass a test that is no stronger
pub any_weaker : {X : Type 0} (P : X → Type 0) (p q : X → Bool) (xs : List X)
    → ((x : X) → P x → p x ≡ true → q x ≡ true) → AllByRecursion P xs → list_any p xs ≡ true
    → list_any q xs ≡ true
any_weaker P p q [] imp all e = absurd (cc)
any_weaker P p q (x ∷ xs) imp all e =
    let go : (b : Bool) → p x ≡ b → (b || list_any p xs) ≡ true → (q x || list_any q xs) ≡ true =
    elim [
      | true ↦ λ is some. let yes : q x ≡ true = imp x all.0 is in rw yes refl
      | false ↦ λ is some.
          let rest : list_any q xs ≡ true = any_weaker P p q xs imp all.1 some in
          let any : (b : Bool) → (b || true) ≡ true = elim [ true ↦ refl | false ↦ refl ] in
          rw rest (any (q x))
    ] in
    go (p x) refl e

-- some pass a test that is no stronger
pub any_le : {X : Type 0} (p q : X → Bool) (xs : List X) → ((x : X) → p x ≡ true → q x ≡ true)
    → list_any p xs ≡ true → list_any q xs ≡ true
any_le p q [] imp e = absurd (cc)
any_le p q (x ∷ xs) imp e =
    let go : (b : Bool) → p x ≡ b → (b || list_any p xs) ≡ true → (q x || list_any q xs) ≡ true =
    elim [
      | true ↦ λ is some. let yes : q x ≡ true = imp x is in rw yes refl
      | false ↦ λ is some.
          let rest : list_any q xs ≡ true = any_le p q xs imp some in
          let any : (b : Bool) → (b || true) ≡ true = elim [ true ↦ refl | false ↦ refl ] in
          rw rest (any (q x))
    ] in
    go (p x) refl e

-- and no more are counted
pub count_jobs_le : {X : Type 0} (p q : X → Bool) (xs : List X)
    → ((x : X) → p x ≡ true → q x ≡ true) → count_by p xs ≤ count_by q xs
count_jobs_le p q [] imp = omega arith
count_jobs_le p q (x ∷ xs) imp =
    let here : one (p x) ≤ one (q x) = one_le (p x) (q x) (imp x) in
    omega (
      arith,
      here,
      count_jobs_le p q xs imp,
      sum_by-cons (λ x. one (p x)) x xs,
      sum_by-cons
          (λ x. one (q x)) x xs,
    )

-- what holds of no element is counted nowhere, and what holds of each as often as there are
-- elements
pub count_none : {X : Type 0} (xs : List X) → count_by (λ _. false) xs ≡ 0
count_none [] = omega arith
count_none (x ∷ xs) = omega (arith, count_none xs, sum_by-cons (λ _. 0) x xs)

pub count_all : {X : Type 0} (xs : List X) → count_by (λ _. true) xs ≡ length xs
count_all [] = omega arith
count_all (x ∷ xs) = omega (arith, count_all xs, sum_by-cons (λ _. 1) x xs)

-- what is left, where no input is left
pub no_input : (j a p x : ℕ) → a ≡ j → (j - a) * p + x ≡ x
no_input j a p x e = let none : j - a ≡ 0 = omega arith in rw none (grind arith)

-- and where one more is applied
pub one_input : (j a u x y w : ℕ) → a < j → y ≤ u
    → (j - (a + 1)) * (2 * u + 1) + 2 * y + w < (j - a) * (2 * u + 1) + 2 * x + w
one_input j a u x y w more le =
    let m : j - a ≡ (j - (a + 1)) + 1 = omega arith in
    rw m (grind arith)

-- where the first part of a product falls by as much as the rest rises, and by one more, the whole
-- falls
pub tiles_fall : (k c d u v x y : ℕ) → d + k ≤ c → v ≤ u → y + 1 ≤ x + k * (u + 1)
    → d * (v + 1) + y + 1 ≤ c * (u + 1) + x
tiles_fall k c d u v x y less fewer le =
    let a : d * (v + 1) ≤ d * (u + 1) =
    mul-le d (v + 1) d (u + 1) (omega arith) (omega (arith, fewer)) in
    let b : (d + k) * (u + 1) ≤ c * (u + 1) = mul-le (d + k) (u + 1) c (u + 1) less (omega arith) in
    let e : (d + k) * (u + 1) ≡ d * (u + 1) + k * (u + 1) = grind arith in
    omega (arith, a, b, e, le)

-- where a number that is taken many times falls, and what is added rises by fewer, the whole falls
pub whole_falls : (t s m n x y p q : ℕ) → s + 1 ≤ t → n ≤ m → y + 1 ≤ x + m → q ≤ p
    → s * n + y + q < t * m + x + p
whole_falls t s m n x y p q less le few saves =
    let a : s * n ≤ s * m = mul-le s n s m (omega arith) le in
    let b : (s + 1) * m ≤ t * m = mul-le (s + 1) m t m less (omega arith) in
    let e : (s + 1) * m ≡ s * m + m = grind arith in
    omega (arith, a, b, e, few, saves)

-- an input that is applied counts for more than all jobs
pub input_falls : (m a b o p : ℕ) → a ≡ b + 1 → p ≤ m → (m + 2) * b + p + 2 ≤ (m + 2) * a + o
input_falls m a b o p e le =
    let is : (m + 2) * (b + 1) ≡ (m + 2) * b + (m + 2) = grind arith in
    let same : (m + 2) * a ≡ (m + 2) * (b + 1) = ap (λ n. (m + 2) * n) e in
    omega (arith, is, same, le)
