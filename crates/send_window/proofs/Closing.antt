-- What a filter takes out, and whether it takes out anything.
use Rattle.std.proofs.Common.{◌≡◌, ℕ, suc, ◌<◌, ◌≤◌, Bool, true, false, not, ◌||◌, cond, List, [], ◌∷◌, length, filter, refl, ap, ◌∙◌, sym, arith}
use Rattle.std.specs.Prelude.{nat_lt}
use Rattle.std.specs.List.{list_any}
use Rattle.std.proofs.lemmas.Bool.Decides.{nat_tests}

-- a filter leaves no more than there were
pub filter_le : {X : Type 0} (p : X → Bool) (xs : List X) → length (filter p xs) ≤ length xs
filter_le p [] = omega arith
filter_le p (x ∷ xs) =
    elim (p x) as (λ b. length (cond b (x ∷ filter p xs) (filter p xs)) ≤ length (x ∷ xs)) [
      | true ↦ omega (arith, filter_le p xs)
      | false ↦ omega (arith, filter_le p xs)
    ]

lt_is : (a b : ℕ) → a < b → nat_lt a b ≡ true
lt_is a b h = grind (arith, nat_tests)

lt_suc : (a b : ℕ) → nat_lt (suc a) (suc b) ≡ nat_lt a b
lt_suc a b = grind (arith, nat_tests)

-- a filter leaves fewer exactly where there is one to take out
pub fewer_is : {X : Type 0} (p : X → Bool) (xs : List X) → nat_lt (length (filter (λ x. not (p x)) xs)) (length xs) ≡ list_any p xs
fewer_is p [] = refl
fewer_is p (x ∷ xs) =
    let rest : List _ = filter (λ y. not (p y)) xs in
    let go : (b : Bool) → nat_lt (length (cond (not b) (x ∷ rest) rest)) (length (x ∷ xs)) ≡ (b || list_any p xs) = elim [
      | true ↦ let le : length rest ≤ length xs = filter_le (λ y. not (p y)) xs in lt_is (length rest) (length (x ∷ xs)) (omega arith)
      | false ↦ lt_suc (length rest) (length xs) ∙ fewer_is p xs
    ] in
    go (p x)

-- where there is none to take out, all stay
pub none_goes : {X : Type 0} (p : X → Bool) (xs : List X) → list_any p xs ≡ false → filter (λ x. not (p x)) xs ≡ xs
none_goes p [] none = refl
none_goes p (x ∷ xs) none =
    let rest : List _ = filter (λ y. not (p y)) xs in
    let go : (b : Bool) → (b || list_any p xs) ≡ false → cond (not b) (x ∷ rest) rest ≡ x ∷ xs = elim [
      | true ↦ λ e. absurd (cc)
      | false ↦ λ e. ap (λ ys. x ∷ ys) (none_goes p xs e)
    ] in
    go (p x) none

-- what a window says of its closing, by the lists and their lengths
pub closed_says : {X : Type 0} (p : X → Bool) (old new now : List X) (m n : ℕ) → old ≡ now → new ≡ filter (λ x. not (p x)) old → m ≡ length new → n ≡ length old → nat_lt m n ≡ list_any p now
closed_says p old new now m n same is m_is n_is = rw (m_is, n_is, is, same) (fewer_is p now)

pub unchanged_by : {X : Type 0} (p : X → Bool) (old new now : List X) (b : Bool) → old ≡ now → new ≡ filter (λ x. not (p x)) old → b ≡ list_any p now → b ≡ false → new ≡ now
unchanged_by p old new now b same is says none = is ∙ ap (filter (λ x. not (p x))) same ∙ none_goes p now (sym says ∙ none)
