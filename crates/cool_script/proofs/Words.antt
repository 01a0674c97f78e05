-- Two words, and the codes of a script's end.
use Rattle.std.proofs.Common.{◌≡◌, ◌∙◌, ◌⊎◌, ℕ, ◌<◌, ◌≤◌, Bool, true, false, not, List, [], ◌∷◌, length, map, get_or, inl, inr, refl, ap, sym, arith}
use Rattle.std.specs.Str.{bytes_eq}
use Rattle.std.proofs.lemmas.Slice.Eq.{bytes_eq-Decides}
use Rattle.script_run.specs.declared.status.Status.{Status}
use Rattle.script_run.specs.declared.status.Status.TheVariants.{Done, Memory}
use Rattle.cool_script.specs.Replay.{code_of}

pub two : {A B : Type 0} (f : A → B) (xs : List A) (x y : A) (a b : B) → 2 ≤ length xs → length xs < 3 → x ≡ get_or xs 0 x → y ≡ get_or xs 1 y → f x ≡ a → f y ≡ b → map f xs ≡ a ∷ b ∷ []
two f [] x y a b some few at_first at_second one other = absurd (omega (arith, some))
two f (p ∷ []) x y a b some few at_first at_second one other = absurd (omega (arith, some))
two f (p ∷ q ∷ []) x y a b some few at_first at_second one other =
    let e : x ≡ p = at_first in
    let d : y ≡ q = at_second in
    cc
two f (p ∷ q ∷ r ∷ xs) x y a b some few at_first at_second one other = absurd (omega (arith, few))

pub code_of_end : (status : Status) (code : ℕ) → code ≡ code_of status → (status ≡ Done) ⊎ (status ≡ Memory) → (code ≡ 0) ⊎ (code ≡ 6)
code_of_end status code is (inl e) = inl (is ∙ ap code_of e)
code_of_end status code is (inr e) = inr (is ∙ ap code_of e)

not_not : (b : Bool) → false ≡ not b → b ≡ true
not_not true e = refl
not_not false e = cc

-- a text that was not told from another is it
pub same_text : (text other bytes : List ℕ) → false ≡ not (bytes_eq text other) → text ≡ bytes → bytes ≡ other
same_text text other bytes e is = sym is ∙ (bytes_eq-Decides text other).0 (not_not (bytes_eq text other) e)

-- the second of two words
pub second_of : {A B : Type 0} (f : A → B) (xs : List A) (y : A) (a b : B) → 2 ≤ length xs → length xs < 3 → y ≡ get_or xs 1 y → map f xs ≡ a ∷ b ∷ [] → f y ≡ b
second_of f [] y a b some few at is = absurd (omega (arith, some))
second_of f (p ∷ []) y a b some few at is = absurd (omega (arith, some))
second_of f (p ∷ q ∷ []) y a b some few at is =
    let e : y ≡ q = at in
    cc
second_of f (p ∷ q ∷ r ∷ xs) y a b some few at is = absurd (omega (arith, few))

-- a text that was told from another isn't it
pub other_text : (text other bytes : List ℕ) → true ≡ not (bytes_eq text other) → text ≡ bytes → bytes ≡ other → ⊥
other_text text other bytes told is same =
    let e : bytes_eq text other ≡ true = (bytes_eq-Decides text other).1 (is ∙ same) in
    let odd : true ≡ false = told ∙ ap not e in
    absurd (cc)
