-- Bytes fall into lines in one way.
use Rattle.std.proofs.Common.{◌≡◌, ◌∙◌, ℕ, List, [], ◌∷◌, ◌++◌, length, length-append, refl, ap, sym, subst, append_assoc, arith, Option, None, Some}
use Rattle.std.specs.List.{AllByRecursion}
use Rattle.std.proofs.lemmas.List.{append-nil}
use Rattle.script_lines.specs.Positions.{Position}
use Rattle.script_lines.specs.Grammar.{Role}
use Rattle.script_lines.specs.Grammar.{Acts, Ends, Refused}
use Rattle.script_lines.specs.Grammar.{role, followed, position_after}
use Rattle.script_lines.specs.Lines.{IsUnbroken, IsLine, joined}

-- bytes without a newline have none
pub no_break : (u m x : List ℕ) → IsUnbroken u → u ≡ m ++ 10 ∷ x → ⊥
no_break [] [] x unbroken is = (cc)
no_break (c ∷ u) [] x unbroken is = unbroken.0 (cc)
no_break [] (d ∷ m) x unbroken is = (cc)
no_break (c ∷ u) (d ∷ m) x unbroken is = no_break u m x unbroken.1 (cc)

-- the first line of bytes, and what stands behind its newline
pub first_break : (l m x y : List ℕ) → IsUnbroken l → IsUnbroken m → l ++ 10 ∷ x ≡ m ++ 10 ∷ y → (l ≡ m) × (x ≡ y)
first_break [] [] x y one other is = (refl, (cc))
first_break [] (d ∷ m) x y one other is = absurd (other.0 (cc))
first_break (c ∷ l) [] x y one other is = absurd (one.0 (cc))
first_break (c ∷ l) (d ∷ m) x y one other is =
    let h : (l ≡ m) × (x ≡ y) = first_break l m x y one.1 other.1 (cc) in
    let head : c ≡ d = (cc) in
    let tail : l ≡ m = h.0 in
    ((cc), h.1)

-- two ways to cut the same bytes: one goes on where the other stopped
pub data Compared (ls ms : List (List ℕ)) (x y : List ℕ) : Type 0 where
  On : (more : List (List ℕ)) (lines : ms ≡ ls ++ more) (behind : x ≡ joined more ++ y) → Compared ls ms x y
  Back : (more : List (List ℕ)) (lines : ls ≡ ms ++ more) (behind : y ≡ joined more ++ x) → Compared ls ms x y

pub compared : (ls ms : List (List ℕ)) (x y : List ℕ) → AllByRecursion IsLine ls → AllByRecursion IsLine ms → joined ls ++ x ≡ joined ms ++ y → Compared ls ms x y
compared [] ms x y some others is = On ms refl is
compared (l ∷ ls) [] x y some others is = Back (l ∷ ls) refl (sym is)
compared (l ∷ ls) (m ∷ ms) x y some others is =
    let here : l ++ 10 ∷ (joined ls ++ x) ≡ m ++ 10 ∷ (joined ms ++ y) = sym (append_assoc l (10 ∷ joined ls) x) ∙ is ∙ append_assoc m (10 ∷ joined ms) y in
    let h : (l ≡ m) × (joined ls ++ x ≡ joined ms ++ y) = first_break l m (joined ls ++ x) (joined ms ++ y) some.0.unbroken others.0.unbroken here in
    elim (compared ls ms x y some.1 others.1 h.1) [
      | On more lines behind ↦ On more (let a : ms ≡ ls ++ more = lines in let b : l ≡ m = h.0 in (cc)) behind
      | Back more lines behind ↦ Back more (let a : ls ≡ ms ++ more = lines in let b : l ≡ m = h.0 in (cc)) behind
    ]

-- where a script stands behind these lines and then those
on_line : (v : Role) (lines more : List (List ℕ)) (q : Position)
    → ((p : Position) → position_after p lines ≡ Some q → position_after p (lines ++ more) ≡ position_after q more)
    → followed v (λ next. position_after next lines) ≡ Some q → followed v (λ next. position_after next (lines ++ more)) ≡ position_after q more
on_line (Acts line position) lines more q later is = later position is
on_line Ends lines more q later is = (cc)
on_line Refused lines more q later is = (cc)

pub place_on : (p : Position) (lines more : List (List ℕ)) (q : Position) → position_after p lines ≡ Some q → position_after p (lines ++ more) ≡ position_after q more
place_on p [] more q is = let h : p ≡ q = (cc) in ap (λ (r : Position). position_after r more) h
place_on p (line ∷ lines) more q is = on_line (role p line) lines more q (λ r h. place_on r lines more q h) is

pub no_room : (a m : List ℕ) → [] ≡ a ++ (m ++ 10 ∷ []) → ⊥
no_room a m is =
    let h : length {A = ℕ} [] ≡ length (a ++ (m ++ 10 ∷ [])) = ap length is in
    omega (arith, h, length-append a (m ++ 10 ∷ []), length-append m (10 ∷ []))

same_open_by : (ls ms : List (List ℕ)) (u v : List ℕ) → IsUnbroken u → IsUnbroken v → Compared ls ms u v → (ls ≡ ms) × (u ≡ v)
same_open_by ls ms u v one other (On [] lines behind) = (sym (lines ∙ append-nil ls), behind)
same_open_by ls ms u v one other (On (m ∷ more) lines behind) = absurd (no_break u m (joined more ++ v) one (behind ∙ append_assoc m (10 ∷ joined more) v))
same_open_by ls ms u v one other (Back [] lines behind) = (lines ∙ append-nil ms, sym behind)
same_open_by ls ms u v one other (Back (l ∷ more) lines behind) = absurd (no_break v l (joined more ++ u) other (behind ∙ append_assoc l (10 ∷ joined more) u))

-- both ways end within a line: they are the same
pub same_open : (ls ms : List (List ℕ)) (u v : List ℕ) → AllByRecursion IsLine ls → AllByRecursion IsLine ms → IsUnbroken u → IsUnbroken v → joined ls ++ u ≡ joined ms ++ v → (ls ≡ ms) × (u ≡ v)
same_open ls ms u v some others one other is = same_open_by ls ms u v one other (compared ls ms u v some others is)

-- one more line, and a newline at the end, are too much
too_many : (k m l : List ℕ) (more : List (List ℕ)) → IsUnbroken k → IsUnbroken l → l ++ 10 ∷ [] ≡ joined (k ∷ more) ++ (m ++ 10 ∷ []) → ⊥
too_many k m l more one other is =
    let h : (l ≡ k) × ([] ≡ joined more ++ (m ++ 10 ∷ [])) = first_break l k [] (joined more ++ (m ++ 10 ∷ [])) other one (is ∙ append_assoc k (10 ∷ joined more) (m ++ 10 ∷ [])) in
    no_room (joined more) m h.1

pub each_behind : (ls more : List (List ℕ)) (ms : List (List ℕ)) → ms ≡ ls ++ more → AllByRecursion IsLine ms → AllByRecursion IsLine more
each_behind [] more ms is all = subst (λ (xs : List (List ℕ)). AllByRecursion IsLine xs) is all
each_behind (l ∷ ls) more [] is all = absurd (cc)
each_behind (l ∷ ls) more (m ∷ ms) is all = each_behind ls more ms (cc) all.1

same_whole_by : (ls ms : List (List ℕ)) (l m : List ℕ) → AllByRecursion IsLine ls → AllByRecursion IsLine ms → IsLine l → IsLine m → Compared ls ms (l ++ 10 ∷ []) (m ++ 10 ∷ []) → (ls ≡ ms) × (l ≡ m)
same_whole_by ls ms l m some others one other (On [] lines behind) = (sym (lines ∙ append-nil ls), (first_break l m [] [] one.unbroken other.unbroken behind).0)
same_whole_by ls ms l m some others one other (On (k ∷ more) lines behind) = absurd (too_many k m l more (each_behind ls (k ∷ more) ms lines others).0.unbroken one.unbroken behind)
same_whole_by ls ms l m some others one other (Back [] lines behind) = (lines ∙ append-nil ms, (first_break l m [] [] one.unbroken other.unbroken (sym behind)).0)
same_whole_by ls ms l m some others one other (Back (k ∷ more) lines behind) = absurd (too_many k l m more (each_behind ms (k ∷ more) ls lines some).0.unbroken other.unbroken behind)

-- both ways end with a newline
pub same_whole : (ls ms : List (List ℕ)) (l m : List ℕ) → AllByRecursion IsLine ls → AllByRecursion IsLine ms → IsLine l → IsLine m → joined ls ++ (l ++ 10 ∷ []) ≡ joined ms ++ (m ++ 10 ∷ []) → (ls ≡ ms) × (l ≡ m)
same_whole ls ms l m some others one other is = same_whole_by ls ms l m some others one other (compared ls ms (l ++ 10 ∷ []) (m ++ 10 ∷ []) some others is)

-- one way ends with a newline behind a line that doesn't act, the other within a line behind lines that do
whole_and_open_by : (p : Position) (ls ms : List (List ℕ)) (l u : List ℕ) (q r : Position) → AllByRecursion IsLine ms → IsLine l → IsUnbroken u
    → position_after p ls ≡ Some q → position_after p ms ≡ Some r → ((f : Position → Option Position) → followed (role q l) f ≡ None)
    → Compared ls ms (l ++ 10 ∷ []) u → ⊥
whole_and_open_by p ls ms l u q r others one bare here there stops (On [] lines behind) = no_break u l [] bare (sym behind)
whole_and_open_by p ls ms l u q r others one bare here there stops (On (m ∷ more) lines behind) =
    let k = (each_behind ls (m ∷ more) ms lines others).0 in
    let h : (l ≡ m) × ([] ≡ joined more ++ u) = first_break l m [] (joined more ++ u) one.unbroken k.unbroken (behind ∙ append_assoc m (10 ∷ joined more) u) in
    let a : position_after p ms ≡ position_after q (m ∷ more) = ap (λ (xs : List (List ℕ)). position_after p xs) lines ∙ place_on p ls (m ∷ more) q here in
    let b : position_after q (m ∷ more) ≡ None = subst (λ (x : List ℕ). followed (role q x) (λ next. position_after next more) ≡ None) h.0 (stops (λ next. position_after next more)) in
    let c : Some r ≡ None = sym there ∙ a ∙ b in
    (cc)
whole_and_open_by p ls ms l u q r others one bare here there stops (Back [] lines behind) = no_break u l [] bare behind
whole_and_open_by p ls ms l u q r others one bare here there stops (Back (m ∷ more) lines behind) = no_break u m (joined more ++ (l ++ 10 ∷ [])) bare (behind ∙ append_assoc m (10 ∷ joined more) (l ++ 10 ∷ []))

pub whole_and_open : (p : Position) (ls ms : List (List ℕ)) (l u : List ℕ) (q r : Position) → AllByRecursion IsLine ls → AllByRecursion IsLine ms → IsLine l → IsUnbroken u
    → position_after p ls ≡ Some q → position_after p ms ≡ Some r → ((f : Position → Option Position) → followed (role q l) f ≡ None)
    → joined ls ++ (l ++ 10 ∷ []) ≡ joined ms ++ u → ⊥
whole_and_open p ls ms l u q r some others one bare here there stops is =
    whole_and_open_by p ls ms l u q r others one bare here there stops (compared ls ms (l ++ 10 ∷ []) u some others is)
