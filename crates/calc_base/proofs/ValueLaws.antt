-- Values: they follow from one another, they are the only ones that do, and cells whose reads have values can be given theirs.
use Rattle.std.proofs.Common.{◌≡◌, ℕ, zero, suc, Bool, true, false, ◌||◌, List, [], ◌∷◌, length, Option, Some, None, refl, sym, ap, ◌∙◌, ⊎_elim, true≢false, unwrap_or}
use Rattle.std.specs.Prelude.{if◌then◌else◌}
use Rattle.std.specs.List.{AllByRecursion, list_any, list_all}
use Rattle.std.specs.Option.{is_some, is_none}
use Rattle.std.proofs.lemmas.Bool.{cases_Bool, cond-true, cond-false, or_parts, and_parts, false≢true, false_from_ne_true}
use Rattle.calc_base.specs.Walks.{walks, circular}
use Rattle.calc_base.specs.Values.{value_within, value}
use Rattle.calc_base.specs.Laws.{Covers, IsLocal, Follows, IsSound}
use Rattle.calc_base.proofs.WalkLaws.{walks_shorter, circular_step, circular_from}

pub none_pass : {K : Type 0} (p : K → Bool) → (xs : List K) → list_any p xs ≡ false → AllByRecursion (λ x. p x ≡ false) xs
none_pass p [] e = tt
none_pass p (x ∷ xs) e = let parts = or_parts (p x) (list_any p xs) e in (parts.0, none_pass p xs parts.1)

pub all_pass : {K : Type 0} (p : K → Bool) → (xs : List K) → list_all p xs ≡ true → AllByRecursion (λ x. p x ≡ true) xs
all_pass p [] e = tt
all_pass p (x ∷ xs) e = let parts = and_parts (p x) (list_all p xs) e in (parts.0, all_pass p xs parts.1)

pub each_from : {K : Type 0} (P Q : K → Type 0) → ((x : K) → P x → Q x) → (xs : List K) → AllByRecursion P xs → AllByRecursion Q xs
each_from P Q h [] all = tt
each_from P Q h (x ∷ xs) all = (h x all.0, each_from P Q h xs all.1)

each_of_both : {K : Type 0} (P Q R : K → Type 0) → ((x : K) → P x → Q x → R x) → (xs : List K) → AllByRecursion P xs → AllByRecursion Q xs → AllByRecursion R xs
each_of_both P Q R h [] all both = tt
each_of_both P Q R h (x ∷ xs) all both = (h x all.0 both.0, each_of_both P Q R h xs all.1 both.1)

any_none : {K : Type 0} (p : K → Bool) → (xs : List K) → AllByRecursion (λ x. p x ≡ false) xs → list_any p xs ≡ false
any_none p [] all = refl
any_none p (x ∷ xs) all = ap (λ (b : Bool). b || list_any p xs) all.0 ∙ any_none p xs all.1

pub if_same : {V : Type 0} (b : Bool) (e x y : V) → (b ≡ false → x ≡ y) → (if b then e else x) ≡ (if b then e else y)
if_same true e x y h = refl
if_same false e x y h = h refl

-- two numbers of levels that are each deep enough give one value
value_fuel : {K V : Type 0} (error : V) (reads : K → List K) (step : K → (K → V) → V) → IsLocal reads step → (is_circular : K → Bool) → (n m : ℕ) (c : K) → walks reads n c ≡ false → walks reads m c ≡ false
    → value_within error is_circular step n c ≡ value_within error is_circular step m c
value_fuel error reads step local is_circular zero m c h k = absurd (true≢false h)
value_fuel error reads step local is_circular (suc n) zero c h k = absurd (true≢false k)
value_fuel {K} error reads step local is_circular (suc n) (suc m) c h k =
    let within = λ (n : ℕ) (r : K). value_within error is_circular step n r in
    if_same (is_circular c) error (step c (within n)) (step c (within m))
    (λ _. local c (within n) (within m)
    (each_of_both (λ r. walks reads n r ≡ false) (λ r. walks reads m r ≡ false) (λ r. within n r ≡ within m r)
    (λ r a b. value_fuel error reads step local is_circular n m r a b) (reads c) (none_pass (walks reads n) (reads c) h) (none_pass (walks reads m) (reads c) k)))

-- each value follows from those of the cells that its cell reads
pub value_follows : {K V : Type 0} (error : V) (reads : K → List K) (formulas : List K) (step : K → (K → V) → V) → IsLocal reads step → Follows error reads formulas step (value error reads formulas step)
unfolding circular value
value_follows {K} {V} error reads formulas step local c =
    let f = length formulas in
    let within = λ (n : ℕ) (r : K). value_within error (circular reads formulas) step n r in
    if_same (circular reads formulas c) error (step c (within f)) (step c (within (suc f)))
    (λ h. local c (within f) (within (suc f))
    (each_from (λ r. walks reads f r ≡ false) (λ r. within f r ≡ within (suc f) r)
    (λ r e. value_fuel error reads step local (circular reads formulas) f (suc f) r e
    (false_from_ne_true (walks reads (suc f) r) (λ longer. false≢true (sym e ∙ walks_shorter reads f r longer))))
    (reads c) (none_pass (walks reads f) (reads c) h)))

-- values that follow are alike where no walk is too long
only_within : {K V : Type 0} (error : V) (reads : K → List K) (formulas : List K) (step : K → (K → V) → V) → IsLocal reads step → (v : K → V) → Follows error reads formulas step v → (n : ℕ) (c : K) → walks reads n c ≡ false → v c ≡ value error reads formulas step c
only_within error reads formulas step local v follows zero c h = absurd (true≢false h)
only_within {K} error reads formulas step local v follows (suc n) c h =
    let w = value error reads formulas step in
    follows c
    ∙ if_same (circular reads formulas c) error (step c v) (step c w)
    (λ _. local c v w (each_from (λ r. walks reads n r ≡ false) (λ r. v r ≡ w r) (λ r e. only_within error reads formulas step local v follows n r e) (reads c) (none_pass (walks reads n) (reads c) h)))
    ∙ sym (value_follows error reads formulas step local c)

-- what a circular cell has, and another
pub at_circular : {K V : Type 0} (error : V) (reads : K → List K) (formulas : List K) (step : K → (K → V) → V) → (v : K → V) → Follows error reads formulas step v → (c : K) → circular reads formulas c ≡ true → v c ≡ error
at_circular error reads formulas step v follows c e = follows c ∙ cond-true (circular reads formulas c) error (step c v) e

pub at_other : {K V : Type 0} (error : V) (reads : K → List K) (formulas : List K) (step : K → (K → V) → V) → (v : K → V) → Follows error reads formulas step v → (c : K) → circular reads formulas c ≡ false → v c ≡ step c v
at_other error reads formulas step v follows c e = follows c ∙ cond-false (circular reads formulas c) error (step c v) e

-- no other values follow
pub value_only : {K V : Type 0} (error : V) (reads : K → List K) (formulas : List K) (step : K → (K → V) → V) → IsLocal reads step → (v : K → V) → Follows error reads formulas step v → (c : K) → v c ≡ value error reads formulas step c
unfolding circular
value_only error reads formulas step local v follows c =
    let w = value error reads formulas step in
    let w_follows = value_follows error reads formulas step local in
    ⊎_elim
    (λ (e : circular reads formulas c ≡ true). at_circular error reads formulas step v follows c e ∙ sym (at_circular error reads formulas step w w_follows c e))
    (λ (e : circular reads formulas c ≡ false). only_within error reads formulas step local v follows (suc (length formulas)) c e)
    (cases_Bool (circular reads formulas c))

-- a value that was found is there
found : {V : Type 0} (o : Option V) → is_some o ≡ true → (v : V) × (o ≡ Some v)
found (Some v) e = (v, refl)
found None e = absurd (false≢true e)

-- a cell all of whose reads were found is not circular, and its value follows from what was found
pub found_follows : {K V : Type 0} (error : V) (reads : K → List K) (formulas : List K) (step : K → (K → V) → V) → Covers reads formulas → IsLocal reads step → (seen : K → Option V) → IsSound error reads formulas step seen → (c : K) → list_all (λ r. is_some (seen r)) (reads c) ≡ true
    → (circular reads formulas c ≡ false) × (value error reads formulas step c ≡ step c (λ r. unwrap_or (seen r) error))
found_follows {K} {V} error reads formulas step covers local seen sound c all =
    let w = value error reads formulas step in
    let look = λ (r : K). unwrap_or (seen r) error in
    let each = all_pass (λ r. is_some (seen r)) (reads c) all in
    let open_reads : AllByRecursion (λ r. circular reads formulas r ≡ false) (reads c) =
    each_from (λ r. is_some (seen r) ≡ true) (λ r. circular reads formulas r ≡ false) (λ r e. let f = found (seen r) e in (sound r f.0 f.1).0) (reads c) each in
    let same : AllByRecursion (λ r. w r ≡ look r) (reads c) =
    each_from (λ r. is_some (seen r) ≡ true) (λ r. w r ≡ look r) (λ r e. let f = found (seen r) e in (sound r f.0 f.1).1 ∙ sym (ap (λ (o : Option V). unwrap_or o error) f.1)) (reads c) each in
    let not_circular : circular reads formulas c ≡ false = circular_step reads formulas covers c ∙ any_none (circular reads formulas) (reads c) open_reads in
    (not_circular, at_other error reads formulas step w (value_follows error reads formulas step local) c not_circular ∙ local c w look same)

-- cells that were not found, each of which reads another such cell, are circular
pub lost_circular : {K V : Type 0} (reads : K → List K) (formulas : List K) → (seen : K → Option V) → ((c : K) → is_none (seen c) ≡ true → list_any (λ r. is_none (seen r)) (reads c) ≡ true)
    → (c : K) → is_none (seen c) ≡ true → circular reads formulas c ≡ true
lost_circular reads formulas seen waits = circular_from reads formulas (λ c. is_none (seen c)) waits
