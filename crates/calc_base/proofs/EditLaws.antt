-- An edit leaves the values of the cells that are kept.
use Rattle.std.proofs.Common.{◌≡◌, ℕ, zero, suc, Bool, true, false, ◌||◌, List, [], ◌∷◌, length, Option, Some, None, refl, sym, ap, ◌∙◌, ⊎_elim, true≢false, ◌⊎◌}
use Rattle.std.specs.Prelude.{if◌then◌else◌}
use Rattle.std.specs.List.{AllByRecursion, list_any, list_all}
use Rattle.std.specs.Option.{is_none}
use Rattle.std.proofs.lemmas.Bool.{cases_Bool, and_parts, both_ways}
use Rattle.calc_base.specs.Walks.{walks, circular}
use Rattle.calc_base.specs.Values.{value}
use Rattle.calc_base.specs.Laws.{Covers, IsLocal, IsSound, EachWaits, IsLost}
use Rattle.calc_base.specs.Edits.{IsApart, found_kept, IsFull, EachWaitsOrCircles}
use Rattle.calc_base.proofs.WalkLaws.{any_narrows, circular_step, circular_endless}
use Rattle.calc_base.proofs.ValueLaws.{none_pass, if_same, value_follows, at_circular, lost_circular}

-- tests that agree at kept cells agree on lists of them
any_kept : {K : Type 0} (kept p q : K → Bool) → ((r : K) → kept r ≡ true → p r ≡ q r) → (xs : List K) → list_all kept xs ≡ true → list_any p xs ≡ list_any q xs
any_kept kept p q same [] all = refl
any_kept kept p q same (x ∷ xs) all =
    let parts = and_parts (kept x) (list_all kept xs) all in
    ap (λ (b : Bool). b || list_any p xs) (same x parts.0) ∙ ap (λ (b : Bool). q x || b) (any_kept kept p q same xs parts.1)

each_kept : {K : Type 0} (kept : K → Bool) (P Q : K → Type 0) → ((r : K) → kept r ≡ true → P r → Q r) → (xs : List K) → list_all kept xs ≡ true → AllByRecursion P xs → AllByRecursion Q xs
each_kept kept P Q h [] all each = tt
each_kept kept P Q h (x ∷ xs) all each =
    let parts = and_parts (kept x) (list_all kept xs) all in
    (h x parts.0 each.0, each_kept kept P Q h xs parts.1 each.1)

alike : (a b : Bool) → (a ≡ true → b ≡ true) → (b ≡ true → a ≡ true) → a ≡ b
alike true b f g = sym (f refl)
alike false true f g = g refl
alike false false f g = refl

-- the same walks begin at a kept cell
walks_kept : {K V : Type 0} (reads reads' : K → List K) (step step' : K → (K → V) → V) (kept : K → Bool) → IsApart reads reads' step step' kept → (n : ℕ) (c : K) → kept c ≡ true → walks reads' n c ≡ walks reads n c
walks_kept reads reads' step step' kept apart zero c is = refl
walks_kept reads reads' step step' kept apart (suc n) c is =
    ap (list_any (walks reads' n)) (apart.same_reads c is)
    ∙ any_kept kept (walks reads' n) (walks reads n) (walks_kept reads reads' step step' kept apart n) (reads c) (apart.closed c is)

-- a kept cell is circular where it was
pub circular_kept : {K V : Type 0} (reads reads' : K → List K) (formulas formulas' : List K) (step step' : K → (K → V) → V) (kept : K → Bool) → Covers reads formulas → Covers reads' formulas' → IsApart reads reads' step step' kept
    → (c : K) → kept c ≡ true → circular reads' formulas' c ≡ circular reads formulas c
unfolding circular
circular_kept reads reads' formulas formulas' step step' kept covers covers' apart c is =
    alike (circular reads' formulas' c) (circular reads formulas c)
    (λ e. sym (walks_kept reads reads' step step' kept apart (suc (length formulas)) c is) ∙ circular_endless reads' formulas' covers' (suc (length formulas)) c e)
    (λ e. walks_kept reads reads' step step' kept apart (suc (length formulas')) c is ∙ circular_endless reads formulas covers (suc (length formulas')) c e)

kept_within : {K V : Type 0} (error : V) (reads reads' : K → List K) (formulas formulas' : List K) (step step' : K → (K → V) → V) (kept : K → Bool) → Covers reads formulas → Covers reads' formulas' → IsLocal reads step → IsLocal reads' step' → IsApart reads reads' step step' kept
    → (n : ℕ) (c : K) → kept c ≡ true → walks reads n c ≡ false → value error reads' formulas' step' c ≡ value error reads formulas step c
kept_within error reads reads' formulas formulas' step step' kept covers covers' local local' apart zero c is h = absurd (true≢false h)
kept_within {K} {V} error reads reads' formulas formulas' step step' kept covers covers' local local' apart (suc n) c is h =
    let v = value error reads formulas step in
    let w = value error reads' formulas' step' in
    let each : AllByRecursion (λ r. w r ≡ v r) (reads c) =
    each_kept kept (λ r. walks reads n r ≡ false) (λ r. w r ≡ v r) (λ r k none. kept_within error reads reads' formulas formulas' step step' kept covers covers' local local' apart n r k none)
    (reads c) (apart.closed c is) (none_pass (walks reads n) (reads c) h) in
    value_follows error reads' formulas' step' local' c
    ∙ ap (λ (b : Bool). if b then error else step' c w) (circular_kept reads reads' formulas formulas' step step' kept covers covers' apart c is)
    ∙ if_same (circular reads formulas c) error (step' c w) (step c v)
    (λ _. apart.same_step c w is ∙ local c w v each)
    ∙ sym (value_follows error reads formulas step local c)

-- and has the value that it had
pub value_kept : {K V : Type 0} (error : V) (reads reads' : K → List K) (formulas formulas' : List K) (step step' : K → (K → V) → V) (kept : K → Bool) → Covers reads formulas → Covers reads' formulas' → IsLocal reads step → IsLocal reads' step' → IsApart reads reads' step step' kept
    → (c : K) → kept c ≡ true → value error reads' formulas' step' c ≡ value error reads formulas step c
unfolding circular
value_kept error reads reads' formulas formulas' step step' kept covers covers' local local' apart c is =
    let v = value error reads formulas step in
    let w = value error reads' formulas' step' in
    ⊎_elim
    (λ (e : circular reads formulas c ≡ true).
    at_circular error reads' formulas' step' w (value_follows error reads' formulas' step' local') c (circular_kept reads reads' formulas formulas' step step' kept covers covers' apart c is ∙ e)
    ∙ sym (at_circular error reads formulas step v (value_follows error reads formulas step local) c e))
    (λ (e : circular reads formulas c ≡ false). kept_within error reads reads' formulas formulas' step step' kept covers covers' local local' apart (suc (length formulas)) c is e)
    (cases_Bool (circular reads formulas c))

-- what was found of kept cells is right after the edit
pub sound_kept : {K V : Type 0} (error : V) (reads reads' : K → List K) (formulas formulas' : List K) (step step' : K → (K → V) → V) (kept : K → Bool) → Covers reads formulas → Covers reads' formulas' → IsLocal reads step → IsLocal reads' step' → IsApart reads reads' step step' kept
    → (seen : K → Option V) → IsSound error reads formulas step seen → IsSound error reads' formulas' step' (found_kept kept seen)
sound_kept {K} {V} error reads reads' formulas formulas' step step' kept covers covers' local local' apart seen sound c v e = by (kept c) refl e
  where
    by : (b : Bool) → kept c ≡ b → (if b then seen c else None) ≡ Some v → (circular reads' formulas' c ≡ false) × (value error reads' formulas' step' c ≡ v)
    by true is found =
        let right = sound c v found in
        (circular_kept reads reads' formulas formulas' step step' kept covers covers' apart c is ∙ right.0, value_kept error reads reads' formulas formulas' step step' kept covers covers' local local' apart c is ∙ right.1)
    by false is found = cc

-- a circular cell was not found
circles_lost : {K V : Type 0} (error : V) (reads : K → List K) (formulas : List K) (step : K → (K → V) → V) (seen : K → Option V) → IsSound error reads formulas step seen → (r : K) → circular reads formulas r ≡ true → is_none (seen r) ≡ true
circles_lost {K} {V} error reads formulas step seen sound r e = by (seen r) refl
  where
    by : (o : Option V) → seen r ≡ o → is_none o ≡ true
    by None is = refl
    by (Some v) is = absurd (both_ways (circular reads formulas r) (sound r v is).0 e)

-- where each cell that was not found waits for another or is circular, each waits for another
pub waits_or_circles : {K V : Type 0} (error : V) (reads : K → List K) (formulas : List K) (step : K → (K → V) → V) → Covers reads formulas → (seen : K → Option V) → IsSound error reads formulas step seen → EachWaitsOrCircles reads formulas seen → EachWaits reads seen
waits_or_circles error reads formulas step covers seen sound waits c lost =
    ⊎_elim
    (λ (e : list_any (λ r. is_none (seen r)) (reads c) ≡ true). e)
    (λ (e : circular reads formulas c ≡ true).
    any_narrows (circular reads formulas) (λ r. is_none (seen r)) (circles_lost error reads formulas step seen sound) (reads c) (sym (circular_step reads formulas covers c) ∙ e))
    (waits c lost)

-- and so is circular
pub full_at_end : {K V : Type 0} (error : V) (reads : K → List K) (formulas : List K) (step : K → (K → V) → V) → Covers reads formulas → (seen : K → Option V) → IsSound error reads formulas step seen → EachWaitsOrCircles reads formulas seen → IsFull reads formulas seen
full_at_end error reads formulas step covers seen sound waits = lost_circular reads formulas seen (waits_or_circles error reads formulas step covers seen sound waits)
