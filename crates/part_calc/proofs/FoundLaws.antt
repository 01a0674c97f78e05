-- What is kept before an edit, and what is found after it.
use Rattle.std.proofs.Common.{◌≡◌, ℕ, Bool, true, false, cond, List, [], ◌∷◌, Option, Some, None, refl, ap, sym, ◌∙◌, subst, ⊎_elim, unwrap_or}
use Rattle.std.specs.BTreeMap.{is_at, insert_entry}
use Rattle.std.specs.List.{AllByRecursion}
use Rattle.std.specs.List.Sorted.{IsStrictlySortedBy}
use Rattle.std.specs.Map.{keys_of, lookup}
use Rattle.std.specs.Option.{is_some, is_none}
use Rattle.std.specs.declared.cmp.Ordering.TheVariants.{Less}
use Rattle.std.proofs.lemmas.Bool.{both_ways, cases_Bool, cond-true, cond-false}
use Rattle.std.specs.Ordering.{is_eq}
use Rattle.formula_base.specs.declared.values.Value.{Value}
use Rattle.formula_base.specs.Ranges.{Position, position_cmp}
use Rattle.part_calc.specs.declared.contents.Content.{Content}
use Rattle.part_calc.specs.declared.contents.Content.TheVariants.{Plain, Formula}
use Rattle.part_calc.specs.Contents.{is_formula}
use Rattle.part_calc.specs.Parts.{Part, content_at, with_text, is_circular, value_at}
use Rattle.part_calc.specs.Finding.{seen_in, seen_at, is_listed, IsSound, Covers, AreFound}
use Rattle.part_calc.specs.Dependants.{Depend}
use Rattle.part_calc.specs.Fates.{Fates, fate_at, fate_in, is_fresh, found_over, put_over, IsKept, IsComputed, IsRight}
use Rattle.part_calc.proofs.PositionLaws.{at_one, at_itself, lookup_insert}
use Rattle.part_calc.proofs.PartLaws.{plain_cell}
use Rattle.part_calc.proofs.FindLaws.{sound_none}
use Rattle.part_calc.proofs.DependantLaws.{same_content, circular_apart, value_apart}

-- ---- cells that an edit leaves

-- what becomes of a cell's formula that doesn't depend on the edited one
fate_apart : (part : Part) (at : Position) (raw : List ℕ) (affected : Position → Bool) → IsStrictlySortedBy position_cmp (keys_of part) → Depend part at affected → (p : Position) → affected p ≡ false → fate_at (with_text part at raw) p ≡ fate_at part p
unfolding fate_at
fate_apart part at raw affected sorted depend p is =
    ap (λ (b : Bool). cond b None (Some (value_at (with_text part at raw) p))) (circular_apart part at raw affected sorted depend p is)
    ∙ ap (λ (v : Value). cond (is_circular part p) None (Some v)) (value_apart part at raw affected sorted depend p is)

-- what stands for it
kept_apart : (part : Part) (at : Position) (raw : List ℕ) (affected : Position → Bool) (kept : Fates) → IsStrictlySortedBy position_cmp (keys_of part) → Depend part at affected → IsKept part kept → (p : Position) → affected p ≡ false → is_formula (content_at (with_text part at raw) p) ≡ true
    → fate_in kept p ≡ Some (fate_at (with_text part at raw) p)
kept_apart part at raw affected kept sorted depend is p apart kind =
    is p (ap is_formula (sym (same_content part at raw affected sorted depend p apart)) ∙ kind) ∙ ap Some (sym (fate_apart part at raw affected sorted depend p apart))

-- what is known of a cell that is fresh, and of another
known_here : (fresh kept : Fates) (p : Position) → is_fresh fresh p ≡ true → unwrap_or (fate_in fresh p) None ≡ None → found_over fresh kept p ≡ None
unfolding found_over
known_here fresh kept p there none = by (fate_in fresh p) there none
  where
    by : (o : Option (Option Value)) → is_some o ≡ true → unwrap_or o None ≡ None → unwrap_or o (unwrap_or (fate_in kept p) None) ≡ None
    by (Some v) h e = e
    by None h e = absurd (both_ways false refl h)

known_there : (fresh kept : Fates) (p : Position) → is_fresh fresh p ≡ false → found_over fresh kept p ≡ unwrap_or (fate_in kept p) None
unfolding found_over
known_there fresh kept p absent = by (fate_in fresh p) absent
  where
    by : (o : Option (Option Value)) → is_some o ≡ false → unwrap_or o (unwrap_or (fate_in kept p) None) ≡ unwrap_or (fate_in kept p) None
    by (Some v) h = absurd (both_ways true h refl)
    by None h = refl

none_from_some : (v : Value) → Some v ≡ None → ⊥
none_from_some v e = cc

-- a value that becomes of a cell is right
fate_some : (part : Part) (p : Position) (v : Value) → fate_at part p ≡ Some v → (is_circular part p ≡ false) × (value_at part p ≡ v)
unfolding fate_at
fate_some part p v = by (is_circular part p) refl
  where
    some_one : (a b : Value) → Some a ≡ Some b → a ≡ b
    some_one a b e = cc

    by : (b : Bool) → is_circular part p ≡ b → cond b None (Some (value_at part p)) ≡ Some v → (is_circular part p ≡ false) × (value_at part p ≡ v)
    by true is e = absurd (none_from_some v (sym e))
    by false is e = (is, some_one (value_at part p) v e)

fate_open : (part : Part) (p : Position) → is_circular part p ≡ false → fate_at part p ≡ Some (value_at part p)
unfolding fate_at
fate_open part p is = cond-false (is_circular part p) None (Some (value_at part p)) is

-- ---- before the sweeps

-- what is kept of other cells is right after the edit
pub edit_sound : (part : Part) (at : Position) (raw : List ℕ) (fresh kept : Fates) → IsStrictlySortedBy position_cmp (keys_of part) → Depend part at (is_fresh fresh) → ((c : Position) → unwrap_or (fate_in fresh c) None ≡ None) → IsKept part kept → IsSound (with_text part at raw) (found_over fresh kept)
unfolding seen_at
edit_sound part at raw fresh kept sorted depend none is p v = by (content_at (with_text part at raw) p) refl
  where
    some_one : (a b : Value) → Some a ≡ Some b → a ≡ b
    some_one a b e = cc

    formula : is_formula (content_at (with_text part at raw) p) ≡ true → found_over fresh kept p ≡ Some v → (is_circular (with_text part at raw) p ≡ false) × (value_at (with_text part at raw) p ≡ v)
    formula kind found =
        ⊎_elim
        (λ (there : is_fresh fresh p ≡ true). absurd (none_from_some v (sym found ∙ known_here fresh kept p there (none p))))
        (λ (absent : is_fresh fresh p ≡ false).
        fate_some (with_text part at raw) p v
        (ap (λ (o : Option (Option Value)). unwrap_or o None) (sym (kept_apart part at raw (is_fresh fresh) kept sorted depend is p absent kind)) ∙ sym (known_there fresh kept p absent) ∙ found))
        (cases_Bool (is_fresh fresh p))

    by : (c : Content) → content_at (with_text part at raw) p ≡ c → seen_in c (found_over fresh kept p) ≡ Some v → (is_circular (with_text part at raw) p ≡ false) × (value_at (with_text part at raw) p ≡ v)
    by (Plain w) kind found = let plain = plain_cell (with_text part at raw) p w kind in (plain.0, plain.1 ∙ some_one w v found)
    by (Formula x) kind found = formula (ap is_formula kind) found

-- and cells that aren't seen wait
pub edit_covers : (part : Part) (at : Position) (raw : List ℕ) (fresh kept : Fates) (ordered : List Position) → IsStrictlySortedBy position_cmp (keys_of part) → Depend part at (is_fresh fresh) → ((c : Position) → is_fresh fresh c ≡ true → is_listed ordered c ≡ true) → IsKept part kept → Covers (with_text part at raw) (found_over fresh kept) ordered
unfolding seen_at
edit_covers part at raw fresh kept ordered sorted depend listed is p free = by (content_at (with_text part at raw) p) refl
  where
    some_there : (o : Option Value) (v : Value) → o ≡ Some v → is_none o ≡ true → ⊥
    some_there o v e h = both_ways false refl (sym (ap is_none e) ∙ h)

    by : (c : Content) → content_at (with_text part at raw) p ≡ c → is_none (seen_in c (found_over fresh kept p)) ≡ true → is_listed ordered p ≡ true
    by (Plain w) kind lost = absurd (both_ways false refl lost)
    by (Formula x) kind lost =
        ⊎_elim
        (λ (there : is_fresh fresh p ≡ true). listed p there)
        (λ (absent : is_fresh fresh p ≡ false).
        absurd (some_there (found_over fresh kept p) (value_at (with_text part at raw) p)
        (known_there fresh kept p absent
        ∙ ap (λ (o : Option (Option Value)). unwrap_or o None) (kept_apart part at raw (is_fresh fresh) kept sorted depend is p absent (ap is_formula kind))
        ∙ fate_open (with_text part at raw) p free) lost))
        (cases_Bool (is_fresh fresh p))

-- where nothing was found and nothing is kept
nothing_known : (fresh : Fates) → ((c : Position) → unwrap_or (fate_in fresh c) None ≡ None) → (p : Position) → found_over fresh [] p ≡ None
unfolding found_over
nothing_known fresh none p = by (fate_in fresh p) (none p)
  where
    by : (o : Option (Option Value)) → unwrap_or o None ≡ None → unwrap_or o None ≡ None
    by o e = e

pub first_sound : (part : Part) (fresh kept : Fates) → kept ≡ [] → ((c : Position) → unwrap_or (fate_in fresh c) None ≡ None) → IsSound part (found_over fresh kept)
first_sound part fresh kept empty none = subst (λ (k : Fates). IsSound part (found_over fresh k)) (sym empty) (sound_none part (found_over fresh []) (nothing_known fresh none))

pub first_covers : (part : Part) (fresh kept : Fates) (formulas ordered : List Position) → ((p : Position) → is_formula (content_at part p) ≡ true → is_listed formulas p ≡ true) → ((p : Position) → is_listed formulas p ≡ true → is_fresh fresh p ≡ true) → ((c : Position) → is_fresh fresh c ≡ true → is_listed ordered c ≡ true) → Covers part (found_over fresh kept) ordered
unfolding seen_at
first_covers part fresh kept formulas ordered covers started listed p free = by (content_at part p) refl
  where
    by : (c : Content) → content_at part p ≡ c → is_none (seen_in c (found_over fresh kept p)) ≡ true → is_listed ordered p ≡ true
    by (Plain w) kind lost = absurd (both_ways false refl lost)
    by (Formula x) kind lost = listed p (started p (covers p (ap is_formula kind)))

-- ---- after the sweeps

-- what stands fresh for a cell is known of it
fresh_known : (fresh kept : Fates) (p : Position) (o : Option Value) → fate_in fresh p ≡ Some o → found_over fresh kept p ≡ o
unfolding found_over
fresh_known fresh kept p o is = ap (λ (x : Option (Option Value)). unwrap_or x (unwrap_or (fate_in kept p) None)) is

some_of : (o : Option (Option Value)) → is_some o ≡ true → (v : Option Value) × (o ≡ Some v)
some_of (Some v) e = (v, refl)
some_of None e = absurd (both_ways false refl e)

none_of : (o : Option (Option Value)) → is_some o ≡ false → o ≡ None
none_of (Some v) e = absurd (both_ways true e refl)
none_of None e = refl

-- what was computed after an edit is what is to be kept
pub edit_computed : (part : Part) (at : Position) (raw : List ℕ) (fresh found kept computed : Fates) → IsStrictlySortedBy position_cmp (keys_of part) → Depend part at (is_fresh fresh) → IsKept part kept → AreFound (with_text part at raw) (found_over found kept) → ((p : Position) → is_fresh fresh p ≡ true → is_fresh found p ≡ true)
    → computed ≡ found → IsComputed part at raw kept computed
edit_computed part at raw fresh found kept computed sorted depend is right stay same =
    subst (IsComputed part at raw kept) (sym same) (record {
      edited = stay at depend.start;
      right = λ p kind.
          ⊎_elim
          (λ (there : is_fresh found p ≡ true).
          let o = some_of (fate_in found p) there in
          ap (λ (x : Option (Option Value)). put_over x (fate_in kept p)) o.1 ∙ ap Some (sym (fresh_known found kept p o.0 o.1) ∙ right p kind))
          (λ (absent : is_fresh found p ≡ false).
          ap (λ (x : Option (Option Value)). put_over x (fate_in kept p)) (none_of (fate_in found p) absent)
          ∙ kept_apart part at raw (is_fresh fresh) kept sorted depend is p (unreached p absent) kind)
          (cases_Bool (is_fresh found p));
    })
  where
    unreached : (p : Position) → is_fresh found p ≡ false → is_fresh fresh p ≡ false
    unreached p absent = by (is_fresh fresh p) refl
      where
        by : (b : Bool) → is_fresh fresh p ≡ b → b ≡ false
        by true e = absurd (both_ways (is_fresh found p) absent (stay p e))
        by false e = refl

-- all that was found of a part of which nothing was kept is what is to be kept
pub first_kept : (part : Part) (formulas : List Position) (fresh found kept before : Fates) → ((p : Position) → is_formula (content_at part p) ≡ true → is_listed formulas p ≡ true) → ((p : Position) → is_listed formulas p ≡ true → is_fresh fresh p ≡ true) → AreFound part (found_over found before) → ((p : Position) → is_fresh fresh p ≡ true → is_fresh found p ≡ true)
    → ((p : Position) → fate_in kept p ≡ fate_in found p) → IsKept part kept
first_kept part formulas fresh found kept before covers started right stay same p kind =
    let o = some_of (fate_in found p) (stay p (started p (covers p kind))) in
    same p ∙ o.1 ∙ ap Some (sym (fresh_known found before p o.0 o.1) ∙ right p kind)

-- ---- entries in order

-- no later entry is at the place of the first
not_after : (k : Position) (es : Fates) → AllByRecursion (λ q. position_cmp k q ≡ Less) (keys_of es) → lookup (is_at (position_cmp k)) es ≡ None
not_after k [] all = refl
not_after k (e ∷ es) all = cond-false (is_at (position_cmp k) e.0) (Some e.1) (lookup (is_at (position_cmp k)) es) (ap is_eq all.0) ∙ not_after k es all.1

pub head_alone : (e : Position × Option Value) (es : Fates) → IsStrictlySortedBy position_cmp (keys_of (e ∷ es)) → fate_in es e.0 ≡ None
unfolding IsStrictlySortedBy
head_alone e es sorted = not_after e.0 es sorted.0

pub tail_sorted : (e : Position × Option Value) (es : Fates) → IsStrictlySortedBy position_cmp (keys_of (e ∷ es)) → IsStrictlySortedBy position_cmp (keys_of es)
unfolding IsStrictlySortedBy
tail_sorted e es sorted = sorted.1

-- where what is found at each cell is right each entry is
all_right : (part : Part) (es : Fates) → IsStrictlySortedBy position_cmp (keys_of es) → ((p : Position) (o : Option Value) → is_formula (content_at part p) ≡ true → fate_in es p ≡ Some o → o ≡ fate_at part p) → AllByRecursion (IsRight part) es
all_right part [] sorted right = tt
all_right part (e ∷ es) sorted right = (
  λ kind. right e.0 e.1 kind (cond-true (is_at (position_cmp e.0) e.0) (Some e.1) (fate_in es e.0) (at_itself e.0)),
  all_right part es (tail_sorted e es sorted) (λ p o kind there. right p o kind (cond-false (is_at (position_cmp p) e.0) (Some e.1) (fate_in es p) (apart p o there) ∙ there)),
)
  where
    apart : (p : Position) (o : Option Value) → fate_in es p ≡ Some o → is_at (position_cmp p) e.0 ≡ false
    apart p o there = by (is_at (position_cmp p) e.0) refl
      where
        none_some : (x : Option (Option Value)) → x ≡ None → x ≡ Some o → ⊥
        none_some x a b = cc

        by : (b : Bool) → is_at (position_cmp p) e.0 ≡ b → b ≡ false
        by true at = absurd (none_some (fate_in es p) (ap (fate_in es) (at_one p e.0 at) ∙ head_alone e es sorted) there)
        by false at = refl

-- each entry that was found is right
pub found_right : (part : Part) (found kept items : Fates) → IsStrictlySortedBy position_cmp (keys_of found) → AreFound part (found_over found kept) → items ≡ found → AllByRecursion (IsRight part) items
found_right part found kept items sorted right same =
    subst (AllByRecursion (IsRight part)) (sym same) (all_right part found sorted (λ p o kind there. sym (fresh_known found kept p o there) ∙ right p kind))

-- ---- putting fates over others

-- the state of putting: what is over the old ones in the end is over what stands now
pub record IsPut (old items kept rest : Fates) : Type 0 where
  pub sorted : IsStrictlySortedBy position_cmp (keys_of rest)
  pub there : (p : Position) → is_fresh old p ≡ true → is_fresh kept p ≡ true
  pub same : (p : Position) → is_fresh old p ≡ true → put_over (fate_in rest p) (fate_in kept p) ≡ put_over (fate_in items p) (fate_in old p)

pub put_first : (old items rest : Fates) → rest ≡ items → IsStrictlySortedBy position_cmp (keys_of items) → IsPut old items old rest
put_first old items rest is sorted = subst (IsPut old items old) (sym is) (record { sorted = sorted; there = λ p h. h; same = λ p h. refl })

-- one that is put first, and then others
over_step : (e : Position × Option Value) (es : Fates) (p : Position) (now : Option (Option Value)) → IsStrictlySortedBy position_cmp (keys_of (e ∷ es)) → put_over (fate_in es p) (cond (is_at (position_cmp p) e.0) (Some e.1) now) ≡ put_over (fate_in (e ∷ es) p) now
over_step e es p now sorted = by (is_at (position_cmp p) e.0) refl
  where
    by : (b : Bool) → is_at (position_cmp p) e.0 ≡ b → put_over (fate_in es p) (cond b (Some e.1) now) ≡ put_over (cond b (Some e.1) (fate_in es p)) now
    by true at = ap (λ (o : Option (Option Value)). put_over o (Some e.1)) (ap (fate_in es) (at_one p e.0 at) ∙ head_alone e es sorted)
    by false at = refl

still_there : (b : Bool) (v : Option Value) (o : Option (Option Value)) → is_some o ≡ true → is_some (cond b (Some v) o) ≡ true
still_there true v o h = refl
still_there false v o h = h

pub put_more : (old items kept after rest : Fates) (e : Position × Option Value) (es : Fates) → IsPut old items kept rest → rest ≡ e ∷ es → ((p : Position) → is_fresh kept p ≡ true → fate_in after p ≡ cond (is_at (position_cmp p) e.0) (Some e.1) (fate_in kept p)) → IsPut old items after es
put_more old items kept after rest e es held is put =
    let now = subst (IsPut old items kept) is held in
    record {
      sorted = tail_sorted e es now.sorted;
      there = λ p h. ap is_some (put p (now.there p h)) ∙ still_there (is_at (position_cmp p) e.0) e.1 (fate_in kept p) (now.there p h);
      same = λ p h.
          ap (put_over (fate_in es p)) (put p (now.there p h)) ∙ over_step e es p (fate_in kept p) now.sorted ∙ now.same p h;
    }

pub put_last : (old items kept rest : Fates) → IsPut old items kept rest → rest ≡ [] → (p : Position) → is_fresh old p ≡ true → fate_in kept p ≡ put_over (fate_in items p) (fate_in old p)
put_last old items kept rest held none p h = (subst (IsPut old items kept) none held).same p h

-- the same where nothing stood before
pub record IsGathered (items kept rest : Fates) : Type 0 where
  pub sorted : IsStrictlySortedBy position_cmp (keys_of rest)
  pub same : (p : Position) → put_over (fate_in rest p) (fate_in kept p) ≡ fate_in items p

pub gather_first : (items kept rest : Fates) → rest ≡ items → kept ≡ [] → IsStrictlySortedBy position_cmp (keys_of items) → IsGathered items kept rest
gather_first items kept rest is none sorted =
    subst (λ (k : Fates). IsGathered items k rest) (sym none) (subst (IsGathered items []) (sym is) (record { sorted = sorted; same = λ p. alone (fate_in items p) }))
  where
    alone : (o : Option (Option Value)) → put_over o None ≡ o
    alone None = refl
    alone (Some v) = refl

pub gather_more : (items kept after rest : Fates) (e : Position × Option Value) (es : Fates) → IsGathered items kept rest → rest ≡ e ∷ es → after ≡ insert_entry position_cmp kept e.0 e.1 → IsGathered items after es
gather_more items kept after rest e es held is put =
    let now = subst (IsGathered items kept) is held in
    record {
      sorted = tail_sorted e es now.sorted;
      same = λ p.
          ap (put_over (fate_in es p)) (ap (λ (k : Fates). fate_in k p) put ∙ lookup_insert kept e.0 e.1 p) ∙ over_step e es p (fate_in kept p) now.sorted ∙ now.same p;
    }

pub gather_last : (items kept rest : Fates) → IsGathered items kept rest → rest ≡ [] → (p : Position) → fate_in kept p ≡ fate_in items p
gather_last items kept rest held none p = (subst (IsGathered items kept) none held).same p

-- ---- what is kept after an edit

pub kept_after : (part : Part) (at : Position) (raw : List ℕ) (kept roomy put tidied computed : Fates) → IsStrictlySortedBy position_cmp (keys_of part) → IsKept part kept → IsComputed part at raw kept computed
    → ((p : Position) → is_fresh kept p ≡ true → fate_in roomy p ≡ fate_in kept p)
    → (is_formula (content_at (with_text part at raw) at) ≡ true → is_fresh roomy at ≡ true)
    → ((p : Position) → is_at (position_cmp p) at ≡ false → is_formula (content_at (with_text part at raw) p) ≡ true → is_formula (content_at part p) ≡ true)
    → ((p : Position) → is_fresh roomy p ≡ true → fate_in put p ≡ put_over (fate_in computed p) (fate_in roomy p))
    → ((p : Position) → is_formula (content_at (with_text part at raw) p) ≡ true → fate_in tidied p ≡ fate_in put p)
    → IsKept (with_text part at raw) tidied
kept_after part at raw kept roomy put tidied computed sorted is right stay room other over tidy p kind =
    tidy p kind ∙ by (is_at (position_cmp p) at) refl
  where
    some_fresh : (q : Position) (o : Option Value) (es : Fates) → fate_in es q ≡ Some o → is_fresh es q ≡ true
    some_fresh q o es e = ap is_some e

    over_some : (x a b : Option (Option Value)) → is_some x ≡ true → put_over x a ≡ put_over x b
    over_some (Some o) a b h = refl
    over_some None a b h = absurd (both_ways false refl h)

    by : (b : Bool) → is_at (position_cmp p) at ≡ b → fate_in put p ≡ Some (fate_at (with_text part at raw) p)
    by true here =
        let same = at_one p at here in
        over p (ap (is_fresh roomy) same ∙ room (ap (λ (q : Position). is_formula (content_at (with_text part at raw) q)) (sym same) ∙ kind))
        ∙ over_some (fate_in computed p) (fate_in roomy p) (fate_in kept p) (ap (is_fresh computed) same ∙ right.edited)
        ∙ right.right p kind
    by false apart =
        let old = is p (other p apart kind) in
        let there = some_fresh p (fate_at part p) kept old in
        over p (ap is_some (stay p there) ∙ there) ∙ ap (put_over (fate_in computed p)) (stay p there) ∙ right.right p kind

-- room for more changes nothing that is kept
pub kept_roomy : (part : Part) (kept roomy : Fates) → IsKept part kept → ((p : Position) → is_fresh kept p ≡ true → fate_in roomy p ≡ fate_in kept p) → IsKept part roomy
kept_roomy part kept roomy is stay p kind = stay p (ap is_some (is p kind)) ∙ is p kind

-- an insert at a cell for which nothing stands leaves what stands for others
pub room_stays : (kept : Fates) (at : Position) (o : Option Value) → is_fresh kept at ≡ false → (p : Position) → is_fresh kept p ≡ true → fate_in (insert_entry position_cmp kept at o) p ≡ fate_in kept p
room_stays kept at o absent p there = lookup_insert kept at o p ∙ by (is_at (position_cmp p) at) refl
  where
    by : (b : Bool) → is_at (position_cmp p) at ≡ b → cond b (Some o) (fate_in kept p) ≡ fate_in kept p
    by true here = absurd (both_ways (is_fresh kept at) absent (ap (is_fresh kept) (sym (at_one p at here)) ∙ there))
    by false here = refl

-- where a cell has no formula, what stands for it can go
pub tidied_stays : (part : Part) (kept : Fates) (at : Position) → is_formula (content_at part at) ≡ false → (p : Position) → is_formula (content_at part p) ≡ true → cond (is_at (position_cmp at) p) None (fate_in kept p) ≡ fate_in kept p
tidied_stays part kept at plain p kind = by (is_at (position_cmp at) p) refl
  where
    by : (b : Bool) → is_at (position_cmp at) p ≡ b → cond b None (fate_in kept p) ≡ fate_in kept p
    by true here = absurd (both_ways (is_formula (content_at part at)) plain (ap (λ (q : Position). is_formula (content_at part q)) (at_one at p here) ∙ kind))
    by false here = refl
