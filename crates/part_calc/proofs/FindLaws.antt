-- Finding values cell by cell: what is seen stays right, and what is not seen when nothing moves is circular.
use Rattle.std.proofs.Common.{◌≡◌, ℕ, suc, ◌+◌, ◌<◌, ◌≤◌, Bool, true, false, cond, ◌||◌, ◌⊎◌, inl, inr, List, [], ◌∷◌, ◌++◌, length, drop, get_or, Option, Some, None, refl, ap, sym, ◌∙◌, subst, ⊎_elim, arith, unwrap_or, drop-cons, drop_of_length-le, length-append, add-one}
use Rattle.std.specs.BTreeMap.{is_at, insert_entry}
use Rattle.std.specs.List.{list_any, list_all, AllByRecursion}
use Rattle.std.specs.Option.{is_some, is_none}
use Rattle.std.proofs.lemmas.Bool.{both_ways, cases_Bool, or_cases, or_left, or_right, and_cases, cond-true, cond-false}
use Rattle.std.proofs.lemmas.List.Folds.{list_any-append}
use Rattle.calc_base.proofs.ValueLaws.{found_follows}
use Rattle.calc_base.proofs.EditLaws.{full_at_end}
use Rattle.formula_base.specs.declared.values.Value.{Value}
use Rattle.formula_base.specs.declared.values.Value.TheVariants.{Empty, Fault}
use Rattle.formula_base.specs.declared.values.CellFault.TheVariants.{Circ}
use Rattle.formula_base.specs.declared.expressions.Expr.{Expr}
use Rattle.formula_base.specs.Evaluation.{eval_of, reads_of}
use Rattle.formula_base.specs.Ranges.{Position, position_cmp}
use Rattle.part_calc.specs.declared.contents.Content.{Content}
use Rattle.part_calc.specs.declared.contents.Content.TheVariants.{Plain, Formula}
use Rattle.part_calc.specs.Contents.{is_formula, reads_in, value_with}
use Rattle.part_calc.specs.Parts.{Part, content_at, formulas, reads_at, step_at, is_circular, value_at}
use Rattle.part_calc.specs.Finding.{Known, with_found, seen_in, seen_at, look_at, is_ready, attempted, known_after, left_after, IsSound, is_listed, Covers, AllWait, IsSwept, AreFound}
use Rattle.part_calc.specs.Fates.{Fates, fate_in, is_fresh, found_over, fresh_after, fate_at}
use Rattle.part_calc.proofs.PositionLaws.{at_one, lookup_insert}
use Rattle.part_calc.proofs.PartLaws.{covers, local, plain_cell}

-- ---- what is seen

none_from_some : {V : Type 0} (v : V) → Some v ≡ None → ⊥
none_from_some v e = cc

seen_found : (c : Content) (v : Value) → is_none (seen_in c (Some v)) ≡ true → ⊥
seen_found (Plain w) v h = both_ways false refl h
seen_found (Formula e) v h = both_ways false refl h

-- what is seen at a cell once another value was found
seen_insert : (part : Part) (known : Known) (p : Position) (v : Value) (q : Position) → seen_at part (with_found known p v) q ≡ seen_in (content_at part q) (cond (is_at (position_cmp q) p) (Some v) (known q))
unfolding seen_at
seen_insert part known p v q = refl

-- ---- soundness

-- the value of a cell that is ready
ready_value : (part : Part) (known : Known) → IsSound part known → (p : Position) → is_ready part known p ≡ true → (is_circular part p ≡ false) × (value_at part p ≡ step_at part p (look_at part known))
unfolding is_circular value_at
ready_value part known sound p ready =
    found_follows (Fault Circ) (reads_at part) (formulas part) (step_at part) (covers part) (local part) (seen_at part known) sound p ready

-- where nothing was found
pub sound_none : (part : Part) (known : Known) → ((p : Position) → known p ≡ None) → IsSound part known
unfolding seen_at
sound_none part known none p v = by (content_at part p) refl
  where
    some_one : (a b : Value) → Some a ≡ Some b → a ≡ b
    some_one a b e = cc

    by : (c : Content) → content_at part p ≡ c → seen_in c (known p) ≡ Some v → (is_circular part p ≡ false) × (value_at part p ≡ v)
    by (Plain w) is e = let plain = plain_cell part p w is in (plain.0, plain.1 ∙ some_one w v e)
    by (Formula x) is e = absurd (none_from_some v (sym e ∙ none p))

some_same : (a b : Value) → Some a ≡ Some b → a ≡ b
some_same a b e = cc

attempted_ready : (part : Part) (known : Known) (p : Position) (v : Value) → attempted part known p ≡ Some v → (is_ready part known p ≡ true) × (step_at part p (look_at part known) ≡ v)
unfolding attempted
attempted_ready part known p v = by (is_ready part known p) refl
  where
    by : (b : Bool) → is_ready part known p ≡ b → cond b (Some (step_at part p (look_at part known))) None ≡ Some v → (is_ready part known p ≡ true) × (step_at part p (look_at part known) ≡ v)
    by true is e = (is, some_same (step_at part p (look_at part known)) v e)
    by false is e = absurd (none_from_some v (sym e))

-- what is found at a ready cell is right too
sound_more : (part : Part) (known : Known) (p : Position) (v : Value) → IsSound part known → attempted part known p ≡ Some v → IsSound part (with_found known p v)
unfolding seen_at
sound_more part known p v sound tried q w e =
    by (is_at (position_cmp q) p) (content_at part q) refl refl (sym (seen_insert part known p v q) ∙ e)
  where
    before : (c : Content) → content_at part q ≡ c → seen_in c (known q) ≡ Some w → (is_circular part q ≡ false) × (value_at part q ≡ w)
    before c is e = sound q w (ap (λ (d : Content). seen_in d (known q)) is ∙ e)

    by : (b : Bool) (c : Content) → is_at (position_cmp q) p ≡ b → content_at part q ≡ c → seen_in c (cond b (Some v) (known q)) ≡ Some w → (is_circular part q ≡ false) × (value_at part q ≡ w)
    by false c at is e = before c is e
    by true (Plain u) at is e = before (Plain u) is e
    by true (Formula x) at is e =
        let same = at_one q p at in
        let ready = attempted_ready part known p v tried in
        let here = ready_value part known sound p ready.0 in
        (ap (is_circular part) same ∙ here.0, ap (value_at part) same ∙ here.1 ∙ ready.1 ∙ some_same v w e)

-- ---- waiting

not_all : {K : Type 0} {V : Type 0} (seen : K → Option V) (xs : List K) → list_all (λ r. is_some (seen r)) xs ≡ false → list_any (λ r. is_none (seen r)) xs ≡ true
not_all seen [] h = absurd (both_ways true h refl)
not_all {K} {V} seen (x ∷ xs) h =
    ⊎_elim
    (λ (first : is_some (seen x) ≡ false). or_left (is_none (seen x)) (list_any (λ r. is_none (seen r)) xs) (lost (seen x) first))
    (λ (rest : list_all (λ r. is_some (seen r)) xs ≡ false). or_right (is_none (seen x)) (list_any (λ r. is_none (seen r)) xs) (not_all seen xs rest))
    (and_cases (is_some (seen x)) (list_all (λ r. is_some (seen r)) xs) h)
  where
    lost : (o : Option V) → is_some o ≡ false → is_none o ≡ true
    lost (Some v) e = absurd (both_ways true e refl)
    lost None e = refl

-- a cell that can't be found yet reads one that isn't seen
attempt_waits : (part : Part) (known : Known) (p : Position) → attempted part known p ≡ None → list_any (λ r. is_none (seen_at part known r)) (reads_at part p) ≡ true
unfolding attempted
attempt_waits part known p e =
    not_all (seen_at part known) (reads_at part p) (by (is_ready part known p) refl e)
  where
    by : (b : Bool) → is_ready part known p ≡ b → cond b (Some (step_at part p (look_at part known))) None ≡ None → is_ready part known p ≡ false
    by true is h = absurd (none_from_some (step_at part p (look_at part known)) h)
    by false is h = is

pub all_at : (P : Position → Type 0) (positions : List Position) (p : Position) → AllByRecursion P positions → is_listed positions p ≡ true → P p
all_at P [] p all h = absurd (both_ways false refl h)
all_at P (x ∷ positions) p all h =
    ⊎_elim
    (λ (here : is_at (position_cmp p) x ≡ true). subst P (sym (at_one p x here)) all.0)
    (λ (there : is_listed positions p ≡ true). all_at P positions p all.1 there)
    (or_cases (is_at (position_cmp p) x) (is_listed positions p) h)

pub all_push : (P : Position → Type 0) (positions : List Position) (p : Position) → AllByRecursion P positions → P p → AllByRecursion P (positions ++ p ∷ [])
all_push P [] p all here = (here, tt)
all_push P (x ∷ positions) p all here = (all.0, all_push P positions p all.1 here)

-- where each cell that isn't seen waits for another or is circular, all is found
pub all_found : (part : Part) (known : Known) (left : List Position) → IsSound part known → Covers part known left → AllWait part known left → AreFound part known
unfolding is_circular value_at seen_at fate_at
all_found part known left sound covered waits p kind = by (known p) refl
  where
    each_waits : (q : Position) → is_none (seen_at part known q) ≡ true → (list_any (λ r. is_none (seen_at part known r)) (reads_at part q) ≡ true) ⊎ (is_circular part q ≡ true)
    each_waits q lost =
        ⊎_elim
        (λ (e : is_circular part q ≡ true). inr e)
        (λ (e : is_circular part q ≡ false). inl (all_at (λ c. list_any (λ r. is_none (seen_at part known r)) (reads_at part c) ≡ true) left q waits (covered q e lost)))
        (cases_Bool (is_circular part q))

    lost_circles : is_none (seen_at part known p) ≡ true → is_circular part p ≡ true
    lost_circles lost = full_at_end (Fault Circ) (reads_at part) (formulas part) (step_at part) (covers part) (seen_at part known) sound each_waits p lost

    seen_formula_in : (c : Content) (o : Option Value) → is_formula c ≡ true → seen_in c o ≡ o
    seen_formula_in (Plain v) o is = absurd (both_ways false refl is)
    seen_formula_in (Formula x) o is = refl

    by : (o : Option Value) → known p ≡ o → known p ≡ cond (is_circular part p) None (Some (value_at part p))
    by (Some v) e =
        let right = sound p v (seen_formula_in (content_at part p) (known p) kind ∙ e) in
        e ∙ ap Some (sym right.1) ∙ sym (cond-false (is_circular part p) None (Some (value_at part p)) right.0)
    by None e =
        e ∙ sym (cond-true (is_circular part p) None (Some (value_at part p)) (lost_circles (ap is_none (seen_formula_in (content_at part p) (known p) kind ∙ e))))

-- ---- a sweep

-- what holds in a sweep before the try i
pub record Held (part : Part) (known : Known) (waiting : List Position) (i : ℕ) (left : List Position) : Type 0 where
  pub sound : IsSound part known
  pub covered : (p : Position) → is_circular part p ≡ false → is_none (seen_at part known p) ≡ true → (is_listed left p || is_listed (drop i waiting) p) ≡ true
  pub count : length left ≤ i
  pub still : length left ≡ i → AllWait part known left

pub try_first : (part : Part) (known : Known) (waiting : List Position) → IsSound part known → Covers part known waiting → Held part known waiting 0 []
try_first part known waiting sound covered = record {
  sound = sound;
  covered = covered;
  count = omega arith;
  still = λ _. tt;
}

-- the cell of a try is the first of those that are left
pub rest_listed : (waiting : List Position) (i : ℕ) (position p : Position) → i < length waiting → position ≡ get_or waiting i position → is_listed (drop i waiting) p ≡ (is_at (position_cmp p) position || is_listed (drop (i + 1) waiting) p)
rest_listed waiting i position p h is =
    ap (λ (xs : List Position). is_listed xs p) (drop-cons waiting i position h)
    ∙ ap (λ (q : Position). is_at (position_cmp p) q || is_listed (drop (suc i) waiting) p) (sym is)
    ∙ ap (λ (j : ℕ). is_at (position_cmp p) position || is_listed (drop j waiting) p) (sym (add-one i))

push_listed : (left : List Position) (position p : Position) → is_listed (left ++ position ∷ []) p ≡ (is_listed left p || (is_at (position_cmp p) position || false))
push_listed left position p = list_any-append (is_at (position_cmp p)) left (position ∷ [])

dropped : (a b c : Bool) → (b ≡ true → ⊥) → (a || (b || c)) ≡ true → (a || c) ≡ true
dropped true b c f h = refl
dropped false true c f h = absurd (f refl)
dropped false false c f h = h

joined : (a b c : Bool) → (a || (b || c)) ≡ true → ((a || (b || false)) || c) ≡ true
joined true b c h = refl
joined false true c h = refl
joined false false c h = h

-- a try at a cell whose value was found before
try_known : (part : Part) (known : Known) (waiting : List Position) (i : ℕ) (left : List Position) (position : Position) (v : Value) → Held part known waiting i left → i < length waiting → position ≡ get_or waiting i position → known position ≡ Some v → Held part known waiting (i + 1) left
unfolding seen_at
try_known part known waiting i left position v held h is found = record {
  sound = held.sound;
  covered = λ p free lost.
      dropped (is_listed left p) (is_at (position_cmp p) position) (is_listed (drop (i + 1) waiting) p)
      (λ at. seen_found (content_at part p) v (subst (λ (o : Option Value). is_none (seen_in (content_at part p) o) ≡ true) (ap known (at_one p position at) ∙ found) lost))
      (subst (λ (b : Bool). (is_listed left p || b) ≡ true) (rest_listed waiting i position p h is) (held.covered p free lost));
  count = omega (arith, held.count);
  still = λ e. absurd (omega (arith, held.count, e));
}

-- what isn't seen now was not seen before
seen_before : (part : Part) (known : Known) (p : Position) → is_none (seen_in (content_at part p) (known p)) ≡ true → is_none (seen_at part known p) ≡ true
unfolding seen_at
seen_before part known p lost = lost

-- a try at a cell whose value is found now
try_found : (part : Part) (known : Known) (waiting : List Position) (i : ℕ) (left : List Position) (position : Position) (v : Value) → Held part known waiting i left → i < length waiting → position ≡ get_or waiting i position → attempted part known position ≡ Some v
    → Held part (with_found known position v) waiting (i + 1) left
try_found part known waiting i left position v held h is tried = record {
  sound = sound_more part known position v held.sound tried;
  covered = λ p free lost.
      by p (is_at (position_cmp p) position) refl (subst (λ (o : Option Value). is_none o ≡ true) (seen_insert part known position v p) lost)
      (λ before. subst (λ (b : Bool). (is_listed left p || b) ≡ true) (rest_listed waiting i position p h is) (held.covered p free before));
  count = omega (arith, held.count);
  still = λ e. absurd (omega (arith, held.count, e));
}
  where
    by : (p : Position) (b : Bool) → is_at (position_cmp p) position ≡ b → is_none (seen_in (content_at part p) (cond b (Some v) (known p))) ≡ true
        → (is_none (seen_at part known p) ≡ true → (is_listed left p || (is_at (position_cmp p) position || is_listed (drop (i + 1) waiting) p)) ≡ true)
        → (is_listed left p || is_listed (drop (i + 1) waiting) p) ≡ true
    by p true at lost before = absurd (seen_found (content_at part p) v lost)
    by p false at lost before =
        dropped (is_listed left p) (is_at (position_cmp p) position) (is_listed (drop (i + 1) waiting) p) (both_ways (is_at (position_cmp p) position) at) (before (seen_before part known p lost))

-- a try at a cell that waits
try_waits : (part : Part) (known : Known) (waiting : List Position) (i : ℕ) (left : List Position) (position : Position) → Held part known waiting i left → i < length waiting → position ≡ get_or waiting i position → attempted part known position ≡ None
    → Held part known waiting (i + 1) (left ++ position ∷ [])
try_waits part known waiting i left position held h is tried =
    let longer : length (left ++ position ∷ []) ≡ length left + 1 = simp length-append in
    record {
      sound = held.sound;
      covered = λ p free lost.
          subst (λ (b : Bool). (b || is_listed (drop (i + 1) waiting) p) ≡ true) (sym (push_listed left position p))
          (joined (is_listed left p) (is_at (position_cmp p) position) (is_listed (drop (i + 1) waiting) p)
          (subst (λ (b : Bool). (is_listed left p || b) ≡ true) (rest_listed waiting i position p h is) (held.covered p free lost)));
      count = omega (arith, held.count, longer);
      still = λ e. all_push (λ q. list_any (λ r. is_none (seen_at part known r)) (reads_at part q) ≡ true) left position (held.still (omega (arith, longer, e))) (attempt_waits part known position tried);
    }

-- a try
try_any : (part : Part) (known : Known) (waiting : List Position) (i : ℕ) (left : List Position) (position : Position) → Held part known waiting i left → i < length waiting → position ≡ get_or waiting i position
    → Held part (known_after (known position) (attempted part known position) known position) waiting (i + 1) (left_after (known position) (attempted part known position) left position)
try_any part known waiting i left position held h is = by (known position) (attempted part known position) refl refl
  where
    by : (found tried : Option Value) → known position ≡ found → attempted part known position ≡ tried → Held part (known_after found tried known position) waiting (i + 1) (left_after found tried left position)
    by (Some v) tried f t = try_known part known waiting i left position v held h is f
    by None (Some v) f t = try_found part known waiting i left position v held h is t
    by None None f t = try_waits part known waiting i left position held h is t

-- functions that agree are one
same_known : (f g : Known) → ((p : Position) → f p ≡ g p) → f ≡ g
same_known f g same = λ i p. same p i

-- what is known by a map to which a value was added
known_insert : (fresh kept : Fates) (p : Position) (v : Value) (q : Position) → found_over (insert_entry position_cmp fresh p (Some v)) kept q ≡ with_found (found_over fresh kept) p v q
unfolding found_over
known_insert fresh kept p v q =
    ap (λ (o : Option (Option Value)). unwrap_or o (unwrap_or (fate_in kept q) None)) (lookup_insert fresh p (Some v) q) ∙ by (is_at (position_cmp q) p)
  where
    by : (b : Bool) → unwrap_or (cond b (Some (Some v)) (fate_in fresh q)) (unwrap_or (fate_in kept q) None) ≡ cond b (Some v) (unwrap_or (fate_in fresh q) (unwrap_or (fate_in kept q) None))
    by true = refl
    by false = refl

known_fresh : (fresh kept : Fates) (p : Position) (found tried : Option Value) → found_over (fresh_after found tried fresh p) kept ≡ known_after found tried (found_over fresh kept) p
known_fresh fresh kept p (Some v) tried = refl
known_fresh fresh kept p None (Some v) = same_known (found_over (insert_entry position_cmp fresh p (Some v)) kept) (with_found (found_over fresh kept) p v) (known_insert fresh kept p v)
known_fresh fresh kept p None None = refl

-- a try, as the code makes it
pub try_more : (part : Part) (fresh after kept : Fates) (waiting : List Position) (i : ℕ) (left left' : List Position) (position : Position) → Held part (found_over fresh kept) waiting i left → i < length waiting → position ≡ get_or waiting i position
    → after ≡ fresh_after (found_over fresh kept position) (attempted part (found_over fresh kept) position) fresh position → left' ≡ left_after (found_over fresh kept position) (attempted part (found_over fresh kept) position) left position
    → Held part (found_over after kept) waiting (i + 1) left'
try_more part fresh after kept waiting i left left' position held h is fresh_is left_is =
    let known = found_over fresh kept in
    subst (λ (es : Fates). Held part (found_over es kept) waiting (i + 1) left') (sym fresh_is)
    (subst (λ (l : List Position). Held part (found_over (fresh_after (known position) (attempted part known position) fresh position) kept) waiting (i + 1) l) (sym left_is)
    (subst (λ (k : Known). Held part k waiting (i + 1) (left_after (known position) (attempted part known position) left position)) (sym (known_fresh fresh kept position (known position) (attempted part known position)))
    (try_any part known waiting i left position held h is)))

-- no cell is taken out by a try
fresh_insert : (fresh : Fates) (p : Position) (v : Value) (q : Position) → is_fresh fresh q ≡ true → is_fresh (insert_entry position_cmp fresh p (Some v)) q ≡ true
fresh_insert fresh p v q there = ap is_some (lookup_insert fresh p (Some v) q) ∙ by (is_at (position_cmp q) p)
  where
    by : (b : Bool) → is_some (cond b (Some (Some v)) (fate_in fresh q)) ≡ true
    by true = refl
    by false = there

pub try_stays : (fresh after : Fates) (p : Position) (found tried : Option Value) → after ≡ fresh_after found tried fresh p → (q : Position) → is_fresh fresh q ≡ true → is_fresh after q ≡ true
try_stays fresh after p found tried is q there = subst (λ (es : Fates). is_fresh es q ≡ true) (sym is) (by found tried)
  where
    by : (f t : Option Value) → is_fresh (fresh_after f t fresh p) q ≡ true
    by (Some v) t = there
    by None (Some v) = fresh_insert fresh p v q there
    by None None = there

-- after the last try
pub swept : (part : Part) (known : Known) (waiting : List Position) (i : ℕ) (left : List Position) → length waiting ≤ i → i ≤ length waiting → Held part known waiting i left → IsSwept part known waiting left
swept part known waiting i left h k held =
    let all : i ≡ length waiting = omega arith in
    record {
      sound = held.sound;
      covers = λ p free lost.
          none_more (is_listed left p) (is_listed (drop i waiting) p) (ap (λ (xs : List Position). is_listed xs p) (drop_of_length-le waiting h)) (held.covered p free lost);
      fewer = omega (arith, held.count);
      still = λ e. held.still (e ∙ sym all);
    }
  where
    none_more : (a b : Bool) → b ≡ false → (a || b) ≡ true → a ≡ true
    none_more true b e h = refl
    none_more false b e h = absurd (both_ways b e h)

-- ---- for the code

-- what can be found of a cell without a formula
pub attempt_plain : (part : Part) (known : Known) (p : Position) → is_formula (content_at part p) ≡ false → attempted part known p ≡ Some (look_at part known p)
unfolding attempted seen_at
attempt_plain part known p = by (content_at part p)
  where
    by : (c : Content) → is_formula c ≡ false → cond (list_all (λ r. is_some (seen_at part known r)) (reads_in c)) (Some (value_with c (look_at part known))) None ≡ Some (unwrap_or (seen_in c (known p)) (Fault Circ))
    by (Plain v) is = refl
    by (Formula e) is = absurd (both_ways true is refl)

-- of a formula whose cells are all seen
pub attempt_formula : (part : Part) (known : Known) (p : Position) (e : Expr) → content_at part p ≡ Formula e → list_all (λ r. is_some (seen_at part known r)) (reads_of e) ≡ true → attempted part known p ≡ Some (eval_of (look_at part known) e)
unfolding attempted
attempt_formula part known p e is all =
    ap (λ (c : Content). cond (list_all (λ r. is_some (seen_at part known r)) (reads_in c)) (Some (value_with c (look_at part known))) None) is
    ∙ cond-true (list_all (λ r. is_some (seen_at part known r)) (reads_of e)) (Some (eval_of (look_at part known) e)) None all

-- and of one with a cell that isn't
pub attempt_early : (part : Part) (known : Known) (p : Position) (e : Expr) → content_at part p ≡ Formula e → list_all (λ r. is_some (seen_at part known r)) (reads_of e) ≡ false → attempted part known p ≡ None
unfolding attempted
attempt_early part known p e is all =
    ap (λ (c : Content). cond (list_all (λ r. is_some (seen_at part known r)) (reads_in c)) (Some (value_with c (look_at part known))) None) is
    ∙ cond-false (list_all (λ r. is_some (seen_at part known r)) (reads_of e)) (Some (eval_of (look_at part known) e)) None all

pub seen_plain : (part : Part) (known : Known) (p : Position) (v : Value) → content_at part p ≡ Plain v → seen_at part known p ≡ Some v
unfolding seen_at
seen_plain part known p v is = ap (λ (c : Content). seen_in c (known p)) is

pub seen_formula : (part : Part) (known : Known) (p : Position) (e : Expr) → content_at part p ≡ Formula e → seen_at part known p ≡ known p
unfolding seen_at
seen_formula part known p e is = ap (λ (c : Content). seen_in c (known p)) is

pub is_seen_plain : (part : Part) (known : Known) (p : Position) → is_formula (content_at part p) ≡ false → is_some (seen_at part known p) ≡ true
unfolding seen_at
is_seen_plain part known p = by (content_at part p)
  where
    by : (c : Content) → is_formula c ≡ false → is_some (seen_in c (known p)) ≡ true
    by (Plain v) is = refl
    by (Formula e) is = absurd (both_ways true is refl)

-- what a formula that names a cell is given, by what the cell's text says
pub look_through : (part : Part) (known : Known) (p : Position) (c : Content) → c ≡ content_at part p → unwrap_or (seen_in c (known p)) (Fault Circ) ≡ look_at part known p
unfolding seen_at
look_through part known p c is = ap (λ (d : Content). unwrap_or (seen_in d (known p)) (Fault Circ)) is

pub look_empty : (part : Part) (known : Known) (p : Position) → content_at part p ≡ Plain Empty → Empty ≡ look_at part known p
look_empty part known p is = look_through part known p (Plain Empty) (sym is)

-- after a sweep that found nothing
pub find_last : (part : Part) (known : Known) (taken waiting left : List Position) (count number : ℕ) → IsSwept part known taken left → taken ≡ waiting → count ≡ length waiting → number ≡ length left → number ≡ count → AreFound part known
find_last part known taken waiting left count number done is counted numbered same =
    let still : length left ≡ length taken = sym numbered ∙ same ∙ counted ∙ ap length (sym is) in
    all_found part known left done.sound done.covers (done.still still)
