-- The walk along readers: what each visit leaves of its state.
use Rattle.std.proofs.Common.{◌≡◌, ℕ, ◌+◌, ◌<◌, Bool, true, false, cond, ◌||◌, ◌&&◌, List, [], ◌∷◌, ◌++◌, length, take, get_or, Option, Some, None, refl, ap, sym, ◌∙◌, subst, ⊎_elim, unwrap_or, arith}
use Rattle.std.specs.BTreeMap.{is_at}
use Rattle.std.specs.List.{list_any}
use Rattle.std.specs.Option.{is_some}
use Rattle.std.proofs.lemmas.Bool.{both_ways, or_cases, or_right}
use Rattle.std.proofs.lemmas.List.{take_more}
use Rattle.std.proofs.lemmas.List.Folds.{list_any-append}
use Rattle.formula_base.specs.Blocks.{is_within}
use Rattle.formula_base.specs.declared.values.Value.{Value}
use Rattle.formula_base.specs.Ranges.{Position, position_cmp}
use Rattle.part_calc.specs.declared.dependants.Visit.{Visit}
use Rattle.part_calc.specs.declared.lanes.Span.{Span}
use Rattle.part_calc.specs.Finding.{is_listed}
use Rattle.part_calc.specs.Lanes.{Index, is_read, is_reader}
use Rattle.part_calc.specs.Fates.{Fates, fate_in, is_fresh}
use Rattle.part_calc.specs.Walking.{entering, leaving, enters, leaves, IsPushed, IsWalk, IsReached}
use Rattle.part_calc.proofs.PositionLaws.{at_one}

or_false : (b : Bool) → b ≡ (b || false)
or_false true = refl
or_false false = refl

or_assoc : (a b c : Bool) → ((a || b) || c) ≡ (a || (b || c))
or_assoc true b c = refl
or_assoc false b c = refl

-- ---- visits to come

-- none was added
pub pushed_none : (visits : List Visit) → IsPushed visits visits (λ c. false)
pushed_none visits = record { enter = λ c. or_false (list_any (enters c) visits); leave = λ c. refl }

-- some, and then more
pub pushed_both : (before mid after : List Visit) (a b : Position → Bool) → IsPushed before mid a → IsPushed mid after b → IsPushed before after (λ c. a c || b c)
pushed_both before mid after a b first second = record {
  enter = λ c. second.enter c ∙ ap (λ (x : Bool). x || b c) (first.enter c) ∙ or_assoc (list_any (enters c) before) (a c) (b c);
  leave = λ c. second.leave c ∙ first.leave c;
}

-- the same cells
pub pushed_same : (before after : List Visit) (a b : Position → Bool) → ((c : Position) → a c ≡ b c) → IsPushed before after a → IsPushed before after b
pushed_same before after a b same pushed = record {
  enter = λ c. pushed.enter c ∙ ap (λ (x : Bool). list_any (enters c) before || x) (same c);
  leave = pushed.leave;
}

-- one more cell
pub pushed_one : (before after : List Visit) (p : Position) → after ≡ before ++ entering p ∷ [] → IsPushed before after (λ c. is_at (position_cmp c) p)
pushed_one before after p is = record {
  enter = λ c. ap (list_any (enters c)) is ∙ list_any-append (enters c) before (entering p ∷ []) ∙ ap (λ (x : Bool). list_any (enters c) before || x) (sym (or_false (is_at (position_cmp c) p)));
  leave = λ c. ap (list_any (leaves c)) is ∙ list_any-append (leaves c) before (entering p ∷ []) ∙ sym (or_false (list_any (leaves c) before));
}

-- the readers among the first spans, and one more span
pub spans_more : (start before after : List Visit) (spans : List Span) (r : Position) (i : ℕ) (s : Span) → i < length spans → s ≡ get_or spans i s → IsPushed start before (is_read (take i spans) r)
    → IsPushed before after (λ c. is_within r s.block && is_at (position_cmp c) s.reader) → IsPushed start after (is_read (take (i + 1) spans) r)
spans_more start before after spans r i s h is held more =
    pushed_same start after (λ c. is_read (take i spans) r c || (is_within r s.block && is_at (position_cmp c) s.reader)) (is_read (take (i + 1) spans) r)
    (λ c.
    ap (λ (x : Bool). is_read (take i spans) r c || x) (or_false (is_within r s.block && is_at (position_cmp c) s.reader))
    ∙ sym (list_any-append (λ (t : Span). is_within r t.block && is_at (position_cmp c) t.reader) (take i spans) (s ∷ []))
    ∙ ap (λ (t : Span). is_read (take i spans ++ t ∷ []) r c) is
    ∙ ap (λ (ts : List Span). is_read ts r c) (sym (take_more spans i s h)))
    (pushed_both start before after (is_read (take i spans) r) (λ c. is_within r s.block && is_at (position_cmp c) s.reader) held more)

pub span_in : (before after : List Visit) (r : Position) (s : Span) → is_within r s.block ≡ true → after ≡ before ++ entering s.reader ∷ [] → IsPushed before after (λ c. is_within r s.block && is_at (position_cmp c) s.reader)
span_in before after r s within is =
    pushed_same before after (λ c. is_at (position_cmp c) s.reader) (λ c. is_within r s.block && is_at (position_cmp c) s.reader)
    (λ c. ap (λ (b : Bool). b && is_at (position_cmp c) s.reader) (sym within)) (pushed_one before after s.reader is)

pub span_out : (visits : List Visit) (r : Position) (s : Span) → is_within r s.block ≡ false → IsPushed visits visits (λ c. is_within r s.block && is_at (position_cmp c) s.reader)
span_out visits r s without =
    pushed_same visits visits (λ c. false) (λ c. is_within r s.block && is_at (position_cmp c) s.reader)
    (λ c. ap (λ (b : Bool). b && is_at (position_cmp c) s.reader) (sym without)) (pushed_none visits)

-- the first cells, and one more
pub starts_more : (visits after : List Visit) (starts : List Position) (i : ℕ) (p : Position) → i < length starts → p ≡ get_or starts i p → IsPushed [] visits (is_listed (take i starts)) → after ≡ visits ++ entering p ∷ [] → IsPushed [] after (is_listed (take (i + 1) starts))
starts_more visits after starts i p h is held more =
    pushed_same [] after (λ c. is_listed (take i starts) c || is_at (position_cmp c) p) (is_listed (take (i + 1) starts))
    (λ c.
    ap (λ (x : Bool). is_listed (take i starts) c || x) (or_false (is_at (position_cmp c) p))
    ∙ sym (list_any-append (is_at (position_cmp c)) (take i starts) (p ∷ []))
    ∙ ap (λ (q : Position). is_listed (take i starts ++ q ∷ []) c) is
    ∙ ap (λ (ps : List Position). is_listed ps c) (sym (take_more starts i p h)))
    (pushed_both [] visits after (is_listed (take i starts)) (λ c. is_at (position_cmp c) p) held (pushed_one visits after p more))

-- ---- the walk

-- before the first visit
pub walk_first : (index : Index) (starts : Position → Bool) (fresh : Fates) (visits : List Visit) (ordered : List Position) → fresh ≡ [] → ordered ≡ [] → IsPushed [] visits starts → IsWalk index starts fresh visits ordered
walk_first index starts fresh visits ordered none empty pushed =
    subst (λ (f : Fates). IsWalk index starts f visits ordered) (sym none)
    (subst (λ (o : List Position). IsWalk index starts [] visits o) (sym empty) (record {
      start = λ c is. pushed.enter c ∙ is;
      closed = λ c r h reads. absurd (both_ways false refl h);
      listed = λ c. sym (pushed.leave c);
      unfound = λ c. refl;
    }))

-- after the last
pub walk_last : (index : Index) (starts : Position → Bool) (fresh : Fates) (visits : List Visit) (ordered turned : List Position) → visits ≡ [] → ((p : Position) → is_listed turned p ≡ is_listed ordered p) → IsWalk index starts fresh visits ordered → IsReached index starts fresh turned
walk_last index starts fresh visits ordered turned none same walk =
    let done = subst (λ (v : List Visit). IsWalk index starts fresh v ordered) none walk in
    record {
      start = λ c is. or_false (is_fresh fresh c) ∙ done.start c is;
      closed = λ c r h reads. or_false (is_fresh fresh c) ∙ done.closed c r h reads;
      listed = λ c there. same c ∙ or_false (is_listed ordered c) ∙ sym (done.listed c) ∙ there;
      unfound = done.unfound;
    }

-- a cell that is left
pub walk_leave : (index : Index) (starts : Position → Bool) (fresh : Fates) (visits : List Visit) (ordered after : List Position) (p : Position) → after ≡ ordered ++ p ∷ [] → IsWalk index starts fresh (visits ++ leaving p ∷ []) ordered → IsWalk index starts fresh visits after
walk_leave index starts fresh visits ordered after p is walk = record {
  start = λ c h. ap (λ (x : Bool). is_fresh fresh c || x) (without c) ∙ walk.start c h;
  closed = λ c r h reads. ap (λ (x : Bool). is_fresh fresh c || x) (without c) ∙ walk.closed c r h reads;
  listed = λ c.
      walk.listed c ∙ ap (λ (x : Bool). is_listed ordered c || x) (list_any-append (leaves c) visits (leaving p ∷ []))
      ∙ moved (is_listed ordered c) (list_any (leaves c) visits) (is_at (position_cmp c) p || false)
      ∙ ap (λ (x : Bool). x || list_any (leaves c) visits) (sym (list_any-append (is_at (position_cmp c)) ordered (p ∷ [])) ∙ ap (λ (ps : List Position). is_listed ps c) (sym is));
  unfound = walk.unfound;
}
  where
    without : (c : Position) → list_any (enters c) visits ≡ list_any (enters c) (visits ++ leaving p ∷ [])
    without c = or_false (list_any (enters c) visits) ∙ sym (list_any-append (enters c) visits (leaving p ∷ []))

    moved : (a b d : Bool) → (a || (b || d)) ≡ ((a || d) || b)
    moved true b d = refl
    moved false true true = refl
    moved false true false = refl
    moved false false true = refl
    moved false false false = refl

-- what is fresh once a cell was entered
entered_fresh : (fresh after : Fates) (p : Position) → ((c : Position) → fate_in after c ≡ cond (is_at (position_cmp c) p) (Some None) (fate_in fresh c)) → (c : Position) → is_fresh after c ≡ (is_at (position_cmp c) p || is_fresh fresh c)
entered_fresh fresh after p is c = ap is_some (is c) ∙ by (is_at (position_cmp c) p)
  where
    by : (b : Bool) → is_some (cond b (Some None) (fate_in fresh c)) ≡ (b || is_fresh fresh c)
    by true = refl
    by false = refl

entered_unfound : (fresh after : Fates) (p : Position) → ((c : Position) → fate_in after c ≡ cond (is_at (position_cmp c) p) (Some None) (fate_in fresh c)) → ((c : Position) → unwrap_or (fate_in fresh c) None ≡ None) → (c : Position) → unwrap_or (fate_in after c) None ≡ None
entered_unfound fresh after p is none c = ap (λ (o : Option (Option Value)). unwrap_or o None) (is c) ∙ by (is_at (position_cmp c) p)
  where
    by : (b : Bool) → unwrap_or (cond b (Some None) (fate_in fresh c)) None ≡ None
    by true = refl
    by false = none c

-- visits with one more that enters a cell
one_more : (visits : List Visit) (p c : Position) → list_any (enters c) (visits ++ entering p ∷ []) ≡ (list_any (enters c) visits || (is_at (position_cmp c) p || false))
one_more visits p c = list_any-append (enters c) visits (entering p ∷ [])

-- a cell that was entered before
pub walk_again : (index : Index) (starts : Position → Bool) (fresh after : Fates) (visits : List Visit) (ordered : List Position) (p : Position) → is_fresh fresh p ≡ true → ((c : Position) → fate_in after c ≡ cond (is_at (position_cmp c) p) (Some None) (fate_in fresh c))
    → IsWalk index starts fresh (visits ++ entering p ∷ []) ordered → IsWalk index starts after visits ordered
walk_again index starts fresh after visits ordered p there is walk = record {
  start = λ c h. carried c (walk.start c h);
  closed = λ c r h reads. carried c (walk.closed c r (sym (same r) ∙ h) reads);
  listed = λ c. same c ∙ walk.listed c ∙ ap (λ (x : Bool). is_listed ordered c || x) (list_any-append (leaves c) visits (entering p ∷ []) ∙ sym (or_false (list_any (leaves c) visits)));
  unfound = entered_unfound fresh after p is walk.unfound;
}
  where
    same : (c : Position) → is_fresh after c ≡ is_fresh fresh c
    same c = entered_fresh fresh after p is c ∙ by (is_at (position_cmp c) p) refl
      where
        by : (b : Bool) → is_at (position_cmp c) p ≡ b → (b || is_fresh fresh c) ≡ is_fresh fresh c
        by true at = sym (ap (is_fresh fresh) (at_one c p at) ∙ there)
        by false at = refl

    ways : (f e a : Bool) → (a ≡ true → f ≡ true) → (f || (e || (a || false))) ≡ true → (f || e) ≡ true
    ways true e a h k = refl
    ways false true a h k = refl
    ways false false true h k = h refl
    ways false false false h k = k

    carried : (c : Position) → (is_fresh fresh c || list_any (enters c) (visits ++ entering p ∷ [])) ≡ true → (is_fresh after c || list_any (enters c) visits) ≡ true
    carried c h =
        ap (λ (x : Bool). x || list_any (enters c) visits) (same c)
        ∙ ways (is_fresh fresh c) (list_any (enters c) visits) (is_at (position_cmp c) p) (λ at. ap (is_fresh fresh) (at_one c p at) ∙ there)
        (ap (λ (x : Bool). is_fresh fresh c || x) (sym (one_more visits p c)) ∙ h)

-- a cell that is entered: it is to be left once its readers were entered
pub walk_enter : (index : Index) (starts : Position → Bool) (fresh after : Fates) (visits next : List Visit) (ordered : List Position) (p : Position) → is_fresh fresh p ≡ false → ((c : Position) → fate_in after c ≡ cond (is_at (position_cmp c) p) (Some None) (fate_in fresh c))
    → IsPushed (visits ++ leaving p ∷ []) next (is_reader index p) → IsWalk index starts fresh (visits ++ entering p ∷ []) ordered → IsWalk index starts after next ordered
walk_enter index starts fresh after visits next ordered p absent is pushed walk = record {
  start = λ c h. carried c (walk.start c h);
  closed = λ c r h reads.
      ⊎_elim
      (λ (at : is_at (position_cmp r) p ≡ true).
      or_right (is_fresh after c) (list_any (enters c) next)
      (pushed.enter c ∙ or_right (list_any (enters c) (visits ++ leaving p ∷ [])) (is_reader index p c) (ap (λ (q : Position). is_reader index q c) (sym (at_one r p at)) ∙ reads)))
      (λ (old : is_fresh fresh r ≡ true). carried c (walk.closed c r old reads))
      (or_cases (is_at (position_cmp r) p) (is_fresh fresh r) (sym (entered_fresh fresh after p is r) ∙ h));
  listed = λ c.
      entered_fresh fresh after p is c
      ∙ ap (λ (x : Bool). is_at (position_cmp c) p || x) (walk.listed c ∙ ap (λ (x : Bool). is_listed ordered c || x) (list_any-append (leaves c) visits (entering p ∷ [])))
      ∙ places (is_at (position_cmp c) p) (is_listed ordered c) (list_any (leaves c) visits)
      ∙ ap (λ (x : Bool). is_listed ordered c || x) (sym (list_any-append (leaves c) visits (leaving p ∷ [])) ∙ sym (pushed.leave c));
  unfound = entered_unfound fresh after p is walk.unfound;
}
  where
    places : (a o l : Bool) → (a || (o || (l || (false || false)))) ≡ (o || (l || (a || false)))
    places true true l = refl
    places true false true = refl
    places true false false = refl
    places false true l = refl
    places false false true = refl
    places false false false = refl

    ways : (f e a n : Bool) → (f || (e || (a || false))) ≡ true → ((a || f) || ((e || (false || false)) || n)) ≡ true
    ways true e true n h = refl
    ways true e false n h = refl
    ways false true true n h = refl
    ways false true false n h = refl
    ways false false true n h = refl
    ways false false false n h = absurd (both_ways false refl h)

    carried : (c : Position) → (is_fresh fresh c || list_any (enters c) (visits ++ entering p ∷ [])) ≡ true → (is_fresh after c || list_any (enters c) next) ≡ true
    carried c h =
        ap (λ (x : Bool). x || list_any (enters c) next) (entered_fresh fresh after p is c)
        ∙ ap (λ (x : Bool). (is_at (position_cmp c) p || is_fresh fresh c) || x) (pushed.enter c ∙ ap (λ (x : Bool). x || is_reader index p c) (list_any-append (enters c) visits (leaving p ∷ [])))
        ∙ ways (is_fresh fresh c) (list_any (enters c) visits) (is_at (position_cmp c) p) (is_reader index p c) (ap (λ (x : Bool). is_fresh fresh c || x) (sym (one_more visits p c)) ∙ h)

-- a visit that leaves, and one that enters
leaving_is : (v : Visit) → v.is_left ≡ true → v ≡ leaving v.position
leaving_is v e = ap (λ (b : Bool). record { position = v.position; is_left = b }) e

entering_is : (v : Visit) → v.is_left ≡ false → v ≡ entering v.position
entering_is v e = ap (λ (b : Bool). record { position = v.position; is_left = b }) e

pub take_leave : (index : Index) (starts : Position → Bool) (fresh : Fates) (visits : List Visit) (ordered after : List Position) (v : Visit) → v.is_left ≡ true → after ≡ ordered ++ v.position ∷ [] → IsWalk index starts fresh (visits ++ v ∷ []) ordered → IsWalk index starts fresh visits after
take_leave index starts fresh visits ordered after v left is walk =
    walk_leave index starts fresh visits ordered after v.position is (subst (λ (w : Visit). IsWalk index starts fresh (visits ++ w ∷ []) ordered) (leaving_is v left) walk)

pub take_enter : (index : Index) (starts : Position → Bool) (fresh : Fates) (visits : List Visit) (ordered : List Position) (v : Visit) → v.is_left ≡ false → IsWalk index starts fresh (visits ++ v ∷ []) ordered → IsWalk index starts fresh (visits ++ entering v.position ∷ []) ordered
take_enter index starts fresh visits ordered v enters_it walk = subst (λ (w : Visit). IsWalk index starts fresh (visits ++ w ∷ []) ordered) (entering_is v enters_it) walk

no_more : (visits : List Visit) → length visits ≡ 0 → visits ≡ []
no_more [] h = refl
no_more (v ∷ visits) h = absurd (omega (arith, h))

pub walk_end : (index : Index) (starts : Position → Bool) (fresh : Fates) (visits : List Visit) (ordered turned : List Position) → length visits ≡ 0 → ((p : Position) → is_listed turned p ≡ is_listed ordered p) → IsWalk index starts fresh visits ordered → IsReached index starts fresh turned
walk_end index starts fresh visits ordered turned none same walk = walk_last index starts fresh visits ordered turned (no_more visits none) same walk
