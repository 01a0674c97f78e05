-- The laws over legal histories.
use Rattle.std.proofs.Common.{◌≡◌, ℕ, zero, suc, ◌+◌, ◌≤◌, Bool, true, false, None, Some, List, []}
use Rattle.std.proofs.Common.{◌∷◌, ◌++◌, length, drop, cond, eqb, refl, sym, ap, subst, ◌∙◌, arith}
use Rattle.std.proofs.Common.{append_assoc, length-append, length-drop, min}
use Rattle.std.specs.Prelude.{Option}
use Rattle.std.proofs.lemmas.Bool.{eqb-true}
use Rattle.std.proofs.lemmas.List.{append-nil}
use Rattle.hall_machine.specs.declared.words.Label.{Label}
use Rattle.hall_machine.specs.declared.words.Ground.{Ground}
use Rattle.hall_machine.specs.declared.words.HallAct.{HallAct}
use Rattle.hall_machine.specs.declared.words.HallAct.TheVariants.{Enter, Post, Collect, Depart}
use Rattle.hall_machine.specs.declared.words.HallAct.TheVariants.{Arrive, Close}
use Rattle.hall_machine.specs.declared.words.Entry.{Entry}
use Rattle.hall_machine.specs.Machine.{Stage, empty, place_of}
use Rattle.hall_machine.specs.Ids.{Rises}
use Rattle.hall_machine.specs.Entries.{after, after_at, run, stage_of, IsMade, IsLegalFrom, IsLegal}
use Rattle.hall_machine.specs.Entries.{entry}
use Rattle.hall_machine.proofs.Rising.{rising_after}
use Rattle.hall_laws.specs.History.{place_in, place_from, place_told, IsAllowed, mails_in, label_of}
use Rattle.hall_laws.specs.History.{posted, count_of, taken, id_of, given, CountUp, IsMove}
use Rattle.hall_laws.proofs.Steps.{acted, new_id, collected_number}

run_snoc : (s : Stage) (es : List Entry) (e : Entry) → run s (es ++ e ∷ []) ≡ after e (run s es)
run_snoc s [] e = refl
run_snoc s (x ∷ es) e = run_snoc (after x s) es e

next_at : (who : ℕ) (act : HallAct) (p : Option ℕ) (s : Stage)
    → s.next ≡ (after_at who act p s).next
next_at who act None s = refl
next_at who (Enter file) (Some i) s = refl
next_at who (Post label urgent) (Some i) s = refl
next_at who (Collect n) (Some i) s = refl
next_at who (Depart to) (Some i) s = refl
next_at who Arrive (Some i) s = refl
next_at who Close (Some i) s = refl

rises_empty : Rises empty
rises_empty = omega arith

places_from : (g : Ground) (s : Stage) (es : List Entry) (doc : ℕ) → Rises s → IsLegalFrom g s es
    → place_in doc (run s es) ≡ place_from (place_in doc s) doc es
places_from g s [] doc rises h = refl
places_from g s (e ∷ es) doc rises h =
    let a = acted g s e.who e.doc e.act rises h.0 in
    places_from g (after e s) es doc (rising_after e.who e.doc e.act s rises) h.1
    ∙ ap (λ w. place_from w doc es) (a.places doc)

pub places_told : (g : Ground) (book : List Entry) → IsLegal g book → (doc : ℕ)
    → place_in doc (stage_of book) ≡ place_told doc book
places_told g book h doc = places_from g empty book doc rises_empty h

-- a beginning of a legal history is legal, and the next entry is one that the machine makes there
cut : (g : Ground) (s : Stage) (before rest : List Entry) (e : Entry) → Rises s
    → IsLegalFrom g s (before ++ e ∷ rest) → IsLegalFrom g s before
    × IsMade g (run s before) e.who e.doc e.act × Rises (run s before)
cut g s [] rest e rises h = (tt, h.0, rises)
cut g s (x ∷ xs) rest e rises h =
    let r = cut g (after x s) xs rest e (rising_after x.who x.doc x.act s rises) h.1 in
    ((h.0, r.0), r.1, r.2)

pub allowed : (g : Ground) (before rest : List Entry) (e : Entry) → IsLegal g (before ++ e ∷ rest)
    → IsAllowed e.who e.act (place_told e.doc before)
allowed g before rest e h =
    let c = cut g empty before rest e rises_empty h in
    let a = acted g (stage_of before) e.who e.doc e.act c.2 c.1 in
    subst (λ w. IsAllowed e.who e.act w) (places_told g before c.0 e.doc) a.allowed

counts_at : (g : Ground) (s : Stage) (who doc : ℕ) (act : HallAct) (n : ℕ) → n ≡ s.next
    → IsMade g s who doc act → (xs : List ℕ)
    → ((m : ℕ) → m ≡ (after (record { who = who; doc = doc; act = act }) s).next → CountUp m xs)
    → CountUp n (id_of doc act ++ xs)
counts_at g s who doc (Enter file) n is made xs h =
    (new_id g s doc file made ∙ sym is, h (n + 1) (ap (λ k. k + 1) is))
counts_at g s who doc (Post label urgent) n is made xs h = h n
    (is ∙ next_at who (Post label urgent) (place_of doc s.desks) s)
counts_at g s who doc (Collect k) n is made xs h = h n
    (is ∙ next_at who (Collect k) (place_of doc s.desks) s)
counts_at g s who doc (Depart to) n is made xs h = h n
    (is ∙ next_at who (Depart to) (place_of doc s.desks) s)
counts_at g s who doc Arrive n is made xs h = h n (is ∙ next_at who Arrive (place_of doc s.desks) s)
counts_at g s who doc Close n is made xs h = h n (is ∙ next_at who Close (place_of doc s.desks) s)

counts_from : (g : Ground) (s : Stage) (es : List Entry) → IsLegalFrom g s es → (n : ℕ)
    → n ≡ s.next → CountUp n (given es)
counts_from g s [] h n is = tt
counts_from g s (e ∷ es) h n is = counts_at g s e.who e.doc e.act n is h.0 (given es)
    (counts_from g (after e s) es h.1)

pub counts : (g : Ground) (book : List Entry) → IsLegal g book → CountUp 0 (given book)
counts g book h = counts_from g empty book h 0 refl

-- taking some from a list and then more
drop_more : {A : Type 0} (n m : ℕ) (xs ys : List A) → n ≤ length xs
    → drop m (drop n xs ++ ys) ≡ drop (n + m) (xs ++ ys)
drop_more zero m xs ys h = ap (λ k. drop k (xs ++ ys)) (omega arith)
drop_more (suc n) m [] ys h = absurd (omega (arith, h))
drop_more (suc n) m (x ∷ xs) ys h = drop_more n m xs ys (omega (arith, h))
    ∙ (let e : suc (n + m) ≡ suc n + m = omega arith in ap (λ k. drop k (x ∷ (xs ++ ys))) e)

mails_more : (b : Bool) (ms l ps : List Label) (k t : ℕ) → (b ≡ true → k ≤ length ms)
    → drop t (cond b (drop k (ms ++ l)) ms ++ ps)
    ≡ drop (cond b k 0 + t) (ms ++ (cond b l [] ++ ps))
mails_more true ms l ps k t few = drop_more k t (ms ++ l) ps
    (let f = few refl in omega (arith, length-append ms l))
    ∙ ap (drop (k + t)) (append_assoc ms l ps)
mails_more false ms l ps k t few = ap (λ j. drop j (ms ++ ps)) (omega arith)

few_more : (b : Bool) (ms l ps : List Label) (k t : ℕ) → (b ≡ true → k ≤ length ms)
    → t ≤ length (cond b (drop k (ms ++ l)) ms ++ ps)
    → cond b k 0 + t ≤ length (ms ++ (cond b l [] ++ ps))
few_more true ms l ps k t few h =
    (let f = few refl in omega (
      arith,
      h,
      length-append (drop k (ms ++ l)) ps,
      length-drop k
          (ms ++ l),
      length-append ms l,
      length-append ms (l ++ ps),
      length-append l ps,
    ))
few_more false ms l ps k t few h = omega (arith, h)

mails_from : (g : Ground) (s : Stage) (es : List Entry) (doc : ℕ) → Rises s → IsLegalFrom g s es
    → (mails_in doc (run s es) ≡ drop (taken doc es) (mails_in doc s ++ posted doc es))
    × (taken doc es ≤ length (mails_in doc s ++ posted doc es))
mails_from g s [] doc rises h = (sym (append-nil (mails_in doc s)), omega arith)
mails_from g s (e ∷ es) doc rises h =
    let a = acted g s e.who e.doc e.act rises h.0 in
    let r = mails_from g (after e s) es doc (rising_after e.who e.doc e.act s rises) h.1 in
    let few : eqb e.doc doc ≡ true
    → count_of e.act ≤ length (mails_in doc s) = λ is. subst
    (λ d. count_of e.act ≤ length (mails_in d s)) (eqb-true e.doc doc is) a.few in (
      r.0 ∙ (ap (λ ms. drop (taken doc es) (ms ++ posted doc es)) (a.mails doc)
          ∙ mails_more (eqb e.doc doc) (mails_in doc s) (label_of e.act) (posted doc es)
          (count_of e.act) (taken doc es) few),
      few_more (eqb e.doc doc) (mails_in doc s) (label_of e.act) (posted doc es) (count_of e.act)
          (taken doc es) few (subst (λ ms. taken doc es ≤ length (ms ++ posted doc es))
          (a.mails doc) r.1),
    )

pub waits : (g : Ground) (book : List Entry) → IsLegal g book → (doc : ℕ)
    → mails_in doc (stage_of book) ≡ drop (taken doc book) (posted doc book)
waits g book h doc = (mails_from g empty book doc rises_empty h).0

pub once : (g : Ground) (book : List Entry) → IsLegal g book → (doc : ℕ)
    → taken doc book ≤ length (posted doc book)
once g book h doc = (mails_from g empty book doc rises_empty h).1

-- a collect takes the oldest, at most 64
pub oldest : (g : Ground) (before rest : List Entry) (who doc n : ℕ)
    → IsLegal g (before ++ entry who doc (Collect n) ∷ rest)
    → n ≡ min 64 (length (drop (taken doc before) (posted doc before)))
oldest g before rest who doc n h =
    let c = cut g empty before rest (entry who doc (Collect n)) rises_empty h in
    collected_number g (stage_of before) who doc n c.1
    ∙ ap (λ ms. min 64 (length ms)) (waits g before c.0 doc)

still : (act : HallAct) → IsMove act → (ms : List Label)
    → drop (count_of act) (ms ++ label_of act) ≡ ms
still (Depart to) m ms = append-nil ms
still Arrive m ms = append-nil ms
still (Enter file) m ms = absurd m
still (Post label urgent) m ms = absurd m
still (Collect n) m ms = absurd m
still Close m ms = absurd m

same_both : {A : Type 0} (b : Bool) (x y : A) → x ≡ y → cond b x y ≡ y
same_both true x y e = e
same_both false x y e = refl

pub move_keeps : (g : Ground) (before rest : List Entry) (e : Entry)
    → IsLegal g (before ++ e ∷ rest) → IsMove e.act → (doc : ℕ)
    → mails_in doc (stage_of (before ++ e ∷ [])) ≡ mails_in doc (stage_of before)
move_keeps g before rest e h m doc =
    let c = cut g empty before rest e rises_empty h in
    let a = acted g (stage_of before) e.who e.doc e.act c.2 c.1 in
    ap (mails_in doc) (run_snoc empty before e)
    ∙ (a.mails doc ∙ same_both (eqb e.doc doc)
    (drop (count_of e.act) (mails_in doc (stage_of before) ++ label_of e.act))
    (mails_in doc (stage_of before)) (still e.act m (mails_in doc (stage_of before))))
