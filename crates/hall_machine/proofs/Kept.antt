-- What an entry more does to a kept state.
use Rattle.std.proofs.Common.{◌≡◌, ℕ, ◌+◌, ◌<◌, ◌≤◌, Bool, Some, Ok, List, [], ◌∷◌, ◌++◌, map}
use Rattle.std.proofs.Common.{length, set, take, drop, eqb, refl, sym, ap, subst, ◌∙◌, arith}
use Rattle.std.proofs.Common.{length-append}
use Rattle.std.specs.List.{slice_get}
use Rattle.std.proofs.lemmas.List.{length-map, map-append, map-set, length-set}
use Rattle.std.proofs.lemmas.List.Sums.{sum_by-set, sum_by_push}
use Rattle.std.proofs.lemmas.List.Quantifiers.{position-Some}
use Rattle.std.proofs.lemmas.Bool.{eqb-true}
use Rattle.std.proofs.Math.Seq.{take-append_seam}
use Rattle.std.proofs.lemmas.Option.{slice_get_within}
use Rattle.hall_machine.specs.declared.words.Label.{Label}
use Rattle.hall_machine.specs.declared.words.Ground.{Ground}
use Rattle.hall_machine.specs.declared.words.HallAct.{HallAct}
use Rattle.hall_machine.specs.declared.words.HallAct.TheVariants.{Enter, Post}
use Rattle.hall_machine.specs.declared.words.Entry.{Entry}
use Rattle.hall_machine.specs.declared.words.OpenDocument.{OpenDocument}
use Rattle.hall_machine.specs.declared.words.Holder.TheVariants.{At}
use Rattle.hall_machine.specs.Machine.{at as owned_by, Desk, Stage, empty, nobody, weight, owed}
use Rattle.hall_machine.specs.Machine.{place_of, desk_at, post_answer, enter_answer}
use Rattle.hall_machine.specs.declared.words.Entered.TheVariants.{Fresh}
use Rattle.hall_machine.specs.Entries.{desk_after, with_desk, after_at, after_act, after, run}
use Rattle.hall_machine.specs.Entries.{IsMade, IsLegalFrom, entry}
use Rattle.hall_machine.specs.States.{where_of, sight, sights, staged, IsKept, Changes}
use Rattle.hall_machine.proofs.Places.{desk_seen}

run_snoc : (s : Stage) (es : List Entry) (e : Entry) → run s (es ++ e ∷ []) ≡ after e (run s es)
run_snoc s [] e = refl
run_snoc s (x ∷ es) e = run_snoc (after x s) es e

legal_snoc : (g : Ground) (s : Stage) (es : List Entry) (e : Entry) → IsLegalFrom g s es
    → IsMade g (run s es) e.who e.doc e.act → IsLegalFrom g s (es ++ e ∷ [])
legal_snoc g s [] e h made = (made, tt)
legal_snoc g s (x ∷ es) e h made = (h.0, legal_snoc g (after x s) es e h.1 made)

-- a state with one entry more
pub grown : {P M : Type 0} (tag : M → Label) (g : Ground) (next next' : ℕ)
    (opens opens' : List (OpenDocument P M)) (due due' : ℕ) (entries : List Entry) (capacity : ℕ)
    (e : Entry)
    → IsKept tag g next opens due entries capacity
    → IsMade g (staged tag next opens (length entries)) e.who e.doc e.act
    → after e (staged tag next opens (length entries))
    ≡ staged tag next' opens' (length entries + 1)
    → due' ≡ owed (sights tag opens') → (length entries + 1) + due' ≤ g.room
    → next' ≤ length entries + 1 → length opens' ≤ 64
    → IsKept tag g next' opens' due' (entries ++ e ∷ []) capacity
grown tag g next next' opens opens' due due' entries capacity e k made changes owes fits counts few
    =
    let len : length (entries ++ e ∷ []) ≡ length entries + 1 = length-append entries (e ∷ []) in
    record {
      legal = legal_snoc g empty entries e k.legal
          (subst (λ s. IsMade g s e.who e.doc e.act) (sym k.reached) made);
      reached = run_snoc empty entries e ∙ ap (after e) k.reached ∙ changes
          ∙ ap (staged tag next' opens') (sym len);
      due_is = owes;
      room = (let r = fits in omega arith);
      held = k.held;
      ids = (let c = counts in omega arith);
      few = few;
      polls = k.polls;
      bounds = k.bounds;
    }

-- a state in which one open document changed: by a post, a collect, a depart or an arrive
pub changed : {P M : Type 0} (tag : M → Label) (g : Ground) (next : ℕ)
    (opens : List (OpenDocument P M)) (due due' : ℕ) (entries : List Entry)
    (capacity who doc at : ℕ) (act : HallAct) (o o' : OpenDocument P M)
    → IsKept tag g next opens due entries capacity
    → IsMade g (staged tag next opens (length entries)) who doc act
    → ((s : Stage) → after_act who doc act s ≡ after_at who act (place_of doc s.desks) s)
    → ((s : Stage) (i : ℕ)
    → after_at who act (Some i) s ≡ with_desk i (desk_after who act (desk_at s.desks i)) s)
    → place_of doc (sights tag opens) ≡ Some at → slice_get opens at ≡ Some o
    → sight tag o' ≡ desk_after who act (sight tag o)
    → due' + weight (sight tag o) ≡ due + weight (sight tag o')
    → (length entries + 1) + due' ≤ g.room
    → IsKept tag g next (set opens at o') due' (entries ++ entry who doc act ∷ []) capacity
changed tag g next opens due due' entries capacity who doc at act o o' k made one two place there
    made_is sum fits =
    let s : Stage = staged tag next opens (length entries) in
    let seen : desk_at (sights tag opens) at ≡ sight tag o = desk_seen tag opens at o there in
    let within : at < length opens = slice_get_within opens at o there in
    let within' : at < length (sights tag opens) = let l = length-map opens
    (sight tag) in omega arith in
    let set_seen : sights tag (set opens at o')
    ≡ set (sights tag opens) at (sight tag o') = map-set (sight tag) opens at o' in
    let desk : desk_after who act (desk_at (sights tag opens) at)
    ≡ sight tag o' = ap (desk_after who act) seen ∙ sym made_is in
    let sums : owed (set (sights tag opens) at (sight tag o')) + weight
    (desk_at (sights tag opens) at)
    ≡ owed (sights tag opens) + weight (sight tag o') = sum_by-set weight (sights tag opens) at
    (sight tag o') nobody within' in
    let same : weight (desk_at (sights tag opens) at) ≡ weight (sight tag o) = ap weight seen in
    let moved : owed (sights tag (set opens at o'))
    ≡ owed (set (sights tag opens) at (sight tag o')) = ap owed set_seen in
    let before : due ≡ owed (sights tag opens) = k.due_is in
    grown tag g next next opens (set opens at o') due due' entries capacity
    (entry who doc act) k made
    (one s ∙ ap (λ p. after_at who act p s) place ∙ two s at ∙ ap (λ d. with_desk at d s) desk
    ∙ ap (λ ds. record { next = next; desks = ds; entries = length entries + 1 })
    (sym set_seen))
    (omega arith) fits (let i = k.ids in omega arith)
    (let f = k.few in let l : length (set opens at o')
    ≡ length opens = length-set opens at o' in omega arith)

-- what `as_mut_slice` gives back: the whole list
pub whole : {A : Type 0} (n : ℕ) (xs ys : List A) → length ys ≡ n
    → take n (ys ++ drop (length ys) xs) ≡ ys
whole n xs ys e = subst (λ k. take k (ys ++ drop (length ys) xs) ≡ ys) e
    (take-append_seam ys (drop (length ys) xs))

-- the document at its place has its id
pub id_there : {P M : Type 0} (tag : M → Label) (opens : List (OpenDocument P M)) (doc at : ℕ)
    (o : OpenDocument P M) → place_of doc (sights tag opens) ≡ Some at
    → slice_get opens at ≡ Some o → o.doc ≡ doc
id_there tag opens doc at o place there =
    let h = position-Some (λ (x : Desk). eqb x.doc doc) (sights tag opens) at nobody place in
    let e : desk_at (sights tag opens) at ≡ sight tag o = desk_seen tag opens at o there in
    eqb-true o.doc doc (ap (λ (x : Desk). eqb x.doc doc) (sym e) ∙ h.1)

-- one open document changed
pub change : {P M : Type 0} (tag : M → Label) (opens old new : List (OpenDocument P M))
    (doc at : ℕ) (o o' : OpenDocument P M) → old ≡ opens → new ≡ set opens at o'
    → place_of doc (sights tag opens) ≡ Some at → slice_get opens at ≡ Some o
    → Changes doc old new o o'
change tag opens old new doc at o o' e f place there = record {
  place = at;
  was = ap (λ os. slice_get os at) e ∙ there;
  id = id_there tag opens doc at o place there;
  is = f ∙ ap (λ os. set os at o') (sym e);
}

-- a state after a post
pub posted : {P M : Type 0} (tag : M → Label) (g : Ground) (next : ℕ)
    (opens : List (OpenDocument P M)) (due : ℕ) (entries : List Entry) (capacity who doc at : ℕ)
    (mail : M) (urgent : Bool) (o : OpenDocument P M)
    → IsKept tag g next opens due entries capacity
    → post_answer g (staged tag next opens (length entries)) doc urgent ≡ Ok tt
    → place_of doc (sights tag opens) ≡ Some at → slice_get opens at ≡ Some o
    → (length entries + due) + 2 ≤ g.room
    → IsKept tag g next (set opens at (record o { mails = o.mails ++ mail ∷ [] })) (due + 1)
    (entries ++ entry who doc (Post (tag mail) urgent) ∷ []) capacity
posted tag g next opens due entries capacity who doc at mail urgent o k made place there fits =
    let more : length (map tag (o.mails ++ mail ∷ []))
    ≡ length (map tag o.mails) + 1 = ap length (map-append tag o.mails (mail ∷ []))
    ∙ length-append (map tag o.mails) (tag mail ∷ []) in
    changed tag g next opens due (due + 1) entries capacity who doc at (Post (tag mail) urgent) o
    (record o { mails = o.mails ++ mail ∷ [] }) k made (λ s. refl) (λ s i. refl) place there
    (ap (λ ms. record { doc = o.doc; file = o.file; holder = where_of o.holder; mails = ms })
    (map-append tag o.mails (mail ∷ [])))
    (omega arith) (omega arith)

-- the same where the facts were found over equal lists
pub posted_at : {P M : Type 0} (tag : M → Label) (g : Ground) (next : ℕ)
    (opens seen : List (OpenDocument P M)) (due : ℕ) (entries : List Entry)
    (n capacity who doc at : ℕ) (mail : M) (urgent : Bool) (o : OpenDocument P M)
    → IsKept tag g next opens due entries capacity → seen ≡ opens → n ≡ length entries
    → post_answer g (staged tag next seen n) doc urgent ≡ Ok tt
    → place_of doc (sights tag seen) ≡ Some at → slice_get opens at ≡ Some o
    → (n + due) + 2 ≤ g.room
    → IsKept tag g next (set opens at (record o { mails = o.mails ++ mail ∷ [] })) (due + 1)
    (entries ++ entry who doc (Post (tag mail) urgent) ∷ []) capacity
posted_at tag g next opens seen due entries n capacity who doc at mail urgent o k e f made place
    there fits =
    posted tag g next opens due entries capacity who doc at mail urgent o k
    (subst (λ os. post_answer g (staged tag next os (length entries)) doc urgent ≡ Ok tt) e
    (subst (λ m. post_answer g (staged tag next seen m) doc urgent ≡ Ok tt) f made))
    (subst (λ os. place_of doc (sights tag os) ≡ Some at) e place) there
    (let r = fits in omega arith)

-- a state after an enter that opened a new document
pub fresh : {P M : Type 0} (tag : M → Label) (g : Ground) (next : ℕ)
    (opens seen : List (OpenDocument P M)) (due : ℕ) (entries : List Entry)
    (n capacity who doc : ℕ) (file : List ℕ)
    → IsKept tag g next opens due entries capacity → seen ≡ opens → n ≡ length entries
    → enter_answer g (staged tag next seen n) file ≡ Ok (Fresh (record { 0 = doc })) → doc ≡ next
    → length seen < 64 → (n + due) + 2 ≤ g.room
    → IsKept tag g (next + 1)
    (opens ++ record { doc = doc; file = file; holder = At who; mails = [] } ∷ []) (due + 1)
    (entries ++ entry who doc (Enter file) ∷ []) capacity
fresh {P} {M} tag g next opens seen due entries n capacity who doc file k e f made is few fits =
    let made' : enter_answer g (staged tag next opens (length entries)) file
    ≡ Ok (Fresh (record { 0 = doc })) =
    subst (λ os. enter_answer g (staged tag next os (length entries)) file
    ≡ Ok (Fresh (record { 0 = doc }))) e
    (subst (λ m. enter_answer g (staged tag next seen m) file
    ≡ Ok (Fresh (record { 0 = doc }))) f made) in
    let one : OpenDocument P M = record { doc = doc; file = file; holder = At who; mails = [] } in
    let seen_more : sights tag (opens ++ one ∷ []) ≡ sights tag opens
    ++ sight tag one ∷ [] = map-append (sight tag) opens (one ∷ []) in
    let sum : owed (sights tag opens ++ sight tag one ∷ [])
    ≡ owed (sights tag opens) + weight (sight tag one) = sum_by_push weight (sights tag opens)
    (sight tag one) in
    let moved : owed (sights tag (opens ++ one ∷ []))
    ≡ owed (sights tag opens ++ sight tag one ∷ []) = ap owed seen_more in
    let due_is : due ≡ owed (sights tag opens) = k.due_is in
    let same : length seen ≡ length opens = ap length e in
    grown tag g next (next + 1) opens (opens ++ one ∷ []) due (due + 1) entries capacity
    (entry who doc (Enter file)) k made'
    (ap (λ d. record {
      next = next + 1;
      desks = sights tag opens
          ++ record { doc = d; file = file; holder = owned_by who; mails = [] } ∷ [];
      entries = length
          entries + 1;
    }) (sym is)
    ∙ ap (λ ds. record { next = next + 1; desks = ds; entries = length entries + 1 })
    (sym seen_more))
    (omega arith) (let r = fits in omega arith) (let i = k.ids in omega arith)
    (let l : length (opens ++ one ∷ [])
    ≡ length opens + 1 = length-append opens (one ∷ []) in omega arith)
