-- What a collect, a depart, an arrive and a close leave.
use Rattle.std.proofs.Common.{◌≡◌, ℕ, zero, suc, ◌+◌, ◌-◌, ◌<◌, ◌≤◌, true, false, Some, Ok, List}
use Rattle.std.proofs.Common.{[], ◌∷◌, ◌++◌, map, length, get_or, set, take, drop, cond, refl, sym}
use Rattle.std.proofs.Common.{ap, subst, ◌∙◌, arith, min}
use Rattle.std.proofs.Common.{length-drop}
use Rattle.std.specs.Prelude.{Option}
use Rattle.std.specs.List.{slice_get, remove}
use Rattle.std.proofs.lemmas.List.{length-map, drop-map, drop_min, set-get_or}
use Rattle.std.proofs.lemmas.List.Sums.{sum_by-remove}
use Rattle.std.proofs.lemmas.List.Edits.{length-remove}
use Rattle.std.proofs.lemmas.List.Quantifiers.{position-Some}
use Rattle.std.proofs.lemmas.Option.{slice_get-get_or, get_or_from_slice_get}
use Rattle.hall_machine.specs.declared.words.Label.{Label}
use Rattle.hall_machine.specs.declared.words.Ground.{Ground}
use Rattle.hall_machine.specs.declared.words.HallAct.TheVariants.{Collect, Depart, Arrive, Close}
use Rattle.hall_machine.specs.declared.words.Entry.{Entry}
use Rattle.hall_machine.specs.declared.words.OpenDocument.{OpenDocument}
use Rattle.hall_machine.specs.declared.words.Holder.TheVariants.{At, To}
use Rattle.hall_machine.specs.Machine.{at as owned_by, bound, Desk, Stage, nobody, is_bound}
use Rattle.hall_machine.specs.Machine.{is_bound_to, weight, owed, place_of, place_bound_to, desk_at}
use Rattle.hall_machine.specs.Machine.{depart_answer, collect_answer, close_answer, arrive_at}
use Rattle.hall_machine.specs.Machine.{arrive_answer}
use Rattle.hall_machine.specs.Ids.{AreRising}
use Rattle.hall_machine.specs.Entries.{after_at, entry}
use Rattle.hall_machine.specs.States.{where_of, sight, sights, staged, IsKept, Changes, Collects}
use Rattle.hall_machine.specs.States.{Closes}
use Rattle.hall_machine.proofs.Places.{desk_seen}
use Rattle.hall_machine.proofs.Kept.{grown, changed, id_there}
use Rattle.hall_machine.proofs.Rising.{rises, found_there}
use Rattle.hall_machine.proofs.Owners.{departs_owned, collects_owned, closes_owned, bound_for}

-- a fact that was found over equal values
pub over : {A : Type 0} (F : A → ℕ → Type 0) {x y : A} {n m : ℕ} → x ≡ y → n ≡ m → F x n → F y m
over F {x} {y} {n} {m} e f h = subst (λ a. F a m) e (subst (λ k. F x k) f h)

nil_of : {A : Type 0} (xs : List A) → length xs ≡ 0 → xs ≡ []
nil_of [] h = refl
nil_of (x ∷ xs) h = absurd (omega (arith, h))

some_there : {A : Type 0} (xs : List A) (i : ℕ) → i < length xs → (x : A)
    × (slice_get xs i ≡ Some x)
some_there [] i h = absurd (omega (arith, h))
some_there (x ∷ xs) i h = (get_or (x ∷ xs) i x, slice_get-get_or (x ∷ xs) i x h)

module _ {P M : Type 0} (tag : M → Label) (g : Ground) (next : ℕ) (opens : List (OpenDocument P M))
    (due : ℕ) (entries : List Entry) (capacity : ℕ)
    (k : IsKept tag g next opens due entries capacity) where
  -- a document that the caller's call speaks of
  place_seen : (i : ℕ) (o : OpenDocument P M) → slice_get opens i ≡ Some o
      → where_of o.holder ≡ (desk_at (sights tag opens) i).holder
  place_seen i o there = sym (ap (λ (d : Desk). d.holder) (desk_seen tag opens i o there))

  -- a state after a depart
  pub departed : (who doc i to : ℕ) (parcel : P) (o : OpenDocument P M)
      → depart_answer g (staged tag next opens (length entries)) who doc ≡ Ok tt → to < g.polls
      → place_of doc (sights tag opens) ≡ Some i → slice_get opens i ≡ Some o
      → (length entries + due) + 2 ≤ g.room
      → IsKept tag g next (set opens i (record o { holder = To to parcel })) (due + 1)
      (entries ++ entry who doc (Depart to) ∷ []) capacity
  departed who doc i to parcel o made one place there fits =
      let was : where_of o.holder ≡ owned_by who = place_seen i o there
      ∙ departs_owned g (staged tag next opens (length entries)) who doc i made place in
      let free : is_bound (where_of o.holder) ≡ false = ap is_bound was in
      let sum : (due + 1) +
      ((1 + length (map tag o.mails)) + cond (is_bound (where_of o.holder)) 1 0)
      ≡ due + ((1 + length (map tag o.mails)) + 1) = rw free (omega arith) in
      changed tag g next opens due (due + 1) entries capacity who doc i (Depart to) o
      (record o { holder = To to parcel }) k (made, one) (λ s. refl)
      (λ s j. refl) place there refl sum (omega arith)

  -- a state after a collect that took mails
  pub collected_some : (who doc i n : ℕ) (o : OpenDocument P M)
      → collect_answer (staged tag next opens (length entries)) who doc ≡ Ok n → 0 < n → n ≤ due
      → place_of doc (sights tag opens) ≡ Some i → slice_get opens i ≡ Some o
      → IsKept tag g next (set opens i (record o { mails = drop 64 o.mails })) (due - n)
      (entries ++ entry who doc (Collect n) ∷ []) capacity
  collected_some who doc i n o made some within place there =
      let own = collects_owned (staged tag next opens (length entries)) who doc i n made place in
      let seen : desk_at (sights tag opens) i ≡ sight tag o = desk_seen tag opens i o there in
      let num : n ≡ min 64 (length (map tag o.mails)) = own.1
      ∙ ap (λ (d : Desk). min 64 (length d.mails)) seen in
      let rest : drop n (map tag o.mails)
      ≡ map tag (drop 64 o.mails) = ap (λ j. drop j (map tag o.mails)) num
      ∙ (drop_min 64 (map tag o.mails) ∙ drop-map tag 64 o.mails) in
      let long : length (map tag (drop 64 o.mails)) + n
      ≡ length (map tag o.mails) = ap (λ ms. length ms + n) (sym rest)
      ∙ omega (arith, length-drop n (map tag o.mails), num) in
      let kept : length entries + due ≤ g.room = k.room in
      changed tag g next opens due (due - n) entries capacity who doc i (Collect n) o
      (record o { mails = drop 64 o.mails }) k (made, some) (λ s. refl)
      (λ s j. refl) place there
      (ap (λ ms. record { doc = o.doc; file = o.file; holder = where_of o.holder; mails = ms })
      (sym rest))
      (omega arith) (omega arith)

  -- the document of the parcel is found where the parcel is
  pub arrives_place : (who doc i : ℕ)
      → arrive_answer (staged tag next opens (length entries)) who ≡ Some doc
      → place_bound_to who (sights tag opens) ≡ Some i → place_of doc (sights tag opens) ≡ Some i
  arrives_place who doc i made first =
      let p = position-Some (λ (x : Desk). is_bound_to who x.holder)
      (sights tag opens) i nobody first in
      let e : Some (desk_at (sights tag opens) i).doc
      ≡ Some doc = subst (λ (p : Option ℕ). arrive_at
      (staged tag next opens (length entries)) p ≡ Some doc) first made in
      let id : doc ≡ (desk_at (sights tag opens) i).doc = cc in
      let rising : AreRising 0 (sights tag opens) next = subst
      (λ (s : Stage). AreRising 0 s.desks s.next) k.reached (rises entries) in
      ap (λ d. place_of d (sights tag opens)) id
      ∙ found_there 0 (sights tag opens) next i p.0 rising

  -- a state after an arrive
  pub arrived_there : (who doc i : ℕ) (o : OpenDocument P M)
      → arrive_answer (staged tag next opens (length entries)) who ≡ Some doc
      → place_bound_to who (sights tag opens) ≡ Some i → slice_get opens i ≡ Some o → 1 ≤ due
      → IsKept tag g next (set opens i (record o { holder = At who })) (due - 1)
      (entries ++ entry who doc Arrive ∷ []) capacity
  arrived_there who doc i o made first there some =
      let p = position-Some (λ (x : Desk). is_bound_to who x.holder)
      (sights tag opens) i nobody first in
      let was : where_of o.holder ≡ bound who = place_seen i o there
      ∙ bound_for who (desk_at (sights tag opens) i).holder p.1 in
      let held : is_bound (where_of o.holder) ≡ true = ap is_bound was in
      let sum : (due - 1) +
      ((1 + length (map tag o.mails)) + cond (is_bound (where_of o.holder)) 1 0)
      ≡ due + ((1 + length (map tag o.mails)) + 0) = rw held (omega arith) in
      let kept : length entries + due ≤ g.room = k.room in
      changed tag g next opens due (due - 1) entries capacity who doc i Arrive o
      (record o { holder = At who }) k made (λ s. refl) (λ s j. refl)
      (arrives_place who doc i made first) there refl sum (omega arith)

  sights_remove : (i : ℕ) (os : List (OpenDocument P M))
      → sights tag (remove os i) ≡ remove (sights tag os) i
  sights_remove zero [] = refl
  sights_remove (suc i) [] = refl
  sights_remove zero (o ∷ os) = refl
  sights_remove (suc i) (o ∷ os) = ap (λ ds. sight tag o ∷ ds) (sights_remove i os)

  -- a state after a close
  pub closed_there : (who doc i : ℕ)
      → close_answer (staged tag next opens (length entries)) who doc ≡ Ok tt
      → place_of doc (sights tag opens) ≡ Some i → i < length opens → 1 ≤ due
      → IsKept tag g next (remove opens i) (due - 1) (entries ++ entry who doc Close ∷ []) capacity
  closed_there who doc i made place within some =
      let s : Stage = staged tag next opens (length entries) in
      let own = closes_owned s who doc i made place in
      let d : Desk = desk_at (sights tag opens) i in
      let long : length d.mails ≡ 0 = ap length own.1 in
      let free : is_bound d.holder ≡ false = ap is_bound own.0 in
      let one : (1 + length d.mails) + cond (is_bound d.holder) 1 0 ≡ 1 = rw free (omega arith) in
      let within' : i < length (sights tag opens) = let l = length-map opens
      (sight tag) in omega arith in
      let sums : owed (remove (sights tag opens) i) +
      ((1 + length d.mails) + cond (is_bound d.holder) 1 0)
      ≡ owed (sights tag opens) = sum_by-remove weight (sights tag opens) i nobody within' in
      let gone : sights tag (remove opens i)
      ≡ remove (sights tag opens) i = sights_remove i opens in
      let after_is : owed (sights tag (remove opens i))
      ≡ owed (remove (sights tag opens) i) = ap owed gone in
      let before : due ≡ owed (sights tag opens) = k.due_is in
      let kept : length entries + due ≤ g.room = k.room in
      let fewer : length (remove opens i) + 1 ≡ length opens = length-remove opens i within in
      let few : length opens ≤ 64 = k.few in
      let ids : next ≤ length entries = k.ids in
      grown tag g next next opens (remove opens i) due (due - 1) entries capacity
      (entry who doc Close) k made
      (ap (λ p. after_at who Close p s) place
      ∙ ap (λ ds. record { next = next; desks = ds; entries = length entries + 1 }) (sym gone))
      (omega arith) (omega arith) (omega arith) (omega arith)

  -- where nothing waits, a collect leaves the document as it is
  pub collected_none : (doc i : ℕ) (o : OpenDocument P M) → slice_get opens i ≡ Some o
      → place_of doc (sights tag opens) ≡ Some i → min 64 (length o.mails) ≡ 0
      → Changes doc opens opens o (record o { mails = drop 64 o.mails }) × ([] ≡ take 64 o.mails)
  collected_none doc i o there place none =
      let no : o.mails ≡ [] = nil_of o.mails (omega (arith, none)) in (
        record {
          place = i;
          was = there;
          id = id_there tag opens doc i o place there;
          is = sym (ap (set opens i) (sym (get_or_from_slice_get opens i o o there))
              ∙ set-get_or opens i o)
              ∙ ap (λ ms. set opens i (record o { mails = ms })) (no ∙ ap (drop 64) (sym no));
        },
        ap (take 64) (sym no),
      )

  -- what a close did
  pub closes_there : (who doc i : ℕ) (x : OpenDocument P M) (old : List (OpenDocument P M))
      → opens ≡ old
      → close_answer (staged tag next opens (length entries)) who doc ≡ Ok tt
      → place_of doc (sights tag opens) ≡ Some i → i < length opens → x ≡ get_or opens i x
      → Closes doc old (remove opens i)
  closes_there who doc i x old same made place within is =
      let there : slice_get opens i ≡ Some x = slice_get-get_or opens i x within
      ∙ ap (λ y. Some y) (sym is) in
      let own = closes_owned (staged tag next opens (length entries)) who doc i made place in
      let none : map tag x.mails
      ≡ [] = sym (ap (λ (d : Desk). d.mails) (desk_seen tag opens i x there)) ∙ own.1 in
      let empty : x.mails ≡ [] = nil_of x.mails (sym (length-map x.mails tag) ∙ ap length none) in (
        i,
        x,
        ap (λ os. slice_get os i) (sym same)
            ∙ there,
        id_there tag opens doc i x place there,
        empty,
        ap (λ os. remove os i) same,
      )

  -- how many mails a collect takes
  pub takes_number : (who doc i n : ℕ) (o : OpenDocument P M)
      → collect_answer (staged tag next opens (length entries)) who doc ≡ Ok n
      → place_of doc (sights tag opens) ≡ Some i → slice_get opens i ≡ Some o
      → n ≡ min 64 (length o.mails)
  takes_number who doc i n o made place there =
      (collects_owned (staged tag next opens (length entries)) who doc i n made place).1
      ∙ (ap (λ (d : Desk). min 64 (length d.mails)) (desk_seen tag opens i o there)
      ∙ ap (min 64) (length-map o.mails tag))

  -- the same over what a call found
  pub collects_nothing : (who doc i : ℕ) (old : List (OpenDocument P M)) (bag : List M)
      → opens ≡ old → bag ≡ [] → i < length opens
      → collect_answer (staged tag next opens (length entries)) who doc ≡ Ok 0
      → place_of doc (sights tag opens) ≡ Some i → (0 ≡ length bag) × Collects doc bag old old
  collects_nothing who doc i old bag same empty within made place =
      let o = some_there opens i within in
      let none = collected_none doc i o.0 o.1 place
      (sym (takes_number who doc i 0 o.0 made place o.1)) in (
        sym (ap length empty),
        (
          o.0,
          subst (λ os. Changes doc os os o.0
              (record o.0 { mails = drop 64 o.0.mails })) same none.0,
          empty ∙ none.1,
        ),
      )
