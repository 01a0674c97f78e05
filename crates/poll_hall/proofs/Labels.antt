-- The labels of the mails that a collect took.
use Rattle.std.proofs.Common.{◌≡◌, ℕ, ◌<◌, Ok, Err, Some, List, [], map, length, take, sym, ap}
use Rattle.std.proofs.Common.{subst, ◌∙◌, arith}
use Rattle.std.specs.Prelude.{Result, MatchResult}
use Rattle.std.specs.List.{slice_get}
use Rattle.std.proofs.lemmas.List.{length-map, take-map}
use Rattle.std.proofs.lemmas.Option.{slice_get_within}
use Rattle.hall_machine.specs.declared.words.Label.{Label}
use Rattle.hall_machine.specs.declared.words.Owner.{Owner}
use Rattle.hall_machine.specs.declared.words.OpenDocument.{OpenDocument}
use Rattle.hall_machine.specs.Machine.{Desk, Stage, desk_at, place_of}
use Rattle.hall_machine.specs.Ids.{AreRising, Rises}
use Rattle.hall_machine.specs.States.{sight, sights, Collects}
use Rattle.hall_machine.proofs.Places.{desk_seen}
use Rattle.hall_machine.proofs.Rising.{found_there}
use Rattle.hall_laws.specs.History.{desk_of, mails_at, mails_in}
use Rattle.hall_laws.proofs.Lookups.{lookup_at, place_facts}

module _ {P M : Type 0} (tag : M → Label) (s : Stage) (opens new : List (OpenDocument P M))
    (same : s.desks ≡ sights tag opens) (rises : Rises s) (doc : ℕ) where
  -- the mails of an open document, by their labels
  mails_seen : (i : ℕ) (o : OpenDocument P M) → slice_get opens i ≡ Some o → o.doc ≡ doc
      → mails_in doc s ≡ map tag o.mails
  mails_seen i o there id =
      let seen : desk_at (sights tag opens) i ≡ sight tag o = desk_seen tag opens i o there in
      let within : i < length opens = slice_get_within opens i o there in
      let within' : i < length (sights tag opens) =
      (let l = length-map opens (sight tag) in omega arith) in
      let rising : AreRising 0 (sights tag opens) s.next = subst
      (λ ds. AreRising 0 ds s.next) same rises in
      let is : (desk_at (sights tag opens) i).doc ≡ doc = ap (λ (d : Desk). d.doc) seen ∙ id in
      let place : place_of doc (sights tag opens)
      ≡ Some i = ap (λ d. place_of d (sights tag opens)) (sym is)
      ∙ found_there 0 (sights tag opens) s.next i within' rising in
      let f = place_facts doc i (sights tag opens) place in
      ap (λ ds. mails_at (desk_of doc ds)) same
      ∙ (ap mails_at (lookup_at doc i (sights tag opens) f.0 f.1 f.2)
      ∙ ap (λ (d : Desk). d.mails) seen)

  pub labels_taken : (r : Result ℕ Owner) (bag : List M)
      → MatchResult r (λ n. (n ≡ length bag) × Collects doc bag opens new)
      (λ _. (bag ≡ []) × (new ≡ opens))
      → MatchResult r (λ n. (n ≡ length bag) × (map tag bag ≡ take 64 (mails_in doc s)))
      (λ _. bag ≡ [])
  labels_taken (Ok n) bag h =
      let took = h.1 in (
        h.0,
        ap (map tag) took.2
            ∙ (sym (take-map tag 64 took.0.mails)
            ∙ ap (take 64) (sym (mails_seen took.1.place took.0 took.1.was took.1.id))),
      )
  labels_taken (Err why) bag h = h.0

pub values_taken : {P M : Type 0} (doc : ℕ) (old new : List (OpenDocument P M))
    (r : Result ℕ Owner) (bag : List M)
    → MatchResult r (λ n. (n ≡ length bag) × Collects doc bag old new)
    (λ _. (bag ≡ []) × (new ≡ old))
    → MatchResult r (λ _. Collects doc bag old new) (λ _. new ≡ old)
values_taken doc old new (Ok n) bag h = h.1
values_taken doc old new (Err why) bag h = h.1
