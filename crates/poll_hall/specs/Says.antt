-- What each call says: over a ground and the book that it found, its answer and the book that it
-- left are the machine's.
use Rattle.std.specs.Prelude.{◌≡◌, ℕ, ◌/◌, Bool, Option, Result, Err, List, [], length, map, take}
use Rattle.std.specs.Prelude.{MatchResult}
use Rattle.std.specs.Option.{option_map}
use Rattle.cool_base.specs.declared.ids.DocId.{DocId}
use Rattle.hall_machine.specs.declared.words.Label.{Label}
use Rattle.hall_machine.specs.declared.words.Ground.{Ground}
use Rattle.hall_machine.specs.declared.words.HallAct.TheVariants.{Post, Depart, Close}
use Rattle.hall_machine.specs.declared.words.Entry.{Entry}
use Rattle.hall_machine.specs.declared.words.Entered.{Entered}
use Rattle.hall_machine.specs.declared.words.HallFault.{HallFault}
use Rattle.hall_machine.specs.declared.words.HallFault.TheVariants.{Memory}
use Rattle.hall_machine.specs.declared.words.Owner.{Owner}
use Rattle.hall_machine.specs.declared.words.CloseFault.{CloseFault}
use Rattle.hall_machine.specs.declared.words.Refused.{Refused}
use Rattle.hall_machine.specs.Machine.{enter_answer, post_answer, collect_answer, depart_answer}
use Rattle.hall_machine.specs.Machine.{arrive_answer, close_answer, spare_answer, find_answer}
use Rattle.hall_machine.specs.Machine.{IsLeast}
use Rattle.hall_machine.specs.Entries.{stage_of, IsLegal, entry, written, entered, collected}
use Rattle.hall_machine.specs.Entries.{arrived}
use Rattle.hall_laws.specs.History.{mails_in}
use Rattle.hall_machine.specs.States.{Answers, AnswersOrLacks, with_value, refused}

abbrev pub EnterSays : ℕ → List ℕ → Ground → List Entry → Result Entered HallFault → List Entry
    → Type 0
EnterSays who file g found result left = AnswersOrLacks g found
    (enter_answer g (stage_of found) file)
    (entered who file (enter_answer g (stage_of found) file) found) (Err Memory) result left

-- a refused mail comes back as the same value
abbrev pub PostSays : {M : Type 0} → (M → Label) → ℕ → ℕ → M → Bool → Ground → List Entry
    → Result (Unit {0}) (Refused M) → List Entry → Type 0
PostSays {M} tag who doc mail urgent g found result left =
    AnswersOrLacks g found (with_value mail (post_answer g (stage_of found) doc urgent))
    (written (post_answer g (stage_of found) doc urgent)
    (entry who doc (Post (tag mail) urgent)) found) (Err (refused Memory mail)) result left

-- the bag has as many mails as is answered, with the labels of those that waited longest, in order;
-- after a refusal it is empty
pub record CollectSays {M : Type 0} (tag : M → Label) (who doc : ℕ) (g : Ground)
    (found : List Entry) (result : Result ℕ Owner × List M) (left : List Entry) : Type 0 where
  pub call : Answers g found (collect_answer (stage_of found) who doc)
      (collected who doc (collect_answer (stage_of found) who doc) found) result.0 left
  pub bag : MatchResult result.0
      (λ n. (n ≡ length result.1) × (map tag result.1 ≡ take 64 (mails_in doc (stage_of found))))
      (λ _. result.1 ≡ [])

-- a refused parcel comes back as the same value
abbrev pub DepartSays : {P : Type 0} → ℕ → ℕ → ℕ → P → Ground → List Entry
    → Result (Unit {0}) (Refused P) → List Entry → Type 0
DepartSays {P} who doc to parcel g found result left = Answers g found
    (with_value parcel (depart_answer g (stage_of found) who doc))
    (written (depart_answer g (stage_of found) who doc)
    (entry who doc (Depart to)) found) result left

abbrev pub ArriveSays : {P : Type 0} → ℕ → Ground → List Entry → Option (DocId × P) → List Entry
    → Type 0
ArriveSays {P} who g found result left = Answers g found (arrive_answer (stage_of found) who)
    (arrived who (arrive_answer (stage_of found) who) found) (option_map (λ r. r.0.0) result) left

abbrev pub CloseSays : ℕ → ℕ → Ground → List Entry → Result (Unit {0}) CloseFault → List Entry
    → Type 0
CloseSays who doc g found result left = Answers g found (close_answer (stage_of found) who doc)
    (written (close_answer (stage_of found) who doc) (entry who doc Close) found) result left

-- the poll with the fewest documents
pub record AdviseSays (g : Ground) (found : List Entry) (result : ℕ)
    (left : List Entry) : Type 0 where
  pub legal : IsLegal g found
  pub least : IsLeast g.polls (stage_of found).desks result
  pub book : left ≡ found

abbrev pub SpareSays : Ground → List Entry → Bool → List Entry → Type 0
SpareSays g found result left = Answers g found
    (spare_answer g (stage_of found) (g.room / 2)) found result left

abbrev pub FindSays : List ℕ → Ground → List Entry → Option DocId → List Entry → Type 0
FindSays file g found result left = Answers g found
    (option_map (λ d. record { 0 = d }) (find_answer (stage_of found) file)) found result left

-- how many documents are open
abbrev pub CountSays : Ground → List Entry → ℕ → List Entry → Type 0
CountSays g found result left = Answers g found (length (stage_of found).desks) found result left

abbrev pub PollsSays : Ground → List Entry → ℕ → List Entry → Type 0
PollsSays g found result left = Answers g found g.polls found result left
