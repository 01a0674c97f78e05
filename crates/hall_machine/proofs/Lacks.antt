-- Where memory may lack: the machine writes an entry there.
use Rattle.std.proofs.Common.{◌≡◌, ℕ, Bool, Ok, Err, List, length, refl, ap, ◌∙◌, inr}
use Rattle.hall_machine.specs.declared.words.Label.{Label}
use Rattle.hall_machine.specs.declared.words.Ground.{Ground}
use Rattle.hall_machine.specs.declared.words.HallAct.TheVariants.{Enter, Post}
use Rattle.hall_machine.specs.declared.words.HallFault.TheVariants.{Memory}
use Rattle.hall_machine.specs.declared.words.Entry.{Entry}
use Rattle.hall_machine.specs.declared.words.Entered.TheVariants.{Fresh}
use Rattle.hall_machine.specs.declared.words.OpenDocument.{OpenDocument}
use Rattle.hall_machine.specs.Machine.{enter_answer, post_answer}
use Rattle.hall_machine.specs.Entries.{stage_of, entry, entered, written}
use Rattle.hall_machine.specs.States.{staged, IsKept, AnswersOrLacks, refused, with_value}

module _ {P M : Type 0} (tag : M → Label) (g : Ground) (next : ℕ) (opens : List (OpenDocument P M))
    (due : ℕ) (entries : List Entry) (capacity : ℕ)
    (k : IsKept tag g next opens due entries capacity) where
  -- a new document
  pub enter_lacks : (who : ℕ) (file : List ℕ)
      → enter_answer g (staged tag next opens (length entries)) file
      ≡ Ok (Fresh (record { 0 = next }))
      → AnswersOrLacks g entries (enter_answer g (stage_of entries) file)
      (entered who file (enter_answer g (stage_of entries) file) entries) (Err Memory) (Err Memory)
      entries
  enter_lacks who file new = record {
    legal = k.legal;
    call = inr (refl, refl);
    lacks = λ _. (
      entry who next (Enter file),
      ap (λ r. entered who file r entries) (ap (λ s. enter_answer g s file) k.reached ∙ new),
    );
  }

  -- a mail that the machine takes
  pub post_lacks : (who doc : ℕ) (mail : M) (urgent : Bool)
      → post_answer g (staged tag next opens (length entries)) doc urgent ≡ Ok tt
      → AnswersOrLacks g entries
      (with_value mail (post_answer g (stage_of entries) doc urgent))
      (written (post_answer g (stage_of entries) doc urgent)
      (entry who doc (Post (tag mail) urgent)) entries) (Err (refused Memory mail))
      (Err (refused Memory mail)) entries
  post_lacks who doc mail urgent takes = record {
    legal = k.legal;
    call = inr (refl, refl);
    lacks = λ _. (
      entry who doc (Post (tag mail) urgent),
      ap (λ r. written r (entry who doc (Post (tag mail) urgent)) entries)
          (ap (λ s. post_answer g s doc urgent) k.reached ∙ takes),
    );
  }
