-- The words and the exit statuses of `replay`, and what a script that it plays comes to.
use Rattle.std.specs.Prelude.{ℕ, ◌≡◌, ◌↔◌, ◌⊎◌, List, [], ◌∷◌, codes, Some}
use Rattle.kit_trait.specs.Patch.{patch_rules}
use Rattle.kit_trait.specs.PatchSeen.{patch_cut}
use Rattle.kit_trait.specs.Rules.{Rules}
use Rattle.tile_key.specs.Places.{Place}
use Rattle.outside.specs.Causes.{HasCause, Rose}
use Rattle.script_lines.specs.Grammar.{start}
use Rattle.script_run.specs.Complete.{HasEnd}
use Rattle.script_run.specs.Outcome.{Outcome}
use Rattle.script_run.specs.Uses.{SourceUse, SinkUse}
use Rattle.script_run.specs.declared.status.Status.{Status}
use Rattle.script_run.specs.declared.status.Status.TheVariants.{Done, WrongWords, FaultLine, ReadFault, WriteFault, Memory, NoEnd}
use Rattle.sheet_kit.specs.Seen.{sheet_cut}
use Rattle.sheet_kit.specs.SheetKind.{sheet_kind}
use Rattle.cool_script.specs.Script.{first, Acting, UnderWay}

-- the words of the command line are `replay patch`
abbrev pub PlaysPatch : List (List ℕ) → Type 0
PlaysPatch words = words ≡ codes "replay" ∷ codes "patch" ∷ []

-- the words of the command line are `replay sheet`
abbrev pub PlaysSheet : List (List ℕ) → Type 0
PlaysSheet words = words ≡ codes "replay" ∷ codes "sheet" ∷ []

-- the exit status
abbrev pub code_of : Status → ℕ
code_of Done = 0
code_of WrongWords = 2
code_of FaultLine = 3
code_of ReadFault = 4
code_of WriteFault = 5
code_of Memory = 6
code_of NoEnd = 7

-- A script was played on a document of a kit from its first line on, over this source and this sink, and ended
-- with this status.
abbrev pub Plays : {C B S : Type 0} → Rules C B → (C → Place → S) → SourceUse → SinkUse → Status → Type 0
Plays rules cut source sink status = Outcome (λ s. s.position) (Acting rules cut) (UnderWay rules cut) first source sink status

-- A script was played on a document of a kit, and ended with the status of this code.
abbrev pub PlaysTo : {C B S : Type 0} → Rules C B → (C → Place → S) → SourceUse → SinkUse → (code : ℕ) → Type 0
PlaysTo rules cut source sink code = (status : Status) × Plays rules cut source sink status × (code ≡ code_of status)

-- the words are one of the forms
abbrev pub IsForm : List (List ℕ) → Type 0
IsForm words = PlaysPatch words ⊎ PlaysSheet words

-- What a replay with these words does: it plays the script of the source on the document that they name, and its
-- exit status is that of the reason why it ended.
pub record Replays (words : List (List ℕ)) (source : SourceUse) (sink : SinkUse) (code : ℕ) : Type 0 where
  pub patch : PlaysPatch words → PlaysTo patch_rules patch_cut source sink code
  pub sheet : PlaysSheet words → PlaysTo sheet_kind sheet_cut source sink code
  -- other words, and they alone, are answered by 2
  pub wrong_words : (code ≡ 2) ↔ (IsForm words → ⊥)
  -- a count of faults rises exactly where the code says who failed
  pub read : HasCause source.faults source.faults_now (code ≡ 4)
  pub write : HasCause sink.faults sink.faults_now (code ≡ 5)
  -- a script with its end in time comes to it, or there was no memory
  pub complete : (left : List ℕ) → IsForm words → source.left ≡ Some left → HasEnd start left
      → (Rose source.faults source.faults_now → ⊥) → (Rose sink.faults sink.faults_now → ⊥)
      → (code ≡ 0) ⊎ (code ≡ 6)
