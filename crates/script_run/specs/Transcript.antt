-- The transcript of a script, and why it ends with a status. A script is played on states: `position` says
-- where its grammar stands, `step` what a line that acts writes and leads to, `under` what a line that is
-- under way has made so far.
use Rattle.std.specs.Prelude.{ℕ, ◌≡◌, ◌+◌, ◌<◌, ◌≤◌, List, [], ◌∷◌, ◌++◌, length, ◌⊎◌}
use Rattle.std.specs.List.{AllByRecursion}
use Rattle.outside.specs.Streams.{Takes, Adds, IsAtEnd}
use Rattle.script_lines.specs.Positions.{Position}
use Rattle.script_lines.specs.Grammar.{Ends, Refused}
use Rattle.script_lines.specs.Grammar.{role}
use Rattle.script_lines.specs.Lines.{IsUnbroken, IsLine, joined}
use Rattle.script_lines.specs.Records.{IsFront, fault_text}
use Rattle.script_run.specs.declared.status.Status.{Status}
use Rattle.script_run.specs.declared.status.Status.TheVariants.{Done, WrongWords, FaultLine, ReadFault, WriteFault, Memory, NoEnd}
use Rattle.script_run.specs.Play.{IsCut}
use Rattle.script_run.specs.Uses.{SourceUse, SinkUse}

-- how many bytes of a script are read at most
abbrev pub budget : ℕ
budget = 1073741824

-- The lines act one after the other, and write this.
abbrev pub Runs : {X : Type 0} → (X → List ℕ → List ℕ → X → Type 0) → X → List (List ℕ) → List ℕ → X → Type 0
Runs step s [] out t = (out ≡ []) × (t ≡ s)
Runs {X} step s (line ∷ lines) out t = (mid : X) × (here : List ℕ) × (later : List ℕ)
    × step s line here mid × Runs step mid lines later t × (out ≡ here ++ later)

-- The bytes are this line: up to its newline, or up to the end of the source, where it isn't empty.
abbrev pub Spells : Type 0 → List ℕ → List ℕ → Type 0
Spells at_end line bytes = IsLine line × ((bytes ≡ line ++ 10 ∷ []) ⊎ ((bytes ≡ line) × (0 < length line) × at_end))

-- The bytes are a line that the grammar refuses there, or the first 70,001 bytes of a longer one.
abbrev pub IsRefused : Type 0 → Position → List ℕ → Type 0
IsRefused at_end position bytes =
    ((line : List ℕ) × Spells at_end line bytes × (role position line ≡ Refused))
    ⊎ (IsUnbroken bytes × (length bytes ≡ 70001))

-- What is made at these bytes: the records of a line, as far as it is under way, or the text that names a
-- refused line.
abbrev pub Writes : {X : Type 0} → (X → Position) → (X → List ℕ → List ℕ → Type 0) → Type 0 → X → ℕ → List ℕ → List ℕ → Type 0
Writes position under at_end s number rest out =
    ((line : List ℕ) × Spells at_end line rest × under s line out)
    ⊎ (IsRefused at_end (position s) rest × (out ≡ fault_text number))

-- The bytes stand within a line that is being read, or are the line under way and its newline.
abbrev pub IsWithin : List ℕ → Type 0
IsWithin rest = (IsUnbroken rest × (length rest ≤ 70001)) ⊎ ((line : List ℕ) × IsLine line × (rest ≡ line ++ 10 ∷ []))

-- Why a script ends with a status. `rest` is what was read behind the lines that acted, `tail` what was
-- written behind their records, `at_end` that the source ended, `full` that the budget is used up.
abbrev pub Cause : {X : Type 0} → (X → Position) → (X → List ℕ → List ℕ → X → Type 0) → (X → List ℕ → List ℕ → Type 0)
    → Status → Type 0 → Type 0 → X → ℕ → List ℕ → List ℕ → Type 0
-- the line `end`, up to its newline or the end of the source
Cause position step under Done at_end full s number rest tail =
    (line : List ℕ) × Spells at_end line rest × (role (position s) line ≡ Ends) × (tail ≡ [])
Cause position step under WrongWords at_end full s number rest tail = ⊥
-- a line that the grammar refuses, and its number
Cause position step under FaultLine at_end full s number rest tail = IsRefused at_end (position s) rest × (tail ≡ fault_text number)
-- the source failed within a line or before one
Cause position step under ReadFault at_end full s number rest tail = IsLine rest × (tail ≡ [])
-- the sink failed before all was written
Cause position step under WriteFault at_end full s number rest tail = (out : List ℕ) × IsCut tail out × Writes position under at_end s number rest out
-- no memory: the source stands in or behind the line under way; nothing was written for it, or a front of what was made
Cause position step under Memory at_end full s number rest tail =
    (IsWithin rest × (tail ≡ [])) ⊎ ((out : List ℕ) × IsFront tail out × Writes position under at_end s number rest out)
-- the source ended behind a newline; or the budget is used up; or the last line has no newline and acted
Cause {X} position step under NoEnd at_end full s number rest tail =
    ((rest ≡ []) × (tail ≡ []) × at_end)
    ⊎ ((IsLine rest × (tail ≡ []) × full)
    ⊎ ((t : X) × IsLine rest × (0 < length rest) × step s rest tail t × at_end))

-- A script was read from a source, played and written to a sink, and ended with this status.
pub record Ended {X : Type 0} (position : X → Position) (step : X → List ℕ → List ℕ → X → Type 0) (under : X → List ℕ → List ℕ → Type 0)
    (first : X) (source : SourceUse) (sink : SinkUse) (status : Status) : Type 0 where
  pub lines : List (List ℕ)
  pub rest : List ℕ
  pub written : List ℕ
  pub tail : List ℕ
  pub state : X
  -- what was read is these lines and the rest, what was written is their records and the tail
  pub taken : Takes source.left (joined lines ++ rest) source.left_now
  pub added : Adds sink.written (written ++ tail) sink.written_now
  pub each : AllByRecursion IsLine lines
  pub runs : Runs step first lines written state
  pub cause : Cause position step under status (IsAtEnd source.left_now × (length (joined lines ++ rest) < budget))
      (length (joined lines ++ rest) ≡ budget) state (length lines + 1) rest tail
