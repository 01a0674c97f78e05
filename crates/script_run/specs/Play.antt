-- What a player of a script answers to one line.
use Rattle.std.specs.Prelude.{ℕ, ◌≡◌, ◌<◌, List, ◌++◌, length, Option, None, Some, ◌⊎◌}
use Rattle.outside.specs.Streams.{Adds}
use Rattle.script_lines.specs.Positions.{Position}
use Rattle.script_lines.specs.Grammar.{Ends, Refused}
use Rattle.script_lines.specs.declared.output.Stop.{Stop}
use Rattle.script_lines.specs.declared.output.Stop.TheVariants.{Sink, Memory as NoMemory}
use Rattle.script_lines.specs.Grammar.{role}
use Rattle.script_lines.specs.Records.{IsFront, fault_text}
use Rattle.script_run.specs.declared.status.Status.{Status}
use Rattle.script_run.specs.declared.status.Status.TheVariants.{Done, WrongWords, FaultLine, ReadFault, WriteFault, Memory, NoEnd}

-- the bytes are a front of the others, and not all of them
pub record IsCut (part whole : List ℕ) : Type 0 where
  pub behind : List ℕ
  pub is : whole ≡ part ++ behind
  pub more : 0 < length behind

-- how much of what was made is written where the sink, or memory, stops the work
abbrev pub CutBy : Stop → List ℕ → List ℕ → Type 0
CutBy Sink part whole = IsCut part whole
CutBy NoMemory part whole = IsFront part whole

-- The work was stopped while something was written: a front of what was made by then is in the sink.
pub record Stopped (stop : Stop) (Made : List ℕ → Type 0) (old new : Option (List ℕ)) : Type 0 where
  pub made : List ℕ
  pub part : List ℕ
  pub is_made : Made made
  pub cut : CutBy stop part made
  pub added : Adds old part new

-- What is made at a line: the records of an acting line, as far as it is under way, or the text that names
-- a refused one.
abbrev pub Makes : {X : Type 0} → (X → Position) → (X → List ℕ → List ℕ → Type 0) → X → List ℕ → ℕ → List ℕ → Type 0
Makes position under s line number out = under s line out ⊎ ((role (position s) line ≡ Refused) × (out ≡ fault_text number))

-- What a line is answered: nothing where it acts, else the status that it decides.
abbrev pub Answers : {X : Type 0} → (X → Position) → (X → List ℕ → List ℕ → X → Type 0) → (X → List ℕ → List ℕ → Type 0)
    → Option Status → X → List ℕ → ℕ → X → Option (List ℕ) → Option (List ℕ) → Type 0
Answers position step under None old line number new before now = (out : List ℕ) × step old line out new × Adds before out now
Answers position step under (Some Done) old line number new before now = (role (position old) line ≡ Ends) × (now ≡ before)
Answers position step under (Some WrongWords) old line number new before now = ⊥
Answers position step under (Some FaultLine) old line number new before now = (role (position old) line ≡ Refused) × Adds before (fault_text number) now
Answers position step under (Some ReadFault) old line number new before now = ⊥
Answers position step under (Some WriteFault) old line number new before now = Stopped Sink (Makes position under old line number) before now
Answers position step under (Some Memory) old line number new before now = (now ≡ before) ⊎ Stopped NoMemory (Makes position under old line number) before now
Answers position step under (Some NoEnd) old line number new before now = ⊥

-- what the last line of a source is answered, by the status: the script has no end where the line acted
abbrev pub answer_of : Status → Option Status
answer_of Done = Some Done
answer_of WrongWords = Some WrongWords
answer_of FaultLine = Some FaultLine
answer_of ReadFault = Some ReadFault
answer_of WriteFault = Some WriteFault
answer_of Memory = Some Memory
answer_of NoEnd = None

-- What the attempt to write the text of a refusal is answered.
abbrev pub Refuses : Status → ℕ → Option (List ℕ) → Option (List ℕ) → Type 0
Refuses Done number before now = ⊥
Refuses WrongWords number before now = ⊥
Refuses FaultLine number before now = Adds before (fault_text number) now
Refuses ReadFault number before now = ⊥
Refuses WriteFault number before now = Stopped Sink (λ out. out ≡ fault_text number) before now
Refuses Memory number before now = now ≡ before
Refuses NoEnd number before now = ⊥
