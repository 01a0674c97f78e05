-- What a line of a script does, and what a line under way has made, over the world that one kit makes.
use Rattle.std.specs.Prelude.{ℕ, ◌≡◌, List, [], ◌∷◌, ◌++◌, Option, None, Some, ◌⊎◌}
use Rattle.kit_trait.specs.Rules.{Rules}
use Rattle.tile_key.specs.Places.{Place}
use Rattle.outside.specs.Streams.{Adds}
use Rattle.script_lines.specs.Grammar.{start, role, Role, Acts, Ends, Refused}
use Rattle.script_lines.specs.Positions.{Position}
use Rattle.script_lines.specs.declared.saying.ScriptLine.{ScriptLine}
use Rattle.script_lines.specs.declared.saying.ScriptLine.TheVariants.{Open, Say, Keys, Leave, Turn, Settle, Blank, End}
use Rattle.script_lines.specs.declared.output.Stop.{Stop}
use Rattle.script_lines.specs.declared.output.Stop.TheVariants.{Sink, Memory as NoMemory}
use Rattle.script_run.specs.Play.{Stopped}
use Rattle.script_run.specs.declared.status.Status.{Status}
use Rattle.script_run.specs.declared.status.Status.TheVariants.{Done, WrongWords, FaultLine, ReadFault, WriteFault, Memory, NoEnd}
use Rattle.script_world.specs.House.{IsHoused}
use Rattle.script_world.specs.World.{Seen, unopened, opening_events, typed_events, Turned, Settled, Begun}
use Rattle.script_world.specs.declared.event.Waiting.TheVariants.{Says, Gone}

-- where the grammar stands, and the world
pub record Standing (S : Type 0) : Type 0 where
  pub position : Position
  pub world : Seen S

-- a script before its first line
abbrev pub first : {S : Type 0} → Standing S
first = record { position = start; world = unopened }

-- Opening a file makes three events that wait, saying a message makes one, typing makes one for each character, a
-- link that is dropped makes one; turns and settling do what waits; a blank line does nothing.
abbrev pub Does : {C B S : Type 0} → Rules C B → (C → Place → S) → ScriptLine → Seen S → List ℕ → Seen S → Type 0
Does rules cut (Open link file writes) s out t = (out ≡ []) × (t ≡ record s { waiting = s.waiting ++ opening_events link file writes })
Does rules cut (Say link message) s out t = (out ≡ []) × (t ≡ record s { waiting = s.waiting ++ Says link message ∷ [] })
Does rules cut (Keys link typed) s out t = (out ≡ []) × (t ≡ record s { waiting = s.waiting ++ typed_events link typed })
Does rules cut (Leave link) s out t = (out ≡ []) × (t ≡ record s { waiting = s.waiting ++ Gone link ∷ [] })
Does rules cut (Turn count) s out t = Turned rules cut count s out t
Does rules cut Settle s out t = Settled rules cut s out t
Does rules cut Blank s out t = (out ≡ []) × (t ≡ s)
Does rules cut End s out t = (out ≡ []) × (t ≡ s)

-- What a line that is under way has made: turns and settling do whole moves, the others write nothing.
abbrev pub Doing : {C B S : Type 0} → Rules C B → (C → Place → S) → ScriptLine → Seen S → List ℕ → Type 0
Doing rules cut (Open link file writes) s out = out ≡ []
Doing rules cut (Say link message) s out = out ≡ []
Doing rules cut (Keys link typed) s out = out ≡ []
Doing rules cut (Leave link) s out = out ≡ []
Doing rules cut (Turn count) s out = Begun rules cut s out
Doing rules cut Settle s out = Begun rules cut s out
Doing rules cut Blank s out = out ≡ []
Doing rules cut End s out = out ≡ []

-- only a line that acts does something, and the script then stands after it
abbrev pub DoesBy : {C B S : Type 0} → Rules C B → (C → Place → S) → Role → Seen S → List ℕ → Standing S → Type 0
DoesBy rules cut (Acts line position) world out t = Does rules cut line world out t.world × (t.position ≡ position)
DoesBy rules cut Ends world out t = ⊥
DoesBy rules cut Refused world out t = ⊥

abbrev pub DoingBy : {C B S : Type 0} → Rules C B → (C → Place → S) → Role → Seen S → List ℕ → Type 0
DoingBy rules cut (Acts line position) world out = Doing rules cut line world out
DoingBy rules cut Ends world out = ⊥
DoingBy rules cut Refused world out = ⊥

-- a line that acts, where the grammar stands
unfoldable pub Acting : {C B S : Type 0} → Rules C B → (C → Place → S) → Standing S → List ℕ → List ℕ → Standing S → Type 0
Acting rules cut s line out t = DoesBy rules cut (role s.position line) s.world out t

-- a line that is under way, where the grammar stands
unfoldable pub UnderWay : {C B S : Type 0} → Rules C B → (C → Place → S) → Standing S → List ℕ → List ℕ → Type 0
UnderWay rules cut s line out = DoingBy rules cut (role s.position line) s.world out

-- the world keeps to its rules, so what a line writes is no choice
abbrev pub IsGood : {C B S : Type 0} → Rules C B → (C → Place → S) → Standing S → Type 0
IsGood rules cut s = IsHoused rules cut s.world.house

-- How a line was stopped: the sink took a front of what was made, and not all of it; or memory was wanting,
-- before anything was written or while it was.
abbrev pub Halted : Stop → (List ℕ → Type 0) → Option (List ℕ) → Option (List ℕ) → Type 0
Halted Sink Made before now = Stopped Sink Made before now
Halted NoMemory Made before now = (now ≡ before) ⊎ Stopped NoMemory Made before now

-- What a line that acts is answered: nothing once it is done, else the status that stopped it.
abbrev pub CarriesOut : {C B S : Type 0} → Rules C B → (C → Place → S) → ScriptLine → Option Status → Seen S → Seen S → Option (List ℕ) → Option (List ℕ) → Type 0
CarriesOut rules cut said None old new before now = (out : List ℕ) × Does rules cut said old out new × Adds before out now
CarriesOut rules cut said (Some Done) old new before now = ⊥
CarriesOut rules cut said (Some WrongWords) old new before now = ⊥
CarriesOut rules cut said (Some FaultLine) old new before now = ⊥
CarriesOut rules cut said (Some ReadFault) old new before now = ⊥
CarriesOut rules cut said (Some WriteFault) old new before now = Halted Sink (Doing rules cut said old) before now
CarriesOut rules cut said (Some Memory) old new before now = Halted NoMemory (Doing rules cut said old) before now
CarriesOut rules cut said (Some NoEnd) old new before now = ⊥
