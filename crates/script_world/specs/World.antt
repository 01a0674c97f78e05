-- The world of a script: one poll, and the events that wait.
use Rattle.std.specs.Prelude.{ℕ, zero, suc, ◌≡◌, ◌<◌, List, [], ◌∷◌, ◌++◌, length, map, codes, Bool, Option, None, Some, ◌⊎◌, true}
use Rattle.std.specs.Fmt.{decimal}
use Rattle.document_machine.specs.Held.{Held}
use Rattle.document_machine.specs.Quiet.{IsQuiet, AllRight}
use Rattle.document_machine.specs.Step.{Rests}
use Rattle.kit_trait.specs.Rules.{Rules}
use Rattle.tile_key.specs.Places.{Place}
use Rattle.script_world.specs.House.{House, PollTurn, acknowledgements}
use Rattle.script_world.specs.Seats.{nobody}
use Rattle.script_world.specs.declared.event.Waiting.{Waiting}
use Rattle.script_world.specs.declared.event.Waiting.TheVariants.{Opened, Loads, Says}

-- what waits in the order of its coming, and who and what is there
pub record Seen (S : Type 0) : Type 0 where
  pub waiting : List Waiting
  pub house : House S

-- nothing waits, nobody is there, and no document is loaded
abbrev pub unopened : {S : Type 0} → Seen S
unopened = record { waiting = []; house = record { seats = nobody; document = None } }

-- what `open` lets come: the link is there, greets, and loads the file
abbrev pub opening_events : ℕ → List ℕ → Bool → List Waiting
opening_events link file writes = Opened link ∷ Says link (codes "coolclient 0.1") ∷ Loads link file writes ∷ []

-- the message of a key for a character
abbrev pub key_text : ℕ → List ℕ
key_text character = codes "key type=input char=" ++ (decimal character ++ codes " key=0")

-- what `type` lets come: one message of a key for each character
abbrev pub typed_events : ℕ → List ℕ → List Waiting
typed_events link typed = map (λ character. Says link (key_text character)) typed

-- a turn of the document, if there is one, would do nothing
abbrev pub RestsNow : {C B S : Type 0} → Rules C B → Option (Held S) → Type 0
RestsNow rules None = Unit {0}
RestsNow rules (Some held) = Rests rules held.document

-- a poll turn would do nothing
abbrev pub IsIdle : {C B S : Type 0} → Rules C B → Seen S → Type 0
IsIdle rules s = (s.waiting ≡ []) × RestsNow rules s.house.document

-- A move: a poll turn that works; or, where a poll turn would do nothing, the acknowledgements of all tiles come to
-- wait, where there are some.
pub data Move : Type 0 where
  Turn : Move
  Acknowledge : Move

abbrev pub Moves : {C B S : Type 0} → Rules C B → (C → Place → S) → Move → Seen S → List ℕ → Seen S → Type 0
Moves rules cut Turn s out t = PollTurn rules cut s.waiting s.house out true t.waiting t.house
Moves rules cut Acknowledge s out t =
    IsIdle rules s × (0 < length (acknowledgements s.house)) × (out ≡ []) × (t ≡ record s { waiting = acknowledgements s.house })

-- moves one after the other, and what they wrote
abbrev pub Chain : {M X : Type 0} → (M → X → List ℕ → X → Type 0) → List M → X → List ℕ → X → Type 0
Chain step [] s out t = (out ≡ []) × (t ≡ s)
Chain {M} {X} step (move ∷ moves) s out t = (mid : X) × (here : List ℕ) × (later : List ℕ)
    × step move s here mid × Chain step moves mid later t × (out ≡ here ++ later)

-- so many poll turns that work
abbrev pub turns : ℕ → List Move
turns zero = []
turns (suc n) = Turn ∷ turns n

-- So many poll turns are made, or fewer up to one that would do nothing.
pub record Turned {C B S : Type 0} (rules : Rules C B) (cut : C → Place → S) (count : ℕ) (s : Seen S) (out : List ℕ) (t : Seen S) : Type 0 where
  pub made : ℕ
  pub follows : Chain (Moves rules cut) (turns made) s out t
  pub all : (made ≡ count) ⊎ ((made < count) × IsIdle rules t)

-- the document, if there is one, is quiet, and all that its views see or asked for is right
abbrev pub IsAtRest : {C B S : Type 0} → Rules C B → Option (Held S) → Type 0
IsAtRest rules None = Unit {0}
IsAtRest rules (Some held) = IsQuiet rules held.document × AllRight rules held.document

-- All that waits is done: moves up to where nothing waits and the document, if any, is quiet and right.
pub record Settled {C B S : Type 0} (rules : Rules C B) (cut : C → Place → S) (s : Seen S) (out : List ℕ) (t : Seen S) : Type 0 where
  pub moves : List Move
  pub follows : Chain (Moves rules cut) moves s out t
  pub none_waits : t.waiting ≡ []
  pub rests : IsAtRest rules t.house.document

-- Some of it is done: moves from this state on write these bytes.
pub record Begun {C B S : Type 0} (rules : Rules C B) (cut : C → Place → S) (s : Seen S) (out : List ℕ) : Type 0 where
  pub moves : List Move
  pub mid : Seen S
  pub follows : Chain (Moves rules cut) moves s out mid
