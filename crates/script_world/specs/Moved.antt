-- Moves that were made, with what they wrote to a sink.
use Rattle.std.specs.Prelude.{ℕ, ◌≡◌, ◌<◌, ◌^◌, List, Option, None, Some, Bool, Ok}
use Rattle.std.specs.List.{AllByRecursion}
use Rattle.cool_message.specs.Reading.{reading}
use Rattle.cool_message.specs.declared.message.ClientMessage.TheVariants.{TileProcessed}
use Rattle.document_machine.specs.Held.{Held}
use Rattle.document_machine.specs.Rank.{left_to_do}
use Rattle.kit_trait.specs.Rules.{Rules}
use Rattle.tile_key.specs.Places.{Place}
use Rattle.outside.specs.Streams.{Adds}
use Rattle.script_world.specs.House.{House, PollTurn, window_in}
use Rattle.script_world.specs.World.{Seen, Chain, Moves, turns, Turned}
use Rattle.script_world.specs.declared.event.Waiting.{Waiting}
use Rattle.script_world.specs.declared.event.Waiting.TheVariants.{Opened, Loads, Says, Gone}

-- the moves so far, and all that they wrote is in the sink
pub record Came {M X : Type 0} (step : M → X → List ℕ → X → Type 0) (s : X) (t : X) (old new : Option (List ℕ)) : Type 0 where
  pub moves : List M
  pub out : List ℕ
  pub chain : Chain step moves s out t
  pub added : Adds old out new

-- what some moves from here on write
abbrev pub MadeFrom : {M X : Type 0} → (M → X → List ℕ → X → Type 0) → X → List ℕ → Type 0
MadeFrom {M} {X} step s out = (moves : List M) × (t : X) × Chain step moves s out t

-- a poll turn is done and written
pub record TurnWritten {C B S : Type 0} (rules : Rules C B) (cut : C → Place → S) (waiting : List Waiting) (old : House S) (worked : Bool) (rest : List Waiting) (new : House S) (before now : Option (List ℕ)) : Type 0 where
  pub out : List ℕ
  pub done : PollTurn rules cut waiting old out worked rest new
  pub added : Adds before out now

-- the event is a text that acknowledges tiles
abbrev pub IsAcknowledgement : Waiting → Type 0
IsAcknowledgement (Opened link) = ⊥
IsAcknowledgement (Loads link file writes) = ⊥
IsAcknowledgement (Says link text) = (wids : List ℕ) × (reading text ≡ Ok (TileProcessed wids))
IsAcknowledgement (Gone link) = ⊥

-- how much the document has left to do
abbrev pub left_of : {C B S : Type 0} → Rules C B → Option (Held S) → ℕ
left_of rules None = 0
left_of rules (Some held) = left_to_do rules held.document

-- all these events are
abbrev pub AllAcknowledge : List Waiting → Type 0
AllAcknowledge events = AllByRecursion IsAcknowledgement events

-- so many poll turns that work, and all that they wrote is in the sink
pub record MadeTurns {C B S : Type 0} (rules : Rules C B) (cut : C → Place → S) (made : ℕ) (s t : Seen S) (old new : Option (List ℕ)) : Type 0 where
  pub out : List ℕ
  pub chain : Chain (Moves rules cut) (turns made) s out t
  pub added : Adds old out new

-- so many poll turns, or fewer up to one that would do nothing, are done and written
pub record TurnedTo {C B S : Type 0} (rules : Rules C B) (cut : C → Place → S) (count : ℕ) (s t : Seen S) (old new : Option (List ℕ)) : Type 0 where
  pub out : List ℕ
  pub done : Turned rules cut count s out t
  pub added : Adds old out new

-- the windows of these seats hold numbers below 2^64
abbrev pub AreSmall : {S : Type 0} → Option (Held S) → List (ℕ × ℕ) → Type 0
AreSmall document views = AllByRecursion (λ seat. AllByRecursion (λ n. n < 2 ^ 64) (window_in document seat.1)) views
