-- What `replay` writes, in the words of the document machine.
use Rattle.std.specs.Prelude.{ℕ, ⊤, List, ◌++◌, Option, None, Some, ◌⊎◌}
use Rattle.std.specs.List.{flat_map, AllByRecursion}
use Rattle.document_machine.specs.Held.{Held}
use Rattle.document_machine.specs.Quiet.{IsQuiet}
use Rattle.kit_trait.specs.Rules.{Rules}
use Rattle.tile_key.specs.Places.{Place}
use Rattle.script_lines.specs.Records.{IsFront, fault_text}
use Rattle.script_world.specs.House.{House}
use Rattle.script_world.specs.Seats.{Seats}
use Rattle.script_laws.specs.LastTiles.{ArePainted}
use Rattle.script_laws.specs.Played.{given_of, IsPlayed, Shows}
use Rattle.script_laws.specs.Saves.{AreEarned}

-- the document, if there is one, is quiet
abbrev pub IsQuietNow : {C B S : Type 0} → Rules C B → Option (Held S) → Type 0
IsQuietNow rules None = ⊤
IsQuietNow rules (Some held) = IsQuiet rules held.document

-- The bytes are the transcript of a world, and what it shows is right: the frames of the document are one run of its
-- machine; each tile shows the document after a prefix of its accepted inputs; each save that is told done is earned; and
-- where the document is quiet, the last tile that a view was sent of each key that it sees or asked for is the document
-- painted from scratch.
pub record IsTranscript {C B S : Type 0} (rules : Rules C B) (cut : C → Place → S) (out : List ℕ) (seats : Seats) (document : Option (Held S)) : Type 0 where
  pub played : IsPlayed rules cut out seats document
  pub tiles : AllByRecursion (Shows rules document) played.pieces
  pub saves : AreEarned rules cut (flat_map given_of played.pieces) document played.run
  pub painted : IsQuietNow rules document → ArePainted rules document (flat_map given_of played.pieces)

-- What stands behind a transcript: a front of what it goes on with, or of the text that names a refused line.
abbrev pub IsTail : {C B S : Type 0} → Rules C B → (C → Place → S) → List ℕ → List ℕ → Type 0
IsTail {C} {B} {S} rules cut written tail =
    ((more : List ℕ) × (seats : Seats) × (document : Option (Held S)) × IsTranscript rules cut (written ++ more) seats document × IsFront tail more)
    ⊎ ((number : ℕ) × IsFront tail (fault_text number))

-- What was written of the lines that acted is the transcript of the world in which the script stands behind them, and
-- what was written behind it is such a tail.
abbrev pub IsReplayed : {C B S : Type 0} → Rules C B → (C → Place → S) → List ℕ → List ℕ → House S → Type 0
IsReplayed rules cut written tail house = IsTranscript rules cut written house.seats house.document × IsTail rules cut written tail
