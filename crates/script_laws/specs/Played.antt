-- A transcript in the words of the document machine: which of its records the document gave, and that these are the
-- frames of one run of moves.
use Rattle.std.specs.Prelude.{ℕ, ◌≡◌, ⊤, List, [], ◌∷◌, length, slice_get, Option, None, Some, ◌⊎◌, true}
use Rattle.std.specs.List.{flat_map, AllByRecursion}
use Rattle.cool_base.specs.declared.ids.ViewId.{ViewId}
use Rattle.cool_frame.specs.declared.frame.Frame.{Frame}
use Rattle.cool_frame.specs.declared.frame.Frame.TheVariants.{Tile}
use Rattle.document_laws.specs.Tiles.{IsShown}
use Rattle.document_machine.specs.Event.{Event}
use Rattle.document_machine.specs.Goes.{Moves}
use Rattle.document_machine.specs.Held.{Held, opening_held}
use Rattle.document_machine.specs.Run.{Run}
use Rattle.document_machine.specs.declared.outs.Outs.{Outs}
use Rattle.kit_trait.specs.Rules.{Rules}
use Rattle.tile_key.specs.Places.{Place}
use Rattle.script_world.specs.Seats.{Seats, tells, lobby_frame, bad_file, views_full}

-- one record of a transcript: the answer to a link in the lobby, or a frame that the document gave to a view, as it is
-- written to the view's link
pub data Piece : Type 0 where
  Lobby : (link : ℕ) (answer : Frame) → Piece
  Given : (link : ℕ) (view : ViewId) (frame : Frame) → Piece

-- the bytes of a record
abbrev pub bytes_of : Piece → List ℕ
bytes_of (Lobby link answer) = tells link answer
bytes_of (Given link view frame) = tells link frame

-- what of a record the document gave, and to which view
abbrev pub given_of : Piece → List (ViewId × Frame)
given_of (Lobby link answer) = []
given_of (Given link view frame) = (view, frame) ∷ []

-- what a link in the lobby is answered: to a message, to a load of a file that the kit refuses, to a load of a
-- document that has its 64 views
abbrev pub IsAnswer : Frame → Type 0
IsAnswer answer = ((text : List ℕ) × (answer ≡ lobby_frame text)) ⊎ ((answer ≡ bad_file) ⊎ (answer ≡ views_full))

-- A frame to a view goes to the view's link. The links are those that became views, one for each view in order of ids:
-- the first is the link of the view 0.
abbrev pub IsSent : (links : List ℕ) → Piece → Type 0
IsSent links (Lobby link answer) = IsAnswer answer
IsSent links (Given link view frame) = slice_get links view.0 ≡ Some link

-- each link that is a view now is the one of its view
abbrev pub AreSeated : (links : List ℕ) → (seats : List (ℕ × ℕ)) → Type 0
AreSeated links seats = AllByRecursion (λ seat. slice_get links seat.1 ≡ Some seat.0) seats

-- The frames are all that one run of moves of the document machine gave out, in order: from a document that was loaded
-- from no bytes, of which no tile is kept, to this one with the tiles kept of it.
pub record IsRun {C B S : Type 0} (rules : Rules C B) (cut : C → Place → S) (frames : List (ViewId × Frame)) (held : Held S) : Type 0 where
  pub file : List ℕ
  pub events : List (Event S)
  pub outs : Outs S
  pub accepted : rules.accepts [] ≡ true
  pub follows : Run (Moves rules cut) (opening_held file []) events outs held
  pub frames_are : frames ≡ outs.frames

-- where there is no document, there are no frames of one
abbrev pub IsRunTo : {C B S : Type 0} → Rules C B → (C → Place → S) → List (ViewId × Frame) → Option (Held S) → Type 0
IsRunTo rules cut frames None = frames ≡ []
IsRunTo rules cut frames (Some held) = IsRun rules cut frames held

-- how many views ever joined
abbrev pub views_begun : {S : Type 0} → Option (Held S) → ℕ
views_begun None = 0
views_begun (Some held) = held.document.next_view

-- The bytes are the transcript of a world from its beginning on, to these seats and this document. They are records:
-- answers in the lobby, and the frames that the document gave, each written to the link of its view. Those are, in order
-- and without any other, the frames of one run of moves of the document machine to the document as it is now.
pub record IsPlayed {C B S : Type 0} (rules : Rules C B) (cut : C → Place → S) (out : List ℕ) (seats : Seats) (document : Option (Held S)) : Type 0 where
  pub pieces : List Piece
  pub links : List ℕ
  pub written : out ≡ flat_map bytes_of pieces
  pub each : AllByRecursion (IsSent links) pieces
  pub seated : AreSeated links seats.views
  pub begun : length links ≡ views_begun document
  pub run : IsRunTo rules cut (flat_map given_of pieces) document

-- the frame is no tile
abbrev pub IsNoTile : Frame → Type 0
IsNoTile (Tile key version wid rgba) = ⊥
IsNoTile _ = ⊤

-- a frame of the document shows a prefix: if it is a tile, its pixels are those of the document after as many of the
-- accepted inputs as its version says
abbrev pub ShowsPrefix : {C B S : Type 0} → Rules C B → Option (Held S) → ViewId × Frame → Type 0
ShowsPrefix rules None given = ⊥
ShowsPrefix rules (Some held) given =
    IsShown rules held.document.base held.document.journal (length held.document.journal) given

-- the same of a record; an answer in the lobby is no tile
abbrev pub Shows : {C B S : Type 0} → Rules C B → Option (Held S) → Piece → Type 0
Shows rules document (Lobby link answer) = IsNoTile answer
Shows rules document (Given link view frame) = ShowsPrefix rules document (view, frame)
