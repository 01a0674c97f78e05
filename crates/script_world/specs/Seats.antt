-- Which links the world holds: those in the lobby, and those that are views; and what is written to them.
use Rattle.std.specs.Prelude.{ℕ, Bool, ◌&&◌, is_none, List, [], ◌∷◌, nat_eq, Option, None, Some, Result, Ok, Err, codes, if◌then◌else◌}
use Rattle.std.specs.BTreeMap.{insert_entry, is_at}
use Rattle.std.specs.BTreeSet.{insert_key}
use Rattle.std.specs.List.{list_any, flat_map}
use Rattle.std.specs.Map.{lookup, remove_entry}
use Rattle.std.specs.Ordering.{nat_cmp}
use Rattle.std.specs.Set.{remove_key}
use Rattle.cool_base.specs.declared.ids.ViewId.{ViewId}
use Rattle.cool_frame.specs.Frames.{frame_bytes}
use Rattle.cool_frame.specs.declared.frame.Frame.{Frame}
use Rattle.cool_frame.specs.declared.frame.Frame.TheVariants.{Server, Error}
use Rattle.cool_frame.specs.declared.kind.ErrorKind.TheVariants.{BadMessage, NotLoaded, BadFile, ViewsFull}
use Rattle.cool_message.specs.Command.{command_name}
use Rattle.cool_message.specs.Reading.{reading}
use Rattle.cool_message.specs.declared.fault.MessageFault.{MessageFault}
use Rattle.cool_message.specs.declared.message.ClientMessage.{ClientMessage}
use Rattle.cool_message.specs.declared.message.ClientMessage.TheVariants.{CoolClient, Load}
use Rattle.script_lines.specs.Records.{record_of}

-- the links in the lobby, in order, and those that are views, in order of links, each with its view's id
pub record Seats : Type 0 where
  pub lobby : List ℕ
  pub views : List (ℕ × ℕ)

-- no link is held
abbrev pub nobody : Seats
nobody = record { lobby = []; views = [] }

-- the view that the link is
abbrev pub view_of : Seats → ℕ → Option ℕ
view_of seats link = lookup (is_at (nat_cmp link)) seats.views

-- whether the link is in the lobby: it is held there, and is no view
abbrev pub is_waiting : Seats → ℕ → Bool
is_waiting seats link = list_any (is_at (nat_cmp link)) seats.lobby && is_none (view_of seats link)

-- a link comes into the lobby
abbrev pub enters : Seats → ℕ → Seats
enters seats link = record seats { lobby = insert_key nat_cmp seats.lobby link }

-- a link of the lobby is a view from now on
abbrev pub sits : Seats → ℕ → ℕ → Seats
sits seats link view = record {
  lobby = remove_key (is_at (nat_cmp link)) seats.lobby;
  views = insert_entry nat_cmp seats.views link view;
}

-- a link is gone
abbrev pub without : Seats → ℕ → Seats
without seats link = record {
  lobby = remove_key (is_at (nat_cmp link)) seats.lobby;
  views = remove_entry (is_at (nat_cmp link)) seats.views;
}

-- the link of a view
abbrev pub link_in : List (ℕ × ℕ) → ℕ → Option ℕ
link_in [] view = None
link_in (seat ∷ seats) view = if nat_eq seat.1 view then Some seat.0 else link_in seats view

abbrev pub link_of : Seats → ℕ → Option ℕ
link_of seats view = link_in seats.views view

-- the record of a frame to a link
abbrev pub tells : ℕ → Frame → List ℕ
tells link frame = record_of link (frame_bytes frame)

-- the record of a frame to a view: it goes to the view's link
abbrev pub tells_if : Option ℕ → Frame → List ℕ
tells_if None frame = []
tells_if (Some link) frame = tells link frame

abbrev pub record_to : Seats → ViewId × Frame → List ℕ
record_to seats given = tells_if (link_of seats given.0.0) given.1

-- the records of frames to views, in order
abbrev pub records : Seats → List (ViewId × Frame) → List ℕ
records seats frames = flat_map (record_to seats) frames

-- What a message in the lobby is answered: it is greeted back; a text that is no message is refused, and so is a
-- load, since only the line that opens a link loads; every other message needs a document
abbrev pub lobby_answer : List ℕ → Result ClientMessage MessageFault → Frame
lobby_answer text (Err fault) = Error (command_name text) BadMessage None
lobby_answer text (Ok CoolClient) = Server
lobby_answer text (Ok (Load url)) = Error (codes "load") BadMessage None
lobby_answer text (Ok _) = Error (command_name text) NotLoaded None

abbrev pub lobby_frame : List ℕ → Frame
lobby_frame text = lobby_answer text (reading text)

-- a file that the kit refuses, and a document that has its 64 views
abbrev pub bad_file : Frame
bad_file = Error (codes "load") BadFile None

abbrev pub views_full : Frame
views_full = Error (codes "load") ViewsFull None
