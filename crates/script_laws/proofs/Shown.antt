-- What the tiles of a transcript show, and what is right behind a line.
use Rattle.std.proofs.Common.{◌≡◌, ℕ, ◌<◌, List, [], ◌∷◌, ◌++◌, codes, Option, None, Some, inl, inr, sym, subst}
use Rattle.std.specs.Prelude.{Result, Ok, Err}
use Rattle.std.specs.List.{flat_map, AllByRecursion}
use Rattle.cool_base.specs.declared.ids.ViewId.{ViewId}
use Rattle.cool_frame.specs.declared.frame.Frame.{Frame}
use Rattle.cool_message.specs.Reading.{reading}
use Rattle.cool_message.specs.declared.fault.MessageFault.{MessageFault}
use Rattle.cool_message.specs.declared.message.ClientMessage.{ClientMessage}
use Rattle.cool_message.specs.declared.message.ClientMessage.TheVariants.{CoolClient, Load}
use Rattle.document_laws.proofs.Tiles.{run_shows}
use Rattle.document_laws.proofs.Kept.{opening_keeps, runs_keep, steps_keep}
use Rattle.document_machine.specs.Held.{Held, opening_held}
use Rattle.document_machine.specs.Due.{parts_of}
use Rattle.document_machine.specs.Kept.{IsKept}
use Rattle.document_machine.specs.Quiet.{IsQuiet, AllRight}
use Rattle.document_machine.specs.Run.{Segment}
use Rattle.document_machine.specs.State.{Document, opening}
use Rattle.kit_trait.specs.Rules.{Rules}
use Rattle.tile_key.specs.Places.{Place}
use Rattle.script_lines.specs.Grammar.{line_of, role}
use Rattle.script_lines.specs.Positions.{Position}
use Rattle.script_run.specs.Transcript.{Runs}
use Rattle.script_world.specs.Seats.{Seats, lobby_answer}
use Rattle.script_world.specs.World.{Seen, Settled, IsAtRest}
use Rattle.script_world.proofs.Housed.{steps_of}
use Rattle.cool_script.specs.Script.{Standing, first, DoesBy, Acting}
use Rattle.script_laws.specs.LastTiles.{ArePainted}
use Rattle.script_laws.specs.Played.{Piece, Lobby, Given, given_of, IsAnswer, IsSent, IsRun, IsRunTo, IsPlayed, IsNoTile, ShowsPrefix, Shows}
use Rattle.script_laws.specs.Replayed.{IsQuietNow, IsTranscript}
use Rattle.script_laws.specs.Saves.{AreEarned, IsEarned}
use Rattle.script_laws.proofs.Lines.{last_of}
use Rattle.script_laws.proofs.Sent.{run_painted}

-- an answer in the lobby is no tile
no_tile_of : (text : List ℕ) (read : Result ClientMessage MessageFault) → IsNoTile (lobby_answer text read)
no_tile_of text (Err fault) = tt
no_tile_of text (Ok CoolClient) = tt
no_tile_of text (Ok (Load url)) = tt
no_tile_of text (Ok _) = tt

no_tile : (answer : Frame) → IsAnswer answer → IsNoTile answer
no_tile answer (inl said) = subst IsNoTile (sym said.1) (no_tile_of said.0 (reading said.0))
no_tile answer (inr (inl bad)) = subst IsNoTile (sym bad) tt
no_tile answer (inr (inr full)) = subst IsNoTile (sym full) tt

module _ {C B S : Type 0} (rules : Rules C B) (cut : C → Place → S) where
  -- from frames to records
  all_show : (links : List ℕ) (document : Option (Held S)) (pieces : List Piece) → AllByRecursion (IsSent links) pieces → AllByRecursion (ShowsPrefix rules document) (flat_map given_of pieces) → AllByRecursion (Shows rules document) pieces
  all_show links document [] sent shown = tt
  all_show links document (Lobby link answer ∷ pieces) sent shown = (no_tile answer sent.0, all_show links document pieces sent.1 shown)
  all_show links document (Given link view frame ∷ pieces) sent shown = (shown.0, all_show links document pieces sent.1 shown.1)

  -- the steps of a run
  pub steps_to : (frames : List (ViewId × Frame)) (held : Held S) (run : IsRun rules cut frames held) → Segment rules cut (opening run.file []) run.events run.outs held.document
  steps_to frames held run = steps_of rules cut run.events (opening_held run.file []) held run.outs run.follows

  -- the document of a run is as a broker keeps it
  pub run_kept : ((base : List ℕ) → 0 < parts_of rules base) → (frames : List (ViewId × Frame)) (held : Held S) → IsRun rules cut frames held → IsKept rules cut held.document
  run_kept some frames held run =
      runs_keep rules cut some run.events (opening run.file []) held.document run.outs (steps_to frames held run) (opening_keeps rules cut run.file [] run.accepted)

  frames_show : ((base : List ℕ) → 0 < parts_of rules base) → (frames : List (ViewId × Frame)) (document : Option (Held S)) → IsRunTo rules cut frames document → AllByRecursion (ShowsPrefix rules document) frames
  frames_show some frames None run = subst (AllByRecursion (ShowsPrefix {S = S} rules None)) (sym run) tt
  frames_show some frames (Some held) run =
      subst (AllByRecursion (ShowsPrefix rules (Some held))) (sym run.frames_are)
      (run_shows rules cut some run.events (opening run.file []) held.document run.outs (opening_keeps rules cut run.file [] run.accepted) (steps_to frames held run))

  pub transcript_shows : ((base : List ℕ) → 0 < parts_of rules base) → (out : List ℕ) (seats : Seats) (document : Option (Held S)) (played : IsPlayed rules cut out seats document) → AllByRecursion (Shows rules document) played.pieces
  transcript_shows some out seats document played = all_show played.links document played.pieces played.each (frames_show some (flat_map given_of played.pieces) document played.run)

  -- the line `settle` acts anywhere, and settles the world
  settled_by : (position : Position) (world : Seen S) (out : List ℕ) (t : Standing S) → DoesBy rules cut (role position (codes "settle")) world out t → Settled rules cut world out t.world
  unfolding line_of
  settled_by position world out t does = does.0

  acting_settles : (s : Standing S) (out : List ℕ) (t : Standing S) → Acting rules cut s (codes "settle") out t → Settled rules cut s.world out t.world
  unfolding Acting
  acting_settles s out t acts = settled_by s.position s.world out t acts

  pub settled_rests : (lines : List (List ℕ)) (out : List ℕ) (t : Standing S) → Runs (Acting rules cut) first (lines ++ codes "settle" ∷ []) out t → (t.world.waiting ≡ []) × IsAtRest rules t.world.house.document
  settled_rests lines out t runs =
      let at = last_of (Acting rules cut) first lines (codes "settle") out t runs in
      let settled : Settled rules cut at.0.world at.1 t.world = acting_settles at.0 at.1 t at.2 in
      (settled.none_waits, settled.rests)

  -- in a quiet document the last tiles are the document from scratch
  pub painted : (some : (base : List ℕ) → 0 < parts_of rules base) (out : List ℕ) (seats : Seats) (held : Held S) (played : IsPlayed rules cut out seats (Some held)) → AllRight rules held.document → ArePainted rules (Some held) (flat_map given_of played.pieces)
  painted some out seats held played right =
      let frames : List (ViewId × Frame) = flat_map given_of played.pieces in
      let run : IsRun rules cut frames held = played.run in
      let begins : IsKept rules cut (opening {S = S} run.file []) = opening_keeps rules cut run.file [] run.accepted in
      let steps = steps_to frames held run in
      subst (ArePainted rules (Some held)) (sym run.frames_are)
      (run_painted rules cut (steps_keep rules cut some) run.events run.file held.document run.outs begins steps (run_kept some frames held run)
      (run_shows rules cut some run.events (opening run.file []) held.document run.outs begins steps) right)

  painted_at : (some : (base : List ℕ) → 0 < parts_of rules base) (out : List ℕ) (seats : Seats) (document : Option (Held S)) → IsAtRest rules document → (played : IsPlayed rules cut out seats document) → ArePainted rules document (flat_map given_of played.pieces)
  painted_at some out seats None rests played = tt
  painted_at some out seats (Some held) rests played = painted some out seats held played rests.1

  pub settled_painted : (some : (base : List ℕ) → 0 < parts_of rules base) (lines : List (List ℕ)) (out : List ℕ) (t : Standing S) → Runs (Acting rules cut) first (lines ++ codes "settle" ∷ []) out t
      → (played : IsPlayed rules cut out t.world.house.seats t.world.house.document) → ArePainted rules t.world.house.document (flat_map given_of played.pieces)
  settled_painted some lines out t runs played = painted_at some out t.world.house.seats t.world.house.document (settled_rests lines out t runs).1 played

  -- a transcript is right
  painted_now : (some : (base : List ℕ) → 0 < parts_of rules base) (quiet : (d : Document S) → IsKept rules cut d → IsQuiet rules d → AllRight rules d) (out : List ℕ) (seats : Seats) (document : Option (Held S)) (played : IsPlayed rules cut out seats document)
      → IsQuietNow rules document → ArePainted rules document (flat_map given_of played.pieces)
  painted_now some quiet out seats None played still = tt
  painted_now some quiet out seats (Some held) played still = painted some out seats held played (quiet held.document (run_kept some (flat_map given_of played.pieces) held played.run) still)

  -- each save that it tells done is earned
  abbrev pub Earns : Type 0
  Earns = (out : List ℕ) (seats : Seats) (held : Held S) (played : IsPlayed rules cut out seats (Some held)) → AllByRecursion (IsEarned rules cut played.run.file played.run.events) (flat_map given_of played.pieces)

  all_earned : Earns → (out : List ℕ) (seats : Seats) (document : Option (Held S)) (played : IsPlayed rules cut out seats document) → AreEarned rules cut (flat_map given_of played.pieces) document played.run
  all_earned earns out seats None played = tt
  all_earned earns out seats (Some held) played = earns out seats held played

  pub transcript_right : (some : (base : List ℕ) → 0 < parts_of rules base) (quiet : (d : Document S) → IsKept rules cut d → IsQuiet rules d → AllRight rules d) → Earns
      → (out : List ℕ) (seats : Seats) (document : Option (Held S)) → IsPlayed rules cut out seats document → IsTranscript rules cut out seats document
  transcript_right some quiet earns out seats document played = record {
    played = played;
    tiles = transcript_shows some out seats document played;
    saves = all_earned earns out seats document played;
    painted = painted_now some quiet out seats document played;
  }
