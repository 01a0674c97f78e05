-- What a transcript is at each point, and how it goes on.
use Rattle.std.proofs.Common.{◌≡◌, ◌∙◌, ℕ, List, [], ◌∷◌, ◌++◌, length, Option, None, Some, refl, sym, ap, subst, append-nil}
use Rattle.std.specs.Prelude.{true}
use Rattle.std.specs.List.{flat_map, AllByRecursion}
use Rattle.std.proofs.lemmas.List.Concat.{flat_map-append}
use Rattle.cool_base.specs.declared.ids.ViewId.{ViewId}
use Rattle.cool_frame.specs.declared.frame.Frame.{Frame}
use Rattle.document_machine.specs.Event.{Event}
use Rattle.document_machine.specs.Outputs.{nothing, joined}
use Rattle.document_machine.specs.Goes.{Moves}
use Rattle.document_machine.specs.Held.{Held, opening_held}
use Rattle.document_machine.specs.Run.{Run}
use Rattle.document_machine.specs.declared.outs.Outs.{Outs}
use Rattle.document_machine.proofs.Runs.{runs}
use Rattle.kit_trait.specs.Rules.{Rules}
use Rattle.tile_key.specs.Places.{Place}
use Rattle.script_world.specs.House.{House}
use Rattle.script_world.specs.Seats.{Seats, nobody, tells, records}
use Rattle.script_world.proofs.Ids.{HasLink}
use Rattle.script_laws.specs.Played.{Piece, Lobby, Given, bytes_of, given_of, IsAnswer, IsSent, IsRun, IsRunTo, AreSeated, IsPlayed}
use Rattle.script_laws.proofs.Views.{all_join, AllTo}
use Rattle.script_laws.proofs.Links.{slice_more, AsPieces, as_pieces}

-- a record goes to the same link when more views are behind
sent_more : (links more : List ℕ) (piece : Piece) → IsSent links piece → IsSent (links ++ more) piece
sent_more links more (Lobby link answer) is = is
sent_more links more (Given link view frame) is = slice_more links more view.0 link is

all_sent_more : (links more : List ℕ) (pieces : List Piece) → AllByRecursion (IsSent links) pieces → AllByRecursion (IsSent (links ++ more)) pieces
all_sent_more links more [] all = tt
all_sent_more links more (piece ∷ pieces) all = (sent_more links more piece all.0, all_sent_more links more pieces all.1)

-- records behind records
written_more : (out here : List ℕ) (pieces more : List Piece) → out ≡ flat_map bytes_of pieces → here ≡ flat_map bytes_of more → out ++ here ≡ flat_map bytes_of (pieces ++ more)
written_more out here pieces more a b = ap (λ (x : List ℕ). x ++ here) a ∙ ap (λ (x : List ℕ). flat_map bytes_of pieces ++ x) b ∙ sym (flat_map-append bytes_of pieces more)

module _ {C B S : Type 0} (rules : Rules C B) (cut : C → Place → S) where
  -- the transcript so far, to a document with these seats
  abbrev pub IsHeld : List ℕ → Seats → Option (Held S) → Type 0
  IsHeld out seats document = IsPlayed rules cut out seats document

  abbrev pub Holds : List ℕ → House S → Type 0
  Holds out house = IsHeld out house.seats house.document

  pub nothing_yet : IsHeld [] nobody None
  nothing_yet = record { pieces = []; links = []; written = refl; each = tt; seated = tt; begun = refl; run = refl }

  -- nothing is written
  pub silent : (out : List ℕ) (seats : Seats) (document : Option (Held S)) → IsHeld out seats document → IsHeld (out ++ []) seats document
  silent out seats document held = subst (λ (o : List ℕ). IsHeld o seats document) (sym (append-nil out)) held

  -- other seats
  pub reseated : (out : List ℕ) (seats now : Seats) (document : Option (Held S)) (held : IsHeld out seats document) → AreSeated held.links now.views → IsHeld out now document
  reseated out seats now document held seated = record {
    pieces = held.pieces;
    links = held.links;
    written = held.written;
    each = held.each;
    seated = seated;
    begun = held.begun;
    run = held.run;
  }

  -- an answer in the lobby
  pub told : (out : List ℕ) (seats : Seats) (document : Option (Held S)) (link : ℕ) (answer : Frame) → IsAnswer answer → IsHeld out seats document → IsHeld (out ++ tells link answer) seats document
  told out seats document link answer is held =
      let given : flat_map given_of (held.pieces ++ Lobby link answer ∷ []) ≡ flat_map given_of held.pieces = flat_map-append given_of held.pieces (Lobby link answer ∷ []) ∙ append-nil (flat_map given_of held.pieces) in
      record {
        pieces = held.pieces ++ Lobby link answer ∷ [];
        links = held.links;
        written = written_more out (tells link answer) held.pieces (Lobby link answer ∷ []) held.written (sym (append-nil (tells link answer)));
        each = all_join (IsSent held.links) held.pieces (Lobby link answer ∷ []) held.each (is, tt);
        seated = held.seated;
        begun = held.begun;
        run = subst (λ (frames : List (ViewId × Frame)). IsRunTo rules cut frames document) (sym given) held.run;
      }

  -- the document is loaded
  pub loaded : (out : List ℕ) (seats : Seats) (file : List ℕ) → rules.accepts [] ≡ true → IsHeld out seats None → IsHeld out seats (Some (opening_held file []))
  loaded out seats file accepted held = record {
    pieces = held.pieces;
    links = held.links;
    written = held.written;
    each = held.each;
    seated = held.seated;
    begun = held.begun;
    run = record { file = file; events = []; outs = nothing; accepted = accepted; follows = (refl, refl); frames_are = held.run };
  }

  -- a run goes on
  run_on : (frames more : List (ViewId × Frame)) (d e : Held S) (events : List (Event S)) (outs : Outs S) → IsRun rules cut frames d → Run (Moves rules cut) d events outs e → more ≡ outs.frames → IsRun rules cut (frames ++ more) e
  run_on frames more d e events outs run goes is = record {
    file = run.file;
    events = run.events ++ events;
    outs = joined run.outs outs;
    accepted = run.accepted;
    follows = runs (Moves rules cut) (opening_held run.file []) run.events events run.outs outs d e run.follows goes;
    frames_are = ap (λ (x : List (ViewId × Frame)). x ++ more) run.frames_are ∙ ap (λ (x : List (ViewId × Frame)). run.outs.frames ++ x) is;
  }

  -- The document goes on, and its frames are written. The links of the views that joined are behind the others.
  pub gave : (out : List ℕ) (seats now : Seats) (d e : Held S) (events : List (Event S)) (outs : Outs S) (more : List ℕ) (held : IsHeld out seats (Some d))
      → Run (Moves rules cut) d events outs e → AllTo (HasLink now.views) outs.frames → AreSeated (held.links ++ more) now.views → length (held.links ++ more) ≡ e.document.next_view
      → IsHeld (out ++ records now outs.frames) now (Some e)
  gave out seats now d e events outs more held goes to seated begun =
      let here : AsPieces (held.links ++ more) (records now outs.frames) outs.frames = as_pieces (held.links ++ more) now outs.frames seated to in
      let frames : flat_map given_of (held.pieces ++ here.pieces) ≡ flat_map given_of held.pieces ++ flat_map given_of here.pieces = flat_map-append given_of held.pieces here.pieces in
      let run : IsRun rules cut (flat_map given_of held.pieces ++ flat_map given_of here.pieces) e = run_on (flat_map given_of held.pieces) (flat_map given_of here.pieces) d e events outs held.run goes here.given in
      record {
        pieces = held.pieces ++ here.pieces;
        links = held.links ++ more;
        written = written_more out (records now outs.frames) held.pieces here.pieces held.written (sym here.written);
        each = all_join (IsSent (held.links ++ more)) held.pieces here.pieces (all_sent_more held.links more held.pieces held.each) here.each;
        seated = seated;
        begun = begun;
        run = subst (λ (x : List (ViewId × Frame)). IsRun rules cut x e) (sym frames) run;
      }

  -- the same where no view joins
  pub gave_on : (out : List ℕ) (seats : Seats) (d e : Held S) (events : List (Event S)) (outs : Outs S) → IsHeld out seats (Some d)
      → Run (Moves rules cut) d events outs e → AllTo (HasLink seats.views) outs.frames → e.document.next_view ≡ d.document.next_view
      → IsHeld (out ++ records seats outs.frames) seats (Some e)
  gave_on out seats d e events outs held goes to same =
      let links : held.links ++ [] ≡ held.links = append-nil held.links in
      gave out seats seats d e events outs [] held goes to
      (subst (λ (x : List ℕ). AreSeated x seats.views) (sym links) held.seated)
      (ap length links ∙ held.begun ∙ sym same)
