-- The saves that a transcript tells are done.
use Rattle.std.specs.Prelude.{ℕ, ◌≡◌, ⊤, List, [], ◌∷◌, ◌++◌, Option, None, Some}
use Rattle.std.specs.List.{AllByRecursion}
use Rattle.cool_base.specs.declared.ids.ViewId.{ViewId}
use Rattle.cool_frame.specs.declared.frame.Frame.{Frame}
use Rattle.document_laws.specs.Saved.{FollowsItsSave}
use Rattle.document_machine.specs.Event.{Event}
use Rattle.document_machine.specs.Held.{Held}
use Rattle.document_machine.specs.Run.{Segment}
use Rattle.document_machine.specs.State.{Document, opening}
use Rattle.document_machine.specs.declared.outs.Outs.{Outs}
use Rattle.kit_trait.specs.Rules.{Rules}
use Rattle.tile_key.specs.Places.{Place}
use Rattle.script_laws.specs.Played.{IsRunTo}

-- A frame of a run from a loaded document, at the event that gave it. If it tells a view that its save is done, the view
-- said one up to there, where no more inputs were accepted than the frame's number says, and by then a content of that
-- many inputs was stored: the loaded file, or one that a receipt came for.
pub record IsEarned {C B S : Type 0} (rules : Rules C B) (cut : C → Place → S) (file : List ℕ) (events : List (Event S)) (given : ViewId × Frame) : Type 0 where
  pub before : List (Event S)
  pub event : Event S
  pub after : List (Event S)
  pub split : events ≡ before ++ event ∷ after
  pub outs : Outs S
  pub d : Document S
  pub reached : Segment rules cut (opening file []) before outs d
  pub follows : FollowsItsSave rules cut (opening file []) before d event given

-- the same of each frame of a run, if there is a document
abbrev pub AreEarned : {C B S : Type 0} → (rules : Rules C B) → (cut : C → Place → S) → (frames : List (ViewId × Frame)) → (document : Option (Held S)) → IsRunTo rules cut frames document → Type 0
AreEarned rules cut frames None run = ⊤
AreEarned rules cut frames (Some held) run = AllByRecursion (IsEarned rules cut run.file run.events) frames
