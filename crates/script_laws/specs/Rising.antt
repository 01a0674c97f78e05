-- Two tiles of one transcript, one behind the other.
use Rattle.std.specs.Prelude.{ℕ, ◌≡◌, ◌≤◌, List, [], ◌++◌}
use Rattle.std.specs.List.{AllByRecursion}
use Rattle.cool_base.specs.declared.ids.ViewId.{ViewId}
use Rattle.cool_frame.specs.declared.frame.Frame.{Frame}
use Rattle.document_laws.specs.Tiles.{versions_to, HasKey, StepsWith}
use Rattle.document_machine.specs.Event.{Event}
use Rattle.document_machine.specs.Run.{Run, Segment}
use Rattle.document_machine.specs.State.{Document, opening}
use Rattle.document_machine.specs.Step.{Step}
use Rattle.document_machine.specs.declared.outs.Outs.{Outs}
use Rattle.kit_trait.specs.Rules.{Rules}
use Rattle.tile_key.specs.Places.{Place}

-- no version of the first is above one of the later
abbrev pub AreNoLower : (first later : List ℕ) → Type 0
AreNoLower first later = AllByRecursion (λ n. AllByRecursion (λ m. n ≤ m) later) first

-- A run from a loaded document, cut at two of its events: what leads up to the first, it, what lies between the two,
-- the last, and what follows. All frames are those of these five, in order. Where the screen of the view has the key
-- behind the first event and behind each between, no tile of the key that the last gives the view has a lower version
-- than one that the first gave it.
pub record Rises {C B S : Type 0} (rules : Rules C B) (cut : C → Place → S) (file : List ℕ) (frames : List (ViewId × Frame)) (d : Document S)
    (id : ℕ) (key : Place) (before : List (Event S)) (first : Event S) (between : List (Event S)) (last : Event S) (after : List (Event S)) : Type 0 where
  pub old : Document S
  pub mid : Document S
  pub late : Document S
  pub new : Document S
  pub up_to : Outs S
  pub at_first : Outs S
  pub on_the_way : Outs S
  pub at_last : Outs S
  pub behind : Outs S
  pub begins : Segment rules cut (opening file []) before up_to old
  pub one : Step rules cut old first at_first mid
  pub goes_on : Segment rules cut mid between on_the_way late
  pub two : Step rules cut late last at_last new
  pub ends : Segment rules cut new after behind d
  pub frames_are : frames ≡ up_to.frames ++ (at_first.frames ++ (on_the_way.frames ++ (at_last.frames ++ behind.frames)))
  pub rises : HasKey id key mid → Run (StepsWith rules cut id key) mid between on_the_way late
      → AreNoLower (versions_to id key at_first.frames) (versions_to id key at_last.frames)
