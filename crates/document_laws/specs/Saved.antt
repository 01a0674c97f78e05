-- What stands behind a save that a view is told is done.
use Rattle.std.specs.Prelude.{◌≡◌, ⊤, ◌⊎◌, ℕ, ◌≤◌, Bool, true, false, nat_eq, List, [], ◌∷◌, ◌++◌, length, slice_get, Some, Ok}
use Rattle.std.specs.List.{list_any, AllByRecursion}
use Rattle.cool_base.specs.declared.ids.ViewId.{ViewId}
use Rattle.cool_frame.specs.declared.frame.Frame.{Frame}
use Rattle.cool_frame.specs.declared.frame.Frame.TheVariants.{SaveDone}
use Rattle.kit_trait.specs.Rules.{Rules}
use Rattle.outside.specs.declared.errands.Receipt.{Receipt}
use Rattle.save_core.specs.Saving.{last_stored}
use Rattle.save_core.specs.declared.values.Save.{Save}
use Rattle.tile_key.specs.Places.{Place}
use Rattle.document_machine.specs.Event.{Event, Said, Turned, PutAnswered}
use Rattle.document_machine.specs.Message.{effect}
use Rattle.document_machine.specs.Run.{Segment}
use Rattle.document_machine.specs.Saves.{text_at}
use Rattle.document_machine.specs.State.{View, Document, find_view}
use Rattle.document_machine.specs.Step.{Step}
use Rattle.document_machine.specs.declared.outs.Outs.{Outs}

-- a receipt came: it is for the document's file and for its content after so many inputs, which are
-- stored now
pub record IsPut {C B S : Type 0} (rules : Rules C B) (old : Document S) (event : Event S)
    (new : Document S) (number : ℕ) : Type 0 where
  pub ticket : ℕ
  pub receipt : Receipt
  pub event_is : event ≡ PutAnswered ticket (Ok receipt)
  pub file_is : receipt.file ≡ old.file
  pub content_is : receipt.content ≡ text_at rules old number
  pub stored_is : new.saving.stored ≡ old.saving.stored ++ number ∷ []

-- a turn found nothing new: the content that was stored last holds all inputs that are applied
pub record IsUnmodified {S : Type 0} (old : Document S) (event : Event S) (number : ℕ)
    : Type 0 where
  pub event_is : event ≡ Turned
  pub applied : number ≡ old.applied
  pub last : last_stored old.saving ≡ number

-- why the frame of a save came: its put was stored, or it needs no put where nothing is new
abbrev pub IsSavedBy : {C B S : Type 0} → Rules C B → Document S → Event S → Document S → ℕ
    → Save → (put : Bool) → Type 0
IsSavedBy rules old event new number save true =
    (save.bound ≡ true) × IsPut rules old event new number
IsSavedBy rules old event new number save false =
    (save.skip ≡ true) × IsUnmodified old event number

-- a view is told that its save is done with so many inputs: a save of it waited, with no more
-- inputs accepted before it than so many; that many are applied, and a content of that many is
-- stored
pub record IsSaved {C B S : Type 0} (rules : Rules C B) (old : Document S) (event : Event S)
    (new : Document S) (view : ViewId) (number : ℕ) (put : Bool) : Type 0 where
  pub save : Save
  pub place : ℕ
  pub waited : slice_get old.saving.saves place ≡ Some save
  pub of_view : save.view ≡ Some view
  pub mark : save.mark ≤ number
  pub past : number ≤ old.applied
  pub stored : list_any (nat_eq number) new.saving.stored ≡ true
  pub by : IsSavedBy rules old event new number save put

-- a frame that tells a view that its save is done is true
abbrev pub IsTrue : {C B S : Type 0} → Rules C B → Document S → Event S → Document S
    → ViewId × Frame → Type 0
IsTrue rules old event new (view, SaveDone number put) = IsSaved rules old event new view number put
IsTrue rules old event new _ = ⊤

-- in a run the view said a save, where as many inputs were accepted as the mark says
pub record WasSaid {C B S : Type 0} (rules : Rules C B) (cut : C → Place → S) (old : Document S)
    (events : List (Event S)) (new : Document S) (view : ViewId) (mark : ℕ) (skip : Bool)
    : Type 0 where
  pub before : List (Event S)
  pub text : List ℕ
  pub behind : List (Event S)
  pub split : events ≡ before ++ Said view.0 text ∷ behind
  pub first : Outs S
  pub outs : Outs S
  pub last : Outs S
  pub mid : Document S
  pub late : Document S
  pub reached : Segment rules cut old before first mid
  pub step : Step rules cut mid (Said view.0 text) outs late
  pub rest : Segment rules cut late behind last new
  pub speaker : View
  pub live : find_view mid.views view.0 ≡ Some speaker
  pub asks : (effect rules mid speaker text).save ≡ Some skip
  pub accepted : length mid.journal ≡ mark

-- a save of a view was said by it in the run
abbrev pub IsOfRun : {C B S : Type 0} → Rules C B → (C → Place → S)
    → Document S → List (Event S) → Document S → Save → Type 0
IsOfRun rules cut old events new save =
    (view : ViewId) → save.view ≡ Some view
    → WasSaid rules cut old events new view save.mark save.skip

-- among the events is the receipt of a put of this content in this file
pub record WasPut {S : Type 0} (events : List (Event S)) (file content : List ℕ) : Type 0 where
  pub before : List (Event S)
  pub ticket : ℕ
  pub receipt : Receipt
  pub behind : List (Event S)
  pub split : events ≡ before ++ PutAnswered ticket (Ok receipt) ∷ behind
  pub file_is : receipt.file ≡ file
  pub content_is : receipt.content ≡ content

-- a content of so many inputs was stored by then: the loaded file, or one that was put
abbrev pub IsStoredBy : {C B S : Type 0} → Rules C B → List (Event S) → Document S → ℕ → Type 0
IsStoredBy rules events d number =
    (number ≡ 0) ⊎ WasPut events d.file (text_at rules d number)

-- a view that is told in a step behind a run that its save is done said one in the run, with no
-- more inputs accepted before it than the number says, and a content of that many was stored by
-- then
abbrev pub FollowsItsSave : {C B S : Type 0} → Rules C B → (C → Place → S)
    → Document S → List (Event S) → Document S → Event S → ViewId × Frame → Type 0
FollowsItsSave rules cut old events d event (view, SaveDone number put) =
    (mark : ℕ) × (skip : Bool) × (mark ≤ number) × WasSaid rules cut old events d view mark skip
    × IsStoredBy rules (events ++ event ∷ []) d number
FollowsItsSave rules cut old events d event _ = ⊤

-- what is stored once a run led here from a loaded document: the loaded file first, and then
-- contents of the document after so many inputs, all applied, each put by a receipt of the run
pub record ArePut {C B S : Type 0} (rules : Rules C B) (events : List (Event S)) (d : Document S)
    : Type 0 where
  pub later : List ℕ
  pub stored_are : d.saving.stored ≡ 0 ∷ later
  pub past : AllByRecursion (λ number. number ≤ d.applied) later
  pub put : AllByRecursion (λ number. WasPut events d.file (text_at rules d number)) later
