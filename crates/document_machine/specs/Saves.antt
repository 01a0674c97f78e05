-- What a document's saves are answered, and what is stored of it.
use Rattle.std.specs.Prelude.{◌≡◌, ℕ, Bool, true, false, not, ◌&&◌, nat_eq, List, [], ◌∷◌, length, map, filter, Option, None, Some, Result, Ok, Err, codes, option_to_list, if◌then◌else◌}
use Rattle.std.specs.List.{flat_map}
use Rattle.cool_base.specs.declared.ids.ViewId.{ViewId}
use Rattle.cool_frame.specs.declared.frame.Frame.{Frame}
use Rattle.cool_frame.specs.declared.frame.Frame.TheVariants.{Error, SaveDone}
use Rattle.cool_frame.specs.declared.kind.ErrorKind.TheVariants.{SaveFailed}
use Rattle.kit_trait.specs.Rules.{Rules, doc}
use Rattle.outside.specs.Stores.{code_of}
use Rattle.outside.specs.declared.errands.Receipt.{Receipt}
use Rattle.outside.specs.declared.faults.StoreFault.{StoreFault}
use Rattle.save_core.specs.Saving.{Saving, answered, answers, errand_for, final_waits, has_mark, is_ready, last_stored, served, unmodified}
use Rattle.save_core.specs.declared.values.SaveAnswer.{SaveAnswer}
use Rattle.document_machine.specs.Outputs.{frames_only}
use Rattle.document_machine.specs.State.{View, Document, is_live}
use Rattle.document_machine.specs.declared.outs.Outs.{Outs}

-- the file of the document after the first n inputs
abbrev pub text_at : {C B S : Type 0} → Rules C B → Document S → ℕ → List ℕ
text_at rules d n = rules.text (rules.body (doc rules d.base d.journal n))

-- stored contents with these numbers, each with how many inputs it holds: the first is the loaded file, and
-- each later one the file of the document after so many inputs
abbrev pub contents_of : {C B S : Type 0} → Rules C B → Document S → List ℕ → List (ℕ × List ℕ)
contents_of rules d [] = []
contents_of rules d (first ∷ later) = (first, d.base) ∷ map (λ number. (number, text_at rules d number)) later

-- all contents that were stored of a document, in the order stored
abbrev pub stored_contents : {C B S : Type 0} → Rules C B → Document S → List (ℕ × List ℕ)
stored_contents rules d = contents_of rules d d.saving.stored

-- a save can be answered or put now: a turn does this first
abbrev pub has_ready_save : {S : Type 0} → Document S → Bool
has_ready_save d = is_ready d.applied d.saving

-- those of these views that are still there are answered that nothing was new
abbrev pub unmodified_frames : List View → ℕ → List ViewId → List (ViewId × Frame)
unmodified_frames views number ids =
    map (λ id. (id, SaveDone number false)) (filter (λ (id : ViewId). is_live views id.0) ids)

-- what goes out where the ready saves are served: the answers to those that need no put, and the errand of
-- the put, where one begins
abbrev pub served_outs : {C B S : Type 0} → Rules C B → Document S → Outs S
served_outs rules d =
    record {
      frames = unmodified_frames d.views d.applied (unmodified d.applied d.saving);
      jobs = [];
      errands = option_to_list (errand_for d.applied d.file (text_at rules d d.applied) d.saving);
    }

-- what is known of the saves once the ready ones are served
abbrev pub saving_served : {C B S : Type 0} → Rules C B → Document S → Saving
saving_served rules d = served d.applied d.file (text_at rules d d.applied) d.saving

-- a turn serves the ready saves: those that need no put are answered, and for the others one put begins, of
-- the document as it is now
pub record Serves {C B S : Type 0} (rules : Rules C B) (old : Document S) (outs : Outs S) (new : Document S) : Type 0 where
  pub ready : has_ready_save old ≡ true
  pub outs_are : outs ≡ served_outs rules old
  pub new_is : new ≡ record old { saving = saving_served rules old }

-- the receipt of a store's answer, where it is one
abbrev pub receipt_of : Result Receipt StoreFault → Option Receipt
receipt_of (Ok receipt) = Some receipt
receipt_of (Err fault) = None

-- what a save is told whose put held so many inputs: that it was stored, or the fault's code
abbrev pub ending_frame : Result Receipt StoreFault → ℕ → Frame
ending_frame (Ok receipt) number = SaveDone number true
ending_frame (Err fault) number = Error (codes "storage") SaveFailed (Some (code_of fault))

-- a save's view is told so, where it is still there
abbrev pub told_view : List View → Frame → Option ViewId → List (ViewId × Frame)
told_view views frame None = []
told_view views frame (Some id) = if is_live views id.0 then (id, frame) ∷ [] else []

-- the views of these saves are told how their put ended
abbrev pub ending_frames : List View → Result Receipt StoreFault → List SaveAnswer → List (ViewId × Frame)
ending_frames views result given =
    flat_map (λ (save : SaveAnswer). told_view views (ending_frame result save.number) save.view) given

-- a store's answer is taken where its ticket is the put's and a receipt is for the put's file and content:
-- the put goes, a receipt's number is stored, and each save that the put was for is answered; another
-- answer changes nothing
abbrev pub EndsPut : {S : Type 0} → Document S → ℕ → Result Receipt StoreFault → Outs S → Document S → Type 0
EndsPut old ticket result outs new =
    (outs ≡ frames_only (ending_frames old.views result (answers ticket (receipt_of result) old.saving)))
    × (new ≡ record old { saving = answered ticket (receipt_of result) old.saving })

-- the view with this id is there, and no other
abbrev pub is_last_view : List View → ℕ → Bool
is_last_view views id = is_live views id && nat_eq (length views) 1

-- the content stored last lacks inputs, and no save is there that will store them all
abbrev pub needs_final_save : {S : Type 0} → Document S → Bool
needs_final_save d =
    not (nat_eq (last_stored d.saving) (length d.journal)) && not (has_mark (length d.journal) d.saving)

-- what is known of the saves once a view left: where the last one did, a final save waits if one is needed,
-- with the token of the view that said the last input
abbrev pub saving_left : {S : Type 0} → Document S → ℕ → Saving
saving_left d id =
    if is_last_view d.views id && needs_final_save d then final_waits (length d.journal) d.saving else d.saving
