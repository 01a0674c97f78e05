-- In a run each save that waits was said by its view.
use Rattle.std.proofs.Common.{◌≡◌, ◌-◌, ℕ, zero, suc, unwrap_or, slice_get, inl, inr, ◌<◌, Bool, true, false, not, ◌&&◌, cond, List, [], ◌∷◌, ◌++◌, length, map, filter, Option, None, Some, is_some, refl, ap, sym, subst, ◌∙◌, append_assoc, append-nil}
use Rattle.std.specs.Prelude.{nat_lt}
use Rattle.std.specs.List.{AllByRecursion}
use Rattle.cool_base.specs.declared.ids.ViewId.{ViewId}
use Rattle.cool_frame.specs.declared.frame.Frame.{Frame}
use Rattle.cool_frame.specs.declared.frame.Frame.TheVariants.{Status, Invalidate, Server, Error, SaveDone, Tile}
use Rattle.kit_trait.specs.Rules.{Rules}
use Rattle.outside.specs.declared.errands.Errand.{Errand}
use Rattle.save_core.specs.Saving.{Saving, answered_put, begun, bound_to, ended, errand_for, final_waits, final_with, is_unmodified, last_stored, left_over}
use Rattle.save_core.specs.declared.values.Put.{Put}
use Rattle.save_core.specs.declared.values.Save.{Save}
use Rattle.tile_key.specs.Places.{Place}
use Rattle.document_machine.proofs.Lists.{all_filter, all_push}
use Rattle.document_machine.proofs.Runs.{segments}
use Rattle.document_machine.specs.Due.{parts_of}
use Rattle.document_machine.specs.Event.{Event, Joined, Left, Said, Turned, Painted, PutAnswered}
use Rattle.document_machine.specs.Kept.{IsKept}
use Rattle.document_machine.specs.Message.{Effect, effect, saving_after, with_save, with_token}
use Rattle.document_machine.specs.Outputs.{named, nothing, joined}
use Rattle.document_machine.specs.Run.{Segment}
use Rattle.document_machine.specs.Saves.{is_last_view, needs_final_save, receipt_of, saving_left, text_at}
use Rattle.document_machine.specs.State.{View, Job, Document, find_job, find_view, opening}
use Rattle.document_machine.specs.Step.{JoinsWhere, Works, TurnsTo, Paints, Step}
use Rattle.document_machine.specs.declared.limits.TheConstants.{MOST_VIEWS}
use Rattle.document_machine.specs.declared.outs.Outs.{Outs}
use Rattle.document_machine.specs.declared.outs.Turned.{Turned as TurnAnswer}
use Rattle.document_machine.specs.declared.outs.Turned.TheVariants.{Worked, Idle}
use Rattle.document_machine.specs.declared.rights.Rights.{Rights}
use Rattle.document_laws.specs.Saved.{ArePut, FollowsItsSave, IsOfRun, IsSavedBy, IsStoredBy, IsTrue, WasPut, WasSaid}
use Rattle.document_laws.proofs.Kept.{opening_keeps, runs_keep}
use Rattle.document_laws.proofs.Ordered.{weaker}
use Rattle.document_laws.proofs.PutContents.{contents_were_put, put_more}
use Rattle.document_laws.proofs.Saved.{all_get, steps_true}
use Rattle.document_laws.proofs.Saving.{token_saves}

-- P holds of all saves
abbrev OfSaves : (Save → Type 0) → Saving → Type 0
OfSaves P s = AllByRecursion P s.saves

-- what holds of the saves that there were, and of a final one, holds once they are served or
-- answered
module _ (P : Save → Type 0)
    (bind : (applied : ℕ) (save : Save) → P save → P (bound_to applied save)) where
  left_all : (applied last : ℕ) (saves : List Save) → AllByRecursion P saves
      → AllByRecursion P (left_over applied last saves)
  left_all applied last [] all = tt
  left_all applied last (save ∷ saves) all =
      let rest = left_all applied last saves all.1 in
      let go : (b : Bool)
      → AllByRecursion P
      (map (bound_to applied)
      (cond b (save ∷ filter (λ (s : Save). not (is_unmodified applied last s)) saves)
      (filter (λ (s : Save). not (is_unmodified applied last s)) saves))) = elim [
        | true ↦ (bind applied save all.0, rest)
        | false ↦ rest
      ] in
      go (not (is_unmodified applied last save))

  begun_all : (o : Option Errand) (s : Saving) → OfSaves P s → OfSaves P (begun o s)
  begun_all None s all = all
  begun_all (Some errand) s all = all

  ended_all : (o : Option Put) (stored : Bool) (s : Saving) → OfSaves P s
      → OfSaves P (ended o stored s)
  ended_all None stored s all = all
  ended_all (Some put) stored s all = all_filter P (λ save. not save.bound) s.saves all

  final_all : (mark : ℕ) (o : Option (List ℕ)) (s : Saving)
      → ((token : List ℕ)
      → P (record { view = None; mark = mark; skip = false; token = token; bound = false }))
      → OfSaves P s → OfSaves P (final_with mark o s)
  final_all mark None s last all = all
  final_all mark (Some token) s last all =
      all_push P s.saves
      (record { view = None; mark = mark; skip = false; token = token; bound = false }) all
      (last token)

  said_all : (o : Option Bool) (id mark : ℕ) (token : List ℕ) (s : Saving)
      → ((skip : Bool) → o ≡ Some skip
      → P (record
      { view = Some (named id); mark = mark; skip = skip; token = token; bound = false }))
      → OfSaves P s → OfSaves P (with_save o id mark token s)
  said_all None id mark token s last all = all
  said_all (Some skip) id mark token s last all =
      all_push P s.saves
      (record { view = Some (named id); mark = mark; skip = skip; token = token; bound = false })
      all (last skip refl)

module _ {C B S : Type 0} (rules : Rules C B) (cut : C → Place → S) where
  -- what a step makes of the saves
  module _ (P : Save → Type 0)
      (bind : (applied : ℕ) (save : Save) → P save → P (bound_to applied save)) where
    stay : (old new : Document S) → new.saving ≡ old.saving → OfSaves P old.saving
        → OfSaves P new.saving
    stay old new same all = subst (OfSaves P) (sym same) all

    works_saves : (old new : Document S) (outs : Outs S) → Works rules cut old outs new
        → OfSaves P old.saving → OfSaves P new.saving
    works_saves old new outs works all =
        elim works [
          | inl serves ↦ subst (λ (d : Document S). OfSaves P d.saving) (sym serves.new_is)
              (begun_all P bind
              (errand_for old.applied old.file (text_at rules old old.applied) old.saving)
              (record old.saving
              { saves = left_over old.applied (last_stored old.saving) old.saving.saves })
              (left_all P bind old.applied (last_stored old.saving) old.saving.saves all))
          | inr later ↦ elim later [
            | inl applies ↦ stay old new (ap (λ (d : Document S). d.saving) applies.new_is) all
            | inr other ↦ elim other [
              | inl sends ↦ stay old new (ap (λ (d : Document S). d.saving) sends.new_is) all
              | inr cuts ↦ stay old new (ap (λ (d : Document S). d.saving) cuts.new_is) all
            ]
          ]
        ]

    turn_saves : (old new : Document S) (turned : TurnAnswer S) → TurnsTo rules cut old turned new
        → OfSaves P old.saving → OfSaves P new.saving
    turn_saves old new (Worked outs) turn all = works_saves old new outs turn all
    turn_saves old new Idle turn all = stay old new (ap (λ (d : Document S). d.saving) turn.1) all

    join_saves : (old new : Document S) (rights : Rights) (outs : Outs S) (b : Bool)
        → JoinsWhere b rules old rights outs new → OfSaves P old.saving → OfSaves P new.saving
    join_saves old new rights outs true joins all =
        stay old new (ap (λ (d : Document S). d.saving) joins.1) all
    join_saves old new rights outs false joins all =
        stay old new (ap (λ (d : Document S). d.saving) joins.1) all

    paints_saves : (old new : Document S) (ticket : ℕ) (scene : S) (outs : Outs S)
        (job : Option (Job S)) → Paints rules old ticket scene outs new job → OfSaves P old.saving
        → OfSaves P new.saving
    paints_saves old new ticket scene outs None paint all =
        stay old new (ap (λ (d : Document S). d.saving) paint.1) all
    paints_saves old new ticket scene outs (Some job) paint all =
        elim paint [
          | inl other ↦ stay old new (ap (λ (d : Document S). d.saving) other.2) all
          | inr taken ↦ stay old new (ap (λ (d : Document S). d.saving) taken.2) all
        ]

    left_saves : (old : Document S) (id : ℕ)
        → ((token : List ℕ)
        → P (record
        { view = None; mark = length old.journal; skip = false; token = token; bound = false }))
        → OfSaves P old.saving → OfSaves P (saving_left old id)
    left_saves old id last all =
        elim (is_last_view old.views id && needs_final_save old) as
        (λ b. OfSaves P (cond b (final_waits (length old.journal) old.saving) old.saving)) [
          | true ↦ final_all P bind (length old.journal) old.saving.last_token old.saving last all
          | false ↦ all
        ]

    said_saves : (old : Document S) (id : ℕ) (e : Effect)
        → ((skip : Bool) (token : List ℕ) → e.save ≡ Some skip
        → P (record {
          view = Some (named id);
          mark = length old.journal;
          skip = skip;
          token = token;
          bound =
              false;
        }))
        → OfSaves P old.saving → OfSaves P (saving_after id (length old.journal) e old.saving)
    said_saves old id e last all =
        let token : List ℕ = e.view.rights.token in
        said_all P bind e.save id (length old.journal) token (with_token e.inputs token old.saving)
        (λ skip is. last skip token is)
        (subst (AllByRecursion P) (sym (token_saves e.inputs token old.saving)) all)

  -- a run of one step
  one_step : (old new : Document S) (event : Event S) (outs : Outs S)
      → Step rules cut old event outs new
      → Segment rules cut old (event ∷ []) (joined outs nothing) new
  one_step old new event outs step = (new, outs, nothing, step, (refl, refl), refl)

  module _ (first : Document S) where
    -- what was said in a run was said in a longer one
    was_more : (before : List (Event S)) (old new : Document S) (event : Event S) (outs : Outs S)
        (view : ViewId) (mark : ℕ) (skip : Bool) → Step rules cut old event outs new
        → WasSaid rules cut first before old view mark skip
        → WasSaid rules cut first (before ++ event ∷ []) new view mark skip
    was_more before old new event outs view mark skip step was = record {
      before = was.before;
      text = was.text;
      behind = was.behind ++ event ∷ [];
      split = ap (λ es. es ++ event ∷ []) was.split
          ∙ append_assoc was.before (Said view.0 was.text ∷ was.behind) (event ∷ []);
      first = was.first;
      outs = was.outs;
      last = joined was.last (joined outs nothing);
      mid = was.mid;
      late = was.late;
      reached = was.reached;
      step = was.step;
      rest = segments rules cut was.late was.behind (event ∷ []) was.last
          (joined outs nothing) old new was.rest (one_step old new event outs step);
      speaker = was.speaker;
      live = was.live;
      asks = was.asks;
      accepted = was.accepted;
    }

    all_more : (before : List (Event S)) (old new : Document S) (event : Event S) (outs : Outs S)
        → Step rules cut old event outs new
        → AllByRecursion (IsOfRun rules cut first before old) old.saving.saves
        → AllByRecursion (IsOfRun rules cut first (before ++ event ∷ []) new) old.saving.saves
    all_more before old new event outs step all =
        weaker (IsOfRun rules cut first before old)
        (IsOfRun rules cut first (before ++ event ∷ []) new) old.saving.saves
        (λ save is view of_view. was_more before old new event outs view save.mark save.skip step
        (is view of_view)) all

    -- a save that a view says in the step
    said_now : (before : List (Event S)) (given : Outs S) (old new : Document S) (id : ℕ)
        (text : List ℕ) (outs : Outs S) (speaker : View) (skip : Bool)
        → Segment rules cut first before given old
        → Step rules cut old (Said id text) outs new → find_view old.views id ≡ Some speaker
        → (effect rules old speaker text).save ≡ Some skip
        → WasSaid rules cut first (before ++ Said id text ∷ []) new (named id)
        (length old.journal) skip
    said_now before given old new id text outs speaker skip run step live asks = record {
      before = before;
      text = text;
      behind = [];
      split = refl;
      first = given;
      outs = outs;
      last = nothing;
      mid = old;
      late = new;
      reached = run;
      step = step;
      rest = (refl, refl);
      speaker = speaker;
      live = live;
      asks = asks;
      accepted = refl;
    }

    -- a step
    step_said : (before : List (Event S)) (given : Outs S) (old new : Document S) (event : Event S)
        (outs : Outs S) → Segment rules cut first before given old
        → Step rules cut old event outs new
        → AllByRecursion (IsOfRun rules cut first before old) old.saving.saves
        → AllByRecursion (IsOfRun rules cut first (before ++ event ∷ []) new) new.saving.saves
    step_said before given old new (Joined rights) outs run step all =
        join_saves (IsOfRun rules cut first (before ++ Joined rights ∷ []) new)
        (λ applied save is. is) old new rights outs (nat_lt (length old.views) MOST_VIEWS) step
        (all_more before old new (Joined rights) outs step all)
    step_said before given old new (Left id) outs run step all =
        subst (λ (d : Document S). OfSaves
        (IsOfRun rules cut first (before ++ Left id ∷ []) new) d.saving) (sym step.1)
        (left_saves (IsOfRun rules cut first (before ++ Left id ∷ []) new)
        (λ applied save is. is) old id (λ token view none. absurd (cc))
        (all_more before old new (Left id) outs step all))
    step_said before given old new (Said id text) outs run step all =
        let e : Effect = effect rules old step.view text in
        subst (λ (d : Document S). OfSaves
        (IsOfRun rules cut first (before ++ Said id text ∷ []) new) d.saving) (sym step.new_is)
        (said_saves (IsOfRun rules cut first (before ++ Said id text ∷ []) new)
        (λ applied save is. is) old id e
        (λ skip token asks view of_view.
        let same : named id ≡ view = cc in
        subst (λ v. WasSaid rules cut first (before ++ Said id text ∷ []) new v
        (length old.journal) skip) same
        (said_now before given old new id text outs step.view skip run step step.live asks))
        (all_more before old new (Said id text) outs step all))
    step_said before given old new Turned outs run step all =
        turn_saves (IsOfRun rules cut first (before ++ Turned ∷ []) new)
        (λ applied save is. is) old new step.0 step.1
        (all_more before old new Turned outs step all)
    step_said before given old new (Painted ticket scene) outs run step all =
        paints_saves (IsOfRun rules cut first (before ++ Painted ticket scene ∷ []) new)
        (λ applied save is. is) old new ticket scene outs (find_job old.jobs ticket) step
        (all_more before old new (Painted ticket scene) outs step all)
    step_said before given old new (PutAnswered ticket result) outs run step all =
        subst (λ (d : Document S). OfSaves
        (IsOfRun rules cut first (before ++ PutAnswered ticket result ∷ []) new) d.saving)
        (sym step.1)
        (ended_all (IsOfRun rules cut first (before ++ PutAnswered ticket result ∷ []) new)
        (λ applied save is. is) (answered_put ticket (receipt_of result) old.saving.put)
        (is_some (receipt_of result)) old.saving
        (all_more before old new (PutAnswered ticket result) outs step all))

    -- a run that goes on
    run_said : (events before : List (Event S)) (given outs : Outs S) (old new : Document S)
        → Segment rules cut first before given old → Segment rules cut old events outs new
        → AllByRecursion (IsOfRun rules cut first before old) old.saving.saves
        → AllByRecursion (IsOfRun rules cut first (before ++ events) new) new.saving.saves
    run_said [] before given outs old new run rest all =
        subst (λ es. AllByRecursion (IsOfRun rules cut first es new) new.saving.saves)
        (sym (append-nil before))
        (subst (λ (d : Document S). AllByRecursion
        (IsOfRun rules cut first before d) d.saving.saves) (sym rest.1) all)
    run_said (event ∷ events) before given outs old new run rest all =
        let mid : Document S = rest.0 in
        let longer : Segment rules cut first (before ++ event ∷ [])
        (joined given (joined rest.1 nothing)) mid =
        segments rules cut first before (event ∷ []) given (joined rest.1 nothing) old mid run
        (one_step old mid event rest.1 rest.3) in
        subst (λ es. AllByRecursion (IsOfRun rules cut first es new) new.saving.saves)
        (append_assoc before (event ∷ []) events)
        (run_said events (before ++ event ∷ [])
        (joined given (joined rest.1 nothing)) rest.2 mid new longer rest.4
        (step_said before given old mid event rest.1 run rest.3 all))

  -- in a run from a loaded document each save that waits was said by its view
  pub waiting_were_said : (file base : List ℕ) (events : List (Event S)) (outs : Outs S)
      (d : Document S) → Segment rules cut (opening file base) events outs d
      → AllByRecursion (IsOfRun rules cut (opening file base) events d) d.saving.saves
  waiting_were_said file base events outs d run =
      run_said (opening file base) events [] nothing outs (opening file base) d (refl, refl) run tt

  -- a content of as many inputs as were stored last was stored by then
  stored_last : (events : List (Event S)) (event : Event S) (d : Document S) (stored : List ℕ)
      (place : ℕ) → AllByRecursion (λ n. WasPut events d.file (text_at rules d n)) stored
      → IsStoredBy rules (events ++ event ∷ []) d (unwrap_or (slice_get stored place) 0)
  stored_last events event d [] place all = inl refl
  stored_last events event d (n ∷ ns) zero all =
      inr (put_more events event d.file (text_at rules d n) all.0)
  stored_last events event d (n ∷ ns) (suc place) all = stored_last events event d ns place all.1

  stored_by : (events : List (Event S)) (event : Event S) (d : Document S) (place : ℕ)
      → (put : ArePut rules events d)
      → IsStoredBy rules (events ++ event ∷ []) d (unwrap_or (slice_get (0 ∷ put.later) place) 0)
  stored_by events event d zero put = inl refl
  stored_by events event d (suc place) put = stored_last events event d put.later place put.put

  -- a frame that is true follows the save that it answers
  by_then : (old new : Document S) (events : List (Event S)) (event : Event S)
      → ArePut rules events old → (number : ℕ) (save : Save) (put : Bool)
      → IsSavedBy rules old event new number save put
      → IsStoredBy rules (events ++ event ∷ []) old number
  by_then old new events event stored number save true by = inr (record {
    before = events;
    ticket = by.1.ticket;
    receipt = by.1.receipt;
    behind = [];
    split = ap (λ (e : Event S). events ++ e ∷ []) by.1.event_is;
    file_is = by.1.file_is;
    content_is = by.1.content_is;
  })
  by_then old new events event stored number save false by =
      let numbers : List ℕ = old.saving.stored in
      let at : IsStoredBy rules (events ++ event ∷ []) old
      (unwrap_or (slice_get numbers (length numbers - 1)) 0) =
      subst (λ ns. IsStoredBy rules (events ++ event ∷ []) old
      (unwrap_or (slice_get ns (length ns - 1)) 0)) (sym stored.stored_are)
      (stored_by events event old (length (0 ∷ stored.later) - 1) stored) in
      subst (IsStoredBy rules (events ++ event ∷ []) old) by.1.last at

  follows : (first old new : Document S) (events : List (Event S)) (event : Event S)
      → AllByRecursion (IsOfRun rules cut first events old) old.saving.saves
      → ArePut rules events old
      → (frame : ViewId × Frame) → IsTrue rules old event new frame
      → FollowsItsSave rules cut first events old event frame
  follows first old new events event said stored (view, SaveDone number put) is = (
    is.save.mark,
    is.save.skip,
    is.mark,
    all_get (IsOfRun rules cut first events old) old.saving.saves is.place is.save said is.waited
        view is.of_view,
    by_then old new events event stored number is.save put is.by,
  )
  follows first old new events event said stored (view, Tile key version wid rgba) is = tt
  follows first old new events event said stored (view, Server) is = tt
  follows first old new events event said stored (view, Status kit parts size to readonly) is = tt
  follows first old new events event said stored (view, Invalidate part rect) is = tt
  follows first old new events event said stored (view, Error command kind code) is = tt

  -- so each view that is told that its save is done said one before
  pub done_were_said : ((base : List ℕ) → 0 < parts_of rules base)
      → (file base : List ℕ) (events : List (Event S)) (given : Outs S) (d : Document S)
      (event : Event S) (outs : Outs S) (new : Document S)
      → rules.accepts base ≡ true → Segment rules cut (opening file base) events given d
      → Step rules cut d event outs new
      → AllByRecursion (FollowsItsSave rules cut (opening file base) events d event) outs.frames
  done_were_said some file base events given d event outs new accepted run step =
      let kept : IsKept rules cut d =
      runs_keep rules cut some events (opening file base) d given run
      (opening_keeps rules cut file base accepted) in
      weaker (IsTrue rules d event new)
      (FollowsItsSave rules cut (opening file base) events d event) outs.frames
      (follows (opening file base) d new events event
      (waiting_were_said file base events given d run)
      (contents_were_put rules cut some file base events given d accepted run))
      (steps_true rules cut d new event outs kept step)
