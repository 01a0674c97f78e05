-- The frames of a step go to views that are there.
use Rattle.std.proofs.Common.{◌≡◌, ℕ, Bool, true, false, cond, List, [], ◌∷◌, ◌++◌, map, filter, Option, None, Some, Result, Ok, inl, inr, nat_eq, refl, sym, ap, subst, arith}
use Rattle.std.specs.Option.{is_some}
use Rattle.std.specs.List.{flat_map, AllByRecursion}
use Rattle.cool_base.specs.declared.ids.ViewId.{ViewId}
use Rattle.cool_frame.specs.declared.frame.Frame.{Frame}
use Rattle.cool_frame.specs.declared.frame.Frame.TheVariants.{Invalidate, SaveDone}
use Rattle.document_machine.specs.Due.{sent, takes, tile_frame}
use Rattle.document_laws.specs.AtOnce.{answered, own_receipt, stored}
use Rattle.document_machine.specs.Event.{Event}
use Rattle.document_machine.specs.Message.{effect}
use Rattle.document_machine.specs.Outputs.{joined, named, nothing}
use Rattle.document_machine.specs.Run.{Segment}
use Rattle.document_machine.specs.Saves.{ending_frame, ending_frames, receipt_of, told_view, unmodified_frames}
use Rattle.document_machine.specs.State.{View, Job, Document, find_view, find_job, is_live}
use Rattle.document_machine.specs.Step.{Works, Paints, Says, told, offered, tile_for, tiles_for}
use Rattle.document_machine.specs.declared.outs.Outs.{Outs}
use Rattle.document_machine.proofs.Runs.{nothing_last}
use Rattle.kit_trait.specs.Rules.{Rules}
use Rattle.kit_trait.specs.declared.jobs.PaintJob.{PaintJob}
use Rattle.kit_trait.specs.declared.values.Damage.{Damage}
use Rattle.outside.specs.declared.errands.Errand.{Errand}
use Rattle.outside.specs.declared.errands.Receipt.{Receipt}
use Rattle.outside.specs.declared.faults.StoreFault.{StoreFault}
use Rattle.save_core.specs.Saving.{answers, unmodified}
use Rattle.save_core.specs.declared.values.SaveAnswer.{SaveAnswer}
use Rattle.script_world.specs.House.{ids_of}
use Rattle.script_world.proofs.Ids.{ids-answers}
use Rattle.tile_key.specs.Places.{Place}

-- what holds of two lists holds of both together
pub all_join : {X : Type 0} (P : X → Type 0) (xs ys : List X) → AllByRecursion P xs → AllByRecursion P ys → AllByRecursion P (xs ++ ys)
all_join P [] ys a b = b
all_join P (x ∷ xs) ys a b = (a.0, all_join P xs ys a.1 b)

-- the fact holds of the view that the frame goes to
abbrev pub To : (ℕ → Type 0) → ViewId × Frame → Type 0
To P given = P given.0.0

abbrev pub AllTo : (ℕ → Type 0) → List (ViewId × Frame) → Type 0
AllTo P frames = AllByRecursion (To P) frames

module _ (P : ℕ → Type 0) where
  one_told : (view : View) (damage : List Damage) → P view.id → AllTo P (map (λ d. (named view.id, Invalidate d.part d.rect)) damage)
  one_told view [] holds = tt
  one_told view (d ∷ ds) holds = (holds, one_told view ds holds)

  all_told : (views : List View) (damage : List Damage) → AllByRecursion P (ids_of views) → AllTo P (told views damage)
  all_told [] damage all = tt
  all_told (view ∷ views) damage all =
      all_join (To P) (map (λ d. (named view.id, Invalidate d.part d.rect)) damage) (told views damage) (one_told view damage all.0) (all_told views damage all.1)

  all_replied : (id : ℕ) (frames : List Frame) → P id → AllTo P (map (λ frame. (named id, frame)) frames)
  all_replied id [] holds = tt
  all_replied id (frame ∷ frames) holds = (holds, all_replied id frames holds)

  -- what holds of all views' ids holds of the id of one that is found
  found_by : (views : List View) (id : ℕ) (view : View) → AllByRecursion P (ids_of views) → find_view views id ≡ Some view → P id
  found_by [] id view all found = absurd (cc)
  found_by (v ∷ vs) id view all found =
      let go : (b : Bool) → nat_eq v.id id ≡ b → cond b (Some v) (find_view vs id) ≡ Some view → P id = elim [
        | true ↦ λ is hit. let same : v.id ≡ id = grind arith in subst P same all.0
        | false ↦ λ is miss. found_by vs id view all.1 miss
      ] in
      go (nat_eq v.id id) refl found

  -- what holds of all views' ids holds of the id of one that is there
  live_by : (views : List View) (id : ℕ) → AllByRecursion P (ids_of views) → is_live views id ≡ true → P id
  live_by views id all live =
      let go : (o : Option View) → find_view views id ≡ o → is_some o ≡ true → P id = elim [
        | None ↦ λ none some. absurd (cc)
        | Some view ↦ λ found some. found_by views id view all found
      ] in
      go (find_view views id) refl live

  -- saves that are answered
  all_unmodified : (views : List View) (number : ℕ) (ids : List ViewId) → AllByRecursion P (ids_of views) → AllTo P (unmodified_frames views number ids)
  all_unmodified views number [] all = tt
  all_unmodified views number (id ∷ ids) all =
      let rest : AllTo P (unmodified_frames views number ids) = all_unmodified views number ids all in
      let kept : List ViewId = filter (λ (other : ViewId). is_live views other.0) ids in
      let go : (b : Bool) → is_live views id.0 ≡ b → AllTo P (map (λ (other : ViewId). (other, SaveDone number false)) (cond b (id ∷ kept) kept)) = elim [
        | true ↦ λ live. (live_by views id.0 all live, rest)
        | false ↦ λ gone. rest
      ] in
      go (is_live views id.0) refl

  told_to : (views : List View) (frame : Frame) (view : Option ViewId) → AllByRecursion P (ids_of views) → AllTo P (told_view views frame view)
  told_to views frame None all = tt
  told_to views frame (Some id) all =
      let go : (b : Bool) → is_live views id.0 ≡ b → AllTo P (cond b ((id, frame) ∷ []) []) = elim [
        | true ↦ λ live. (live_by views id.0 all live, tt)
        | false ↦ λ gone. tt
      ] in
      go (is_live views id.0) refl

  all_ended : (views : List View) (result : Result Receipt StoreFault) (given : List SaveAnswer) → AllByRecursion P (ids_of views) → AllTo P (ending_frames views result given)
  all_ended views result [] all = tt
  all_ended views result (save ∷ given) all =
      all_join (To P) (told_view views (ending_frame result save.number) save.view) (ending_frames views result given)
      (told_to views (ending_frame result save.number) save.view all) (all_ended views result given all)

module _ {C B S : Type 0} (rules : Rules C B) (d : Document S) (P : ℕ → Type 0) where
  -- a tile that is offered leaves a view its id
  offered_to : (number : ℕ) (key : Place) (view : View) → P view.id → P (offered rules d number key view).id
  offered_to number key view holds =
      elim (takes rules d number key view) as (λ b. P (cond b (sent rules d number key view) view).id) [
        | true ↦ holds
        | false ↦ holds
      ]

  all_offered : (number : ℕ) (key : Place) (views : List View) → AllByRecursion P (ids_of views) → AllByRecursion P (ids_of (map (offered rules d number key) views))
  all_offered number key [] all = tt
  all_offered number key (view ∷ views) all = (offered_to number key view all.0, all_offered number key views all.1)

  -- painted tiles
  tile_to : (number : ℕ) (key : Place) (view : View) → P view.id → AllTo P (tile_for rules d number key view)
  tile_to number key view holds =
      elim (takes rules d number key view) as (λ b. AllTo P (cond b (tile_frame rules d number key view ∷ []) [])) [
        | true ↦ (holds, tt)
        | false ↦ tt
      ]

  views_to : (number : ℕ) (key : Place) (views : List View) → AllByRecursion P (ids_of views) → AllTo P (flat_map (tile_for rules d number key) views)
  views_to number key [] all = tt
  views_to number key (view ∷ views) all =
      all_join (To P) (tile_for rules d number key view) (flat_map (tile_for rules d number key) views) (tile_to number key view all.0) (views_to number key views all.1)

  tiles_to : (number : ℕ) (keys : List Place) (views : List View) → AllByRecursion P (ids_of views) → AllTo P (tiles_for rules d number keys views)
  tiles_to number [] views all = tt
  tiles_to number (key ∷ keys) views all =
      all_join (To P) (flat_map (tile_for rules d number key) views) (tiles_for rules d number keys (map (offered rules d number key) views))
      (views_to number key views all) (tiles_to number keys (map (offered rules d number key) views) (all_offered number key views all))

module _ {C B S : Type 0} (rules : Rules C B) (cut : C → Place → S) (P : ℕ → Type 0) where
  abbrev Frames : Outs S → Type 0
  Frames outs = AllTo P outs.frames

  -- a message
  pub says_to : (old new : Document S) (id : ℕ) (text : List ℕ) (outs : Outs S) → Says rules old id text outs new → AllByRecursion P (ids_of old.views) → AllTo P outs.frames
  says_to old new id text outs says all =
      subst Frames (sym says.outs_are) (all_replied P id (effect rules old says.view text).frames (found_by P old.views id says.view all says.live))

  -- a work of a turn
  pub works_to : (old new : Document S) (outs : Outs S) → Works rules cut old outs new → AllByRecursion P (ids_of old.views) → AllTo P outs.frames
  works_to old new outs works all =
      elim works [
        | inl serves ↦ subst Frames (sym serves.outs_are) (all_unmodified P old.views old.applied (unmodified old.applied old.saving) all)
        | inr more ↦ elim more [
          | inl applies ↦ subst Frames (sym applies.outs_are) (all_told P old.views _ all)
          | inr other ↦ elim other [
            | inl sends ↦ subst Frames (sym sends.outs_are) (found_by P old.views sends.view.id sends.view all sends.live, tt)
            | inr cuts ↦ subst Frames (sym cuts.outs_are) tt
          ]
        ]
      ]

  -- a painted job
  paints_to : (old new : Document S) (ticket : ℕ) (scene : S) (outs : Outs S) (job : Option (Job S)) → Paints rules old ticket scene outs new job → AllByRecursion P (ids_of old.views) → AllTo P outs.frames
  paints_to old new ticket scene outs None paint all = subst Frames (sym paint.0) tt
  paints_to old new ticket scene outs (Some job) paint all =
      elim paint [
        | inl other ↦ subst Frames (sym other.1) tt
        | inr taken ↦ subst Frames (sym taken.1) (tiles_to rules old P job.number job.keys old.views all)
      ]

  -- one event, and then the others: the views that are there stay
  further : (event : Event S) (old mid new : Document S) (first later outs : Outs S) → ids_of mid.views ≡ ids_of old.views → outs ≡ joined first later → AllTo P first.frames
      → (AllByRecursion P (ids_of mid.views) → AllTo P later.frames) → AllByRecursion P (ids_of old.views) → AllTo P outs.frames
  further event old mid new first later outs ids is here rest all =
      subst Frames (sym is) (all_join (To P) first.frames later.frames here (rest (subst (AllByRecursion P) (sym ids) all)))

  -- errands that are answered, one after the other
  stored_to : (errands : List Errand) (old new : Document S) (outs : Outs S) → Segment rules cut old (map stored errands) outs new → AllByRecursion P (ids_of old.views) → AllTo P outs.frames
  stored_to [] old new outs run all = subst Frames (sym run.0) tt
  stored_to (errand ∷ errands) old new outs run all =
      let result : Result Receipt StoreFault = Ok (own_receipt errand) in
      let here : AllTo P run.1.frames = subst Frames (sym run.3.0) (all_ended P old.views result (answers errand.ticket.0 (receipt_of result) old.saving) all) in
      further (stored errand) old run.0 new run.1 run.2 outs (ap (λ (d : Document S). ids_of d.views) run.3.1) run.5 here (stored_to errands run.0 new run.2 run.4) all

  -- painted jobs, one after the other, and then errands
  pub answers_to : (jobs : List (PaintJob S)) (errands : List Errand) (old new : Document S) (outs : Outs S)
      → Segment rules cut old (map answered jobs ++ map stored errands) outs new → AllByRecursion P (ids_of old.views) → AllTo P outs.frames
  answers_to [] errands old new outs run all = stored_to errands old new outs run all
  answers_to (job ∷ jobs) errands old new outs run all =
      let one : Segment rules cut old (map answered (job ∷ []) ++ map stored []) run.1 run.0 = (run.0, run.1, nothing, run.3, (refl, refl), sym (nothing_last run.1)) in
      let ids : ids_of run.0.views ≡ ids_of old.views = ids-answers rules cut old run.0 (job ∷ []) [] run.1 one in
      let here : AllTo P run.1.frames = paints_to old run.0 job.ticket.0 job.scene run.1 (find_job old.jobs job.ticket.0) run.3 all in
      further (answered job) old run.0 new run.1 run.2 outs ids run.5 here (answers_to jobs errands run.0 new run.2 run.4) all
