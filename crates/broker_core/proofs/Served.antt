-- A document once its ready saves were served, or a store answered.
use Rattle.std.proofs.Common.{◌≡◌, ◌∙◌, ℕ, zero, suc, ◌+◌, ◌<◌, Bool, true, false, cond, List, [], ◌∷◌, ◌++◌, length, map, filter, drop, get_or, Option, Some, Result, refl, sym, ap, subst, append_assoc, append-nil, arith}
use Rattle.std.specs.Prelude.{nat_lt, option_to_list}
use Rattle.std.proofs.lemmas.List.{drop_more}
use Rattle.cool_base.specs.declared.ids.ViewId.{ViewId}
use Rattle.cool_frame.specs.declared.frame.Frame.{Frame}
use Rattle.cool_frame.specs.declared.frame.Frame.TheVariants.{SaveDone}
use Rattle.kit_trait.specs.Rules.{Rules}
use Rattle.kit_trait.specs.declared.jobs.PaintJob.{PaintJob}
use Rattle.outside.specs.declared.errands.Errand.{Errand}
use Rattle.outside.specs.declared.errands.Receipt.{Receipt}
use Rattle.outside.specs.declared.faults.StoreFault.{StoreFault}
use Rattle.save_core.specs.Saving.{Saving, answered, answers, errand_for, served, unmodified}
use Rattle.tile_cache.specs.Cached.{Cached}
use Rattle.tile_key.specs.Places.{Place}
use Rattle.document_machine.specs.Due.{parts_of}
use Rattle.document_machine.specs.Event.{Event, PutAnswered, Turned}
use Rattle.document_machine.specs.Goes.{DoesNext, Moves, next_work}
use Rattle.document_machine.specs.Held.{Held, current_version, kept_by}
use Rattle.document_machine.specs.Next.{Work, Serve, Apply, next_pair, serving_next}
use Rattle.document_machine.specs.Outputs.{frames_only}
use Rattle.save_core.specs.declared.values.SaveAnswer.{SaveAnswer}
use Rattle.document_machine.specs.Saves.{Serves, ending_frame, ending_frames, told_view, has_ready_save, receipt_of, served_outs, text_at, unmodified_frames}
use Rattle.document_machine.specs.State.{Document, View, is_live}
use Rattle.document_machine.specs.Step.{Does}
use Rattle.document_machine.specs.declared.outs.Outs.{Outs}
use Rattle.document_machine.specs.declared.outs.Turned.TheVariants.{Worked}
use Rattle.broker_core.specs.Held.{Holds}
use Rattle.broker_core.specs.Members.{views_of}
use Rattle.broker_core.specs.declared.members.Member.{Member}
use Rattle.document_laws.proofs.Moving.{moves_keep}

-- a document with this known of its saves
abbrev pub saved_once : {S : Type 0} → Held S → Saving → Held S
saved_once held saving = record held { document = record (held.document) { saving = saving } }

-- what goes out where the ready saves are served, by the members and the file of the kit
abbrev pub outs_served : {S : Type 0} → List Member → Document S → (text : List ℕ) → Outs S
outs_served members d text = record {
  frames = unmodified_frames (views_of members) d.applied (unmodified d.applied d.saving);
  jobs = [];
  errands = option_to_list (errand_for d.applied d.file text d.saving);
}

module _ {C B S : Type 0} (rules : Rules C B) (cut : C → Place → S) (IsSound : C → Type 0) (contents : C) (members : List Member) (cache : Cached) (held : Held S) (h : Holds rules cut IsSound contents members cache held) where
  -- a move that changes what is known of the saves alone keeps all
  pub holds_saved : ((base : List ℕ) → 0 < parts_of rules base) → (now : C) → now ≡ contents → (saving : Saving) (event : Event S) (outs : Outs S) → Moves rules cut held event outs (saved_once held saving) → Holds rules cut IsSound now members cache (saved_once held saving)
  holds_saved some_part now is saving event outs moves = record {
    kept = moves_keep rules cut some_part held (saved_once held saving) event outs moves h.kept;
    views_are = h.views_are;
    contents_are = is ∙ h.contents_are;
    sound = subst IsSound (sym is) h.sound;
    parts_are = ap (λ c. rules.parts (rules.body c)) is ∙ h.parts_are;
    sizes_are = λ part. ap (λ c. rules.size (rules.body c) part) is ∙ h.sizes_are part;
    some_part = h.some_part;
    tracked = h.tracked;
    forms = h.forms;
    ticket_is = h.ticket_is;
    kept_are = h.kept_are;
    cached = record { tiles = h.cached.tiles; outs = h.cached.outs };
  }

  -- the ready saves are served
  pub serves_by : (text : List ℕ) (saving : Saving) (outs : Outs S) → has_ready_save held.document ≡ true → text ≡ rules.text (rules.body contents) → saving ≡ served held.document.applied held.document.file text held.document.saving → outs ≡ outs_served members held.document text
      → DoesNext rules cut held (Worked outs) (saved_once held saving)
  serves_by text saving outs ready text_is saving_is outs_are =
      let d : Document S = held.document in
      let text_at_is : text ≡ text_at rules d d.applied = text_is ∙ ap (λ c. rules.text (rules.body c)) h.contents_are in
      let told : outs_served {S = S} members d text ≡ served_outs rules d = λ i. record {
        frames = unmodified_frames (sym h.views_are i) d.applied (unmodified d.applied d.saving);
        jobs = [];
        errands = option_to_list (errand_for d.applied d.file (text_at_is i) d.saving);
      } in
      let serves : Serves rules d outs ((saved_once held saving).document) = record {
        ready = ready;
        outs_are = outs_are ∙ told;
        new_is = ap (λ (s : Saving). record d { saving = s }) (saving_is ∙ ap (λ t. served d.applied d.file t d.saving) text_at_is);
      } in
      let work_is : next_work rules held ≡ Serve = ap (λ b. cond b Serve (cond (nat_lt d.applied (length d.journal)) Apply (serving_next rules (current_version rules held) d (next_pair rules (current_version rules held) d)))) ready in
      subst (λ (work : Work). Does rules cut d work (Worked outs) ((saved_once held saving).document) × (held.kept ≡ kept_by held.kept work)) (sym work_is) (serves, refl)

  -- the store answered
  pub ends_by : (ticket : ℕ) (result : Result Receipt StoreFault) (saving : Saving) (frames : List (ViewId × Frame)) → saving ≡ answered ticket (receipt_of result) held.document.saving → frames ≡ ending_frames (views_of members) result (answers ticket (receipt_of result) held.document.saving)
      → Moves rules cut held (PutAnswered ticket result) (frames_only frames) (saved_once held saving)
  ends_by ticket result saving frames saving_is frames_are =
      let d : Document S = held.document in
      let told : frames_only {S = S} frames ≡ frames_only (ending_frames d.views result (answers ticket (receipt_of result) d.saving)) =
      ap (λ (fs : List (ViewId × Frame)). frames_only fs) (frames_are ∙ ap (λ (vs : List View). ending_frames vs result (answers ticket (receipt_of result) d.saving)) (sym h.views_are)) in
      let new_is : (saved_once held saving).document ≡ record d { saving = answered ticket (receipt_of result) d.saving } = ap (λ (s : Saving). record d { saving = s }) saving_is in
      ((told, new_is), refl)

-- what goes out where the ready saves are served, by its parts
pub outs_by : {S : Type 0} (members : List Member) (d : Document S) (text : List ℕ) (ids slice : List ViewId) (errand : Option Errand)
    → (frames : List (ViewId × Frame)) (jobs : List (PaintJob S)) (errands : List Errand)
    → slice ≡ ids → ids ≡ unmodified d.applied d.saving → errand ≡ errand_for d.applied d.file text d.saving
    → frames ≡ unmodified_frames (views_of members) d.applied slice → jobs ≡ [] → errands ≡ option_to_list errand
    → record { frames = frames; jobs = jobs; errands = errands } ≡ outs_served {S = S} members d text
outs_by members d text ids slice errand frames jobs errands slice_is ids_are errand_is frames_are jobs_are errands_are =
    let told : frames ≡ unmodified_frames (views_of members) d.applied (unmodified d.applied d.saving) = frames_are ∙ ap (unmodified_frames (views_of members) d.applied) (slice_is ∙ ids_are) in
    let given : errands ≡ option_to_list (errand_for d.applied d.file text d.saving) = errands_are ∙ ap (λ (o : Option Errand). option_to_list o) errand_is in
    λ i. record { frames = told i; jobs = jobs_are i; errands = given i }

-- a turn that did its work is a move
pub turn_moves : {C B S : Type 0} (rules : Rules C B) (cut : C → Place → S) (old new : Held S) (outs : Outs S) → DoesNext rules cut old (Worked outs) new → Moves rules cut old Turned outs new
turn_moves rules cut old new outs does = (Worked outs, does, refl)

-- the element at a place, whatever is given for want of one
pub same_there : {X : Type 0} (xs : List X) (i : ℕ) (a b : X) → i < length xs → get_or xs i a ≡ get_or xs i b
same_there [] i a b lt = absurd (omega arith)
same_there (x ∷ xs) zero a b lt = refl
same_there (x ∷ xs) (suc i) a b lt = same_there xs i a b (omega arith)

-- a view that is gone is told nothing, and one that is there gets its frame
pub told_gone : (views : List View) (frames : List (ViewId × Frame)) (id : ViewId) (frame : Frame) → is_live views id.0 ≡ false → frames ≡ frames ++ told_view views frame (Some id)
told_gone views frames id frame gone =
    sym (ap (λ (b : Bool). frames ++ cond b ((id, frame) ∷ []) []) gone ∙ append-nil frames)

pub told_there : (views : List View) (frames : List (ViewId × Frame)) (id : ViewId) (frame : Frame) → is_live views id.0 ≡ true → frames ++ (id, frame) ∷ [] ≡ frames ++ told_view views frame (Some id)
told_there views frames id frame there = sym (ap (λ (b : Bool). frames ++ cond b ((id, frame) ∷ []) []) there)

-- one view more is answered that nothing was new, where it is there
pub unmodified_more : (views : List View) (number : ℕ) (ids : List ViewId) (n : ℕ) (id : ViewId) (frames now whole : List (ViewId × Frame)) → n < length ids → get_or ids n id ≡ id
    → now ≡ frames ++ told_view views (SaveDone number false) (Some id)
    → frames ++ unmodified_frames views number (drop n ids) ≡ whole → now ++ unmodified_frames views number (drop (n + 1) ids) ≡ whole
unmodified_more views number ids n id frames now whole lt is more before =
    let f : ViewId → ViewId × Frame = λ v. (v, SaveDone number false) in
    let P : ViewId → Bool = λ v. is_live views v.0 in
    let xs : List ViewId = drop (n + 1) ids in
    let piece : List (ViewId × Frame) = told_view views (SaveDone number false) (Some id) in
    let e : drop n ids ≡ id ∷ xs = drop_more ids n id lt ∙ ap (λ (x : ViewId). x ∷ xs) is in
    let go : (b : Bool) → cond b (f id ∷ []) [] ++ map f (filter P xs) ≡ map f (cond b (id ∷ filter P xs) (filter P xs)) = elim [ true ↦ refl | false ↦ refl ] in
    ap (λ fs. fs ++ unmodified_frames views number xs) more ∙ append_assoc frames piece (unmodified_frames views number xs)
    ∙ ap (λ fs. frames ++ fs) (go (is_live views id.0))
    ∙ ap (λ (ys : List ViewId). frames ++ unmodified_frames views number ys) (sym e) ∙ before

-- one save more is told how its put ended
pub ending_more : (views : List View) (result : Result Receipt StoreFault) (given : List SaveAnswer) (n : ℕ) (save : SaveAnswer) (frames now whole : List (ViewId × Frame)) → n < length given → get_or given n save ≡ save
    → now ≡ frames ++ told_view views (ending_frame result save.number) save.view
    → frames ++ ending_frames views result (drop n given) ≡ whole → now ++ ending_frames views result (drop (n + 1) given) ≡ whole
ending_more views result given n save frames now whole lt is more before =
    let piece : List (ViewId × Frame) = told_view views (ending_frame result save.number) save.view in
    let rest : List (ViewId × Frame) = ending_frames views result (drop (n + 1) given) in
    let e : drop n given ≡ save ∷ drop (n + 1) given = drop_more given n save lt ∙ ap (λ (x : SaveAnswer). x ∷ drop (n + 1) given) is in
    ap (λ fs. fs ++ rest) more ∙ append_assoc frames piece rest
    ∙ ap (λ (xs : List SaveAnswer). frames ++ ending_frames views result xs) (sym e) ∙ before
