-- Why each tile shows the document after a prefix of its inputs.
use Rattle.std.proofs.Common.{◌≡◌, ℕ, ◌+◌, ◌<◌, ◌≤◌, Bool, true, false, cond, List, [], ◌∷◌, ◌++◌, length, map, Option, None, Some, Ok, Err, refl, ap, sym, subst, ◌∙◌, arith, inl, inr, length-append, append_assoc, append-nil}
use Rattle.std.specs.Prelude.{nat_lt, Result}
use Rattle.std.specs.List.{flat_map, AllByRecursion}
use Rattle.std.proofs.lemmas.List.{take-append-le}
use Rattle.cool_base.specs.declared.ids.ViewId.{ViewId}
use Rattle.cool_frame.specs.declared.frame.Frame.{Frame}
use Rattle.cool_frame.specs.declared.frame.Frame.TheVariants.{Status, Invalidate, Server, Error, SaveDone, Tile}
use Rattle.kit_trait.specs.Rules.{Rules, after, doc, shown}
use Rattle.kit_trait.specs.declared.values.Damage.{Damage}
use Rattle.kit_trait.specs.declared.values.Input.{Input}
use Rattle.outside.specs.declared.errands.Receipt.{Receipt}
use Rattle.outside.specs.declared.faults.StoreFault.{StoreFault}
use Rattle.save_core.specs.Saving.{answers, unmodified}
use Rattle.tile_key.specs.Places.{Place}
use Rattle.document_machine.specs.Due.{parts_of, takes, tile_frame}
use Rattle.document_machine.specs.Event.{Event, Joined, Left, Said, Turned, Painted, PutAnswered}
use Rattle.document_machine.specs.Kept.{IsKept, IsViewKept, IsJobKept}
use Rattle.document_machine.specs.Message.{Effect, effect, heard}
use Rattle.document_machine.specs.Outputs.{named, outs_of}
use Rattle.document_machine.specs.Run.{Segment}
use Rattle.document_machine.specs.Saves.{ending_frame, receipt_of}
use Rattle.document_machine.specs.State.{View, Job, Document, find_job}
use Rattle.document_machine.specs.Step.{JoinsWhere, Works, TurnsTo, Paints, Step, told, offered, tile_for, tiles_for}
use Rattle.document_machine.specs.declared.limits.TheConstants.{MOST_VIEWS}
use Rattle.document_machine.specs.declared.outs.Outs.{Outs}
use Rattle.document_machine.specs.declared.outs.Turned.{Turned as TurnAnswer}
use Rattle.document_machine.specs.declared.outs.Turned.TheVariants.{Worked, Idle}
use Rattle.document_machine.specs.declared.rights.Rights.{Rights}
use Rattle.document_laws.specs.Tiles.{IsShown}
use Rattle.document_laws.proofs.Heard.{IsGood, IsPlain, effect_good}
use Rattle.document_laws.proofs.Kept.{found_job, steps_keep}
use Rattle.document_laws.proofs.Ordered.{all_both, weaker}
use Rattle.document_laws.proofs.SaveFrames.{ending_all, unmodified_all}
use Rattle.document_laws.proofs.Views.{found_view}

module _ {C B : Type 0} (rules : Rules C B) (base : List ℕ) (journal : List Input) (most : ℕ) where
  -- frames that are no tiles
  one_told : (view : View) (damage : List Damage)
      → AllByRecursion (IsShown rules base journal most)
      (map (λ d. (named view.id, Invalidate d.part d.rect)) damage)
  one_told view [] = tt
  one_told view (d ∷ ds) = (tt, one_told view ds)

  all_told : (views : List View) (damage : List Damage)
      → AllByRecursion (IsShown rules base journal most) (told views damage)
  all_told [] damage = tt
  all_told (view ∷ views) damage =
      all_both (IsShown rules base journal most)
      (map (λ d. (named view.id, Invalidate d.part d.rect)) damage) (told views damage)
      (one_told view damage) (all_told views damage)

  all_replied : (id : ℕ) (frames : List Frame) → AllByRecursion IsPlain frames
      → AllByRecursion (IsShown rules base journal most) (map (λ frame. (named id, frame)) frames)
  all_replied id [] plain = tt
  all_replied id (Tile key version wid rgba ∷ frames) plain = absurd (plain.0)
  all_replied id (Server ∷ frames) plain = (tt, all_replied id frames plain.1)
  all_replied id (Status kit parts size view readonly ∷ frames) plain =
      (tt, all_replied id frames plain.1)
  all_replied id (Invalidate part rect ∷ frames) plain = (tt, all_replied id frames plain.1)
  all_replied id (SaveDone inputs put ∷ frames) plain = (tt, all_replied id frames plain.1)
  all_replied id (Error command kind code ∷ frames) plain = (tt, all_replied id frames plain.1)

-- nor does the answer to a put give one
module _ {C B : Type 0} (rules : Rules C B) (base : List ℕ) (journal : List Input) (most : ℕ) where
  ending_shown : (id : ViewId) (number : ℕ) (result : Result Receipt StoreFault)
      → IsShown rules base journal most (id, ending_frame result number)
  ending_shown id number (Ok receipt) = tt
  ending_shown id number (Err fault) = tt

-- a frame still shows what it says when inputs are behind those that there were
module _ {C B : Type 0} (rules : Rules C B) (base : List ℕ) where
  pub doc_more : (journal more : List Input) (n : ℕ) → n ≤ length journal
      → doc rules base (journal ++ more) n ≡ doc rules base journal n
  doc_more journal more n le =
      ap (λ inputs. after rules (rules.start base) inputs) (take-append-le n journal more le)

  shown_more : (journal more : List Input) (most further : ℕ) → most ≤ length journal
      → most ≤ further → (frame : ViewId × Frame) → IsShown rules base journal most frame
      → IsShown rules base (journal ++ more) further frame
  shown_more journal more most further le on (view, Tile key version wid rgba) is =
      let few : version ≤ most = is.0 in (
        omega arith,
        is.1
            ∙ ap (λ c. (shown rules c key).rgba)
            (sym (doc_more journal more version (omega arith))),
      )
  shown_more journal more most further le on (view, Server) is = tt
  shown_more journal more most further le on (view, Status kit parts size to readonly) is = tt
  shown_more journal more most further le on (view, Invalidate part rect) is = tt
  shown_more journal more most further le on (view, SaveDone inputs put) is = tt
  shown_more journal more most further le on (view, Error command kind code) is = tt

  all_shown_more : (journal more : List Input) (most further : ℕ) → most ≤ length journal
      → most ≤ further → (frames : List (ViewId × Frame))
      → AllByRecursion (IsShown rules base journal most) frames
      → AllByRecursion (IsShown rules base (journal ++ more) further) frames
  all_shown_more journal more most further le on [] is = tt
  all_shown_more journal more most further le on (frame ∷ frames) is = (
    shown_more journal more most further le on frame is.0,
    all_shown_more journal more most
        further le on frames is.1,
  )

module _ {C B S : Type 0} (rules : Rules C B) (d : Document S) where
  abbrev Shows : ViewId × Frame → Type 0
  Shows = IsShown rules d.base d.journal d.applied

  -- painted tiles
  tile_shown : (version : ℕ) (key : Place) (view : View) → version ≤ d.applied
      → AllByRecursion Shows (tile_for rules d version key view)
  tile_shown version key view past =
      elim (takes rules d version key view) as
      (λ b. AllByRecursion Shows (cond b (tile_frame rules d version key view ∷ []) [])) [
        | true ↦ ((past, refl), tt)
        | false ↦ tt
      ]

  views_shown : (version : ℕ) (key : Place) (views : List View) → version ≤ d.applied
      → AllByRecursion Shows (flat_map (tile_for rules d version key) views)
  views_shown version key [] past = tt
  views_shown version key (view ∷ views) past =
      all_both Shows (tile_for rules d version key view)
      (flat_map (tile_for rules d version key) views) (tile_shown version key view past)
      (views_shown version key views past)

  all_tiles_shown : (version : ℕ) (keys : List Place) (views : List View) → version ≤ d.applied
      → AllByRecursion Shows (tiles_for rules d version keys views)
  all_tiles_shown version [] views past = tt
  all_tiles_shown version (key ∷ keys) views past =
      all_both Shows (flat_map (tile_for rules d version key) views)
      (tiles_for rules d version keys (map (offered rules d version key) views))
      (views_shown version key views past)
      (all_tiles_shown version keys (map (offered rules d version key) views) past)

module _ {C B S : Type 0} (rules : Rules C B) (cut : C → Place → S) where
  abbrev AllShown : Document S → Outs S → Type 0
  AllShown d outs = AllByRecursion (Shows rules d) outs.frames

  -- steps
  works_show : (old new : Document S) (outs : Outs S) → Works rules cut old outs new
      → AllShown old outs
  works_show old new outs works =
      elim works [
        | inl serves ↦
            subst (AllShown old) (sym serves.outs_are)
            (unmodified_all (Shows rules old) old.views old.applied
            (unmodified old.applied old.saving) (λ id. tt))
        | inr later ↦ elim later [
          | inl applies ↦
              subst (AllShown old) (sym applies.outs_are)
              (all_told rules old.base old.journal old.applied old.views
              (rules.hurt (doc rules old.base old.journal old.applied) applies.input))
          | inr other ↦ elim other [
            | inl sends ↦ subst (AllShown old) (sym sends.outs_are) ((sends.past, refl), tt)
            | inr cuts ↦ subst (AllShown old) (sym cuts.outs_are) tt
          ]
        ]
      ]

  turn_shows : (old new : Document S) (turned : TurnAnswer S) (outs : Outs S)
      → TurnsTo rules cut old turned new → outs ≡ outs_of turned → AllShown old outs
  turn_shows old new (Worked given) outs turn are =
      subst (AllShown old) (sym are) (works_show old new given turn)
  turn_shows old new Idle outs turn are = subst (AllShown old) (sym are) tt

  join_shows : (old new : Document S) (rights : Rights) (outs : Outs S) (b : Bool)
      → JoinsWhere b rules old rights outs new → AllShown old outs
  join_shows old new rights outs true joins = subst (AllShown old) (sym joins.0) (tt, tt)
  join_shows old new rights outs false joins = subst (AllShown old) (sym joins.0) tt

  paints_show : (old new : Document S) (ticket : ℕ) (scene : S) (outs : Outs S)
      (job : Option (Job S)) → IsKept rules cut old → find_job old.jobs ticket ≡ job
      → Paints rules old ticket scene outs new job → AllShown old outs
  paints_show old new ticket scene outs None kept found paint =
      subst (AllShown old) (sym paint.0) tt
  paints_show old new ticket scene outs (Some job) kept found paint =
      let numbers : AllByRecursion (λ j. j.number ≤ old.applied) old.jobs =
      weaker (IsJobKept rules cut old) (λ j. j.number ≤ old.applied) old.jobs
      (λ j is. is.number) kept.jobs in
      elim paint [
        | inl other ↦ subst (AllShown old) (sym other.1) tt
        | inr taken ↦ subst (AllShown old) (sym taken.1)
            (all_tiles_shown rules old job.number job.keys old.views
            (found_job (λ j. j.number ≤ old.applied) old.jobs ticket job numbers found))
      ]

  pub step_shows : (old new : Document S) (event : Event S) (outs : Outs S) → IsKept rules cut old
      → Step rules cut old event outs new
      → AllByRecursion (IsShown rules old.base old.journal old.applied) outs.frames
  step_shows old new (Joined rights) outs kept step =
      join_shows old new rights outs (nat_lt (length old.views) MOST_VIEWS) step
  step_shows old new (Left view) outs kept step = subst (AllShown old) (sym step.0) tt
  step_shows old new (Said id text) outs kept step =
      let e : Effect = effect rules old step.view text in
      let of_view : IsViewKept rules old step.view =
      found_view (IsViewKept rules old) old.views id step.view kept.each step.live in
      let good : IsGood rules old step.view e = effect_good rules old step.view of_view text in
      subst (AllShown old) (sym step.outs_are)
      (all_replied rules old.base old.journal old.applied id e.frames good.frames)
  step_shows old new Turned outs kept step = turn_shows old new step.0 outs step.1 step.2
  step_shows old new (Painted ticket scene) outs kept step =
      paints_show old new ticket scene outs (find_job old.jobs ticket) kept refl step
  step_shows old new (PutAnswered ticket result) outs kept step =
      subst (AllShown old) (sym step.0)
      (ending_all (Shows rules old) old.views result (answers ticket (receipt_of result) old.saving)
      (λ id number. ending_shown rules old.base old.journal old.applied id number result))

  -- the inputs of a document go on, and its file stays
  abbrev GoesOn : Document S → Document S → Type 0
  GoesOn old new = (new.base ≡ old.base) × (more : List Input) × (new.journal ≡ old.journal ++ more)

  stays : (old : Document S) → GoesOn old old
  stays old = (refl, [], sym (append-nil old.journal))

  heard_on : (old : Document S) (id : ℕ) (e : Effect) → GoesOn old (heard old id e)
  heard_on old id e = (refl, e.inputs, refl)

  works_on : (old new : Document S) (outs : Outs S) → Works rules cut old outs new → GoesOn old new
  works_on old new outs works =
      elim works [
        | inl serves ↦ subst (GoesOn old) (sym serves.new_is) (stays old)
        | inr later ↦ elim later [
          | inl applies ↦ subst (GoesOn old) (sym applies.new_is) (stays old)
          | inr other ↦ elim other [
            | inl sends ↦ subst (GoesOn old) (sym sends.new_is) (stays old)
            | inr cuts ↦ subst (GoesOn old) (sym cuts.new_is) (stays old)
          ]
        ]
      ]

  turn_on : (old new : Document S) (turned : TurnAnswer S) → TurnsTo rules cut old turned new
      → GoesOn old new
  turn_on old new (Worked outs) turn = works_on old new outs turn
  turn_on old new Idle turn = subst (GoesOn old) (sym turn.1) (stays old)

  join_on : (old new : Document S) (rights : Rights) (outs : Outs S) (b : Bool)
      → JoinsWhere b rules old rights outs new → GoesOn old new
  join_on old new rights outs true joins = subst (GoesOn old) (sym joins.1) (stays old)
  join_on old new rights outs false joins = subst (GoesOn old) (sym joins.1) (stays old)

  paints_on : (old new : Document S) (ticket : ℕ) (scene : S) (outs : Outs S) (job : Option (Job S))
      → Paints rules old ticket scene outs new job → GoesOn old new
  paints_on old new ticket scene outs None paint = subst (GoesOn old) (sym paint.1) (stays old)
  paints_on old new ticket scene outs (Some job) paint =
      elim paint [
        | inl other ↦ subst (GoesOn old) (sym other.2) (stays old)
        | inr taken ↦ subst (GoesOn old) (sym taken.2) (stays old)
      ]

  pub step_on : (old new : Document S) (event : Event S) (outs : Outs S)
      → Step rules cut old event outs new → GoesOn old new
  step_on old new (Joined rights) outs step =
      join_on old new rights outs (nat_lt (length old.views) MOST_VIEWS) step
  step_on old new (Left view) outs step = subst (GoesOn old) (sym step.1) (stays old)
  step_on old new (Said id text) outs step =
      subst (GoesOn old) (sym step.new_is) (heard_on old id (effect rules old step.view text))
  step_on old new Turned outs step = turn_on old new step.0 step.1
  step_on old new (Painted ticket scene) outs step =
      paints_on old new ticket scene outs (find_job old.jobs ticket) step
  step_on old new (PutAnswered ticket result) outs step =
      subst (GoesOn old) (sym step.1) (stays old)

  goes_on : (old mid new : Document S) → GoesOn old mid → GoesOn mid new → GoesOn old new
  goes_on old mid new a b =
      (b.0 ∙ a.0, a.1 ++ b.1, b.2 ∙ ap (λ j. j ++ b.1) a.2 ∙ append_assoc old.journal a.1 b.1)

  -- runs
  pub run_on : (events : List (Event S)) (old new : Document S) (outs : Outs S)
      → Segment rules cut old events outs new → GoesOn old new
  run_on [] old new outs run = subst (GoesOn old) (sym run.1) (stays old)
  run_on (event ∷ events) old new outs run =
      goes_on old run.0 new (step_on old run.0 event run.1 run.3)
      (run_on events run.0 new run.2 run.4)

  pub run_shows : ((base : List ℕ) → 0 < parts_of rules base)
      → (events : List (Event S)) (old new : Document S) (outs : Outs S) → IsKept rules cut old
      → Segment rules cut old events outs new
      → AllByRecursion (IsShown rules new.base new.journal (length new.journal)) outs.frames
  run_shows some [] old new outs kept run =
      subst (λ (o : Outs S). AllByRecursion
      (IsShown rules new.base new.journal (length new.journal)) o.frames) (sym run.0) tt
  run_shows some (event ∷ events) old new outs kept run =
      let here = step_shows old run.0 event run.1 kept run.3 in
      let on = goes_on old run.0 new (step_on old run.0 event run.1 run.3)
      (run_on events run.0 new run.2 run.4) in
      let longer : length new.journal ≡ length old.journal + length on.1 =
      ap length on.2 ∙ length-append old.journal on.1 in
      let level : old.applied ≤ length old.journal = kept.level in
      let first : AllByRecursion
      (IsShown rules old.base (old.journal ++ on.1) (length new.journal)) run.1.frames =
      all_shown_more rules old.base old.journal on.1 old.applied (length new.journal) level
      (omega arith) run.1.frames here in
      let moved : AllByRecursion
      (IsShown rules new.base new.journal (length new.journal)) run.1.frames =
      subst (λ (b : List ℕ). AllByRecursion
      (IsShown rules b new.journal (length new.journal)) run.1.frames) (sym on.0)
      (subst (λ (j : List Input). AllByRecursion
      (IsShown rules old.base j (length new.journal)) run.1.frames) (sym on.2) first) in
      let rest = run_shows some events run.0 new run.2
      (steps_keep rules cut some old run.0 event run.1 run.3 kept) run.4 in
      subst (λ (o : Outs S). AllByRecursion
      (IsShown rules new.base new.journal (length new.journal)) o.frames) (sym run.5)
      (all_both (IsShown rules new.base new.journal (length new.journal)) run.1.frames run.2.frames
      moved rest)
