-- What stands behind each frame that says that a save is done.
use Rattle.std.proofs.Common.{◌≡◌, ℕ, zero, suc, ◌-◌, ◌<◌, Bool, true, false, not, ◌&&◌, ◌||◌, cond, nat_eq, nat_le, List, [], ◌∷◌, ◌++◌, length, map, filter, Option, None, Some, Ok, Err, unwrap_or, refl, ap, sym, subst, ◌∙◌, arith, inl, inr}
use Rattle.std.specs.Prelude.{nat_lt, slice_get, Result}
use Rattle.std.specs.List.{flat_map, filter_map, cons_option, list_any, AllByRecursion}
use Rattle.std.specs.Str.{bytes_eq}
use Rattle.std.proofs.lemmas.Bool.{and_parts, eqb-true, leb-true}
use Rattle.std.proofs.lemmas.List.Folds.{list_any-append}
use Rattle.std.proofs.lemmas.Slice.Eq.{bytes_eq-Decides}
use Rattle.cool_base.specs.declared.ids.ViewId.{ViewId}
use Rattle.cool_frame.specs.declared.frame.Frame.{Frame}
use Rattle.cool_frame.specs.declared.frame.Frame.TheVariants.{Status, Invalidate, Server, Error, SaveDone, Tile}
use Rattle.kit_trait.specs.Rules.{Rules, doc}
use Rattle.kit_trait.specs.declared.values.Damage.{Damage}
use Rattle.outside.specs.declared.errands.Errand.{Errand}
use Rattle.outside.specs.declared.errands.Receipt.{Receipt}
use Rattle.outside.specs.declared.faults.StoreFault.{StoreFault}
use Rattle.save_core.proofs.Bound.{under_way}
use Rattle.save_core.specs.Runs.{IsBoundTo}
use Rattle.save_core.specs.Saving.{Saving, answer_of, answered, answered_put, answers, begun, endings, errand_for, ended, is_ready_save, is_unmodified, last_stored, left_over, unmodified}
use Rattle.save_core.specs.declared.values.Put.{Put}
use Rattle.save_core.specs.declared.values.Save.{Save}
use Rattle.tile_key.specs.Places.{Place}
use Rattle.document_machine.proofs.Lists.{all_filter, nat_eq_self}
use Rattle.document_machine.specs.Due.{takes, tile_frame}
use Rattle.document_machine.specs.Event.{Event, Joined, Left, Said, Turned, Painted, PutAnswered}
use Rattle.document_machine.specs.Kept.{IsKept, IsPutKept, IsViewKept}
use Rattle.document_machine.specs.Message.{Effect, effect}
use Rattle.document_machine.specs.Outputs.{named, outs_of}
use Rattle.document_machine.specs.Saves.{Serves, ending_frame, ending_frames, receipt_of, text_at, told_view}
use Rattle.document_machine.specs.State.{View, Job, Document, find_job, is_live}
use Rattle.document_machine.specs.Step.{JoinsWhere, Works, TurnsTo, Paints, Step, told, offered, tile_for, tiles_for}
use Rattle.document_machine.specs.declared.limits.TheConstants.{MOST_VIEWS}
use Rattle.document_machine.specs.declared.outs.Outs.{Outs}
use Rattle.document_machine.specs.declared.outs.Turned.{Turned as TurnAnswer}
use Rattle.document_machine.specs.declared.outs.Turned.TheVariants.{Worked, Idle}
use Rattle.document_machine.specs.declared.rights.Rights.{Rights}
use Rattle.document_laws.specs.Saved.{IsSaved, IsTrue}
use Rattle.document_laws.proofs.Heard.{IsGood, IsPlain, effect_good}
use Rattle.document_laws.proofs.Ordered.{all_both}
use Rattle.document_laws.proofs.SaveFrames.{ending_all}
use Rattle.document_laws.proofs.Views.{found_view}

-- a save is one of the list, at a place
abbrev pub Has : List Save → Save → Type 0
Has saves save = (place : ℕ) × (slice_get saves place ≡ Some save)

-- what holds of each holds of the one at a place
pub all_get : {X : Type 0} (P : X → Type 0) (xs : List X) (place : ℕ) (x : X) → AllByRecursion P xs
    → slice_get xs place ≡ Some x → P x
all_get P [] place x all e = absurd (cc)
all_get P (y ∷ ys) zero x all e = let same : y ≡ x = cc in subst P same all.0
all_get P (y ∷ ys) (suc place) x all e = all_get P ys place x all.1 e

-- what holds of the view of each save that passes
views_all : (Q : ViewId → Type 0) (p : Save → Bool) (saves : List Save)
    → ((save : Save) → Has saves save → p save ≡ true → (id : ViewId) → save.view ≡ Some id → Q id)
    → AllByRecursion Q (filter_map (λ (save : Save). save.view) (filter p saves))
views_all Q p [] hold = tt
views_all Q p (save ∷ saves) hold =
    let rest : AllByRecursion Q (filter_map (λ (s : Save). s.view) (filter p saves)) =
    views_all Q p saves (λ s has. hold s (suc has.0, has.1)) in
    let one : (o : Option ViewId) → ((id : ViewId) → o ≡ Some id → Q id)
    → AllByRecursion Q (cons_option o (filter_map (λ (s : Save). s.view) (filter p saves))) =
    elim [
      | None ↦ λ is. rest
      | Some id ↦ λ is. (is id refl, rest)
    ] in
    let go : (b : Bool) → p save ≡ b
    → AllByRecursion Q
    (filter_map (λ (s : Save). s.view) (cond b (save ∷ filter p saves) (filter p saves))) =
    elim [
      | true ↦ λ passes. one save.view (hold save (0, refl) passes)
      | false ↦ λ fails. rest
    ] in
    go (p save) refl

-- what holds of the frame of each save that passes
frames_all : (P : ViewId × Frame → Type 0) (views : List View) (result : Result Receipt StoreFault)
    (number : ℕ) (p : Save → Bool) (saves : List Save)
    → ((save : Save) → Has saves save → p save ≡ true → (id : ViewId) → save.view ≡ Some id
    → P (id, ending_frame result number))
    → AllByRecursion P (ending_frames views result (map (answer_of number true) (filter p saves)))
frames_all P views result number p [] hold = tt
frames_all P views result number p (save ∷ saves) hold =
    let rest : AllByRecursion P
    (ending_frames views result (map (answer_of number true) (filter p saves))) =
    frames_all P views result number p saves (λ s has. hold s (suc has.0, has.1)) in
    let live : (id : ViewId) → P (id, ending_frame result number)
    → AllByRecursion P (cond (is_live views id.0) ((id, ending_frame result number) ∷ []) []) =
    λ id here.
    elim (is_live views id.0) as
    (λ b. AllByRecursion P (cond b ((id, ending_frame result number) ∷ []) []))
    [ true ↦ (here, tt) | false ↦ tt ] in
    let one : (o : Option ViewId)
    → ((id : ViewId) → o ≡ Some id → P (id, ending_frame result number))
    → AllByRecursion P (told_view views (ending_frame result number) o) = elim [
      | None ↦ λ is. tt
      | Some id ↦ λ is. live id (is id refl)
    ] in
    let go : (b : Bool) → p save ≡ b
    → AllByRecursion P
    (ending_frames views result
    (map (answer_of number true) (cond b (save ∷ filter p saves) (filter p saves)))) = elim [
      | true ↦ λ passes.
          all_both P (told_view views (ending_frame result number) save.view)
          (ending_frames views result (map (answer_of number true) (filter p saves)))
          (one save.view (hold save (0, refl) passes)) rest
      | false ↦ λ fails. rest
    ] in
    go (p save) refl

all_map : {X Y : Type 0} (P : Y → Type 0) (f : X → Y) (xs : List X)
    → AllByRecursion (λ x. P (f x)) xs → AllByRecursion P (map f xs)
all_map P f [] all = tt
all_map P f (x ∷ xs) all = (all.0, all_map P f xs all.1)

-- a number that is at a place is one of them
get_in : (numbers : List ℕ) (place : ℕ) → place < length numbers
    → list_any (nat_eq (unwrap_or (slice_get numbers place) 0)) numbers ≡ true
get_in [] place lt = absurd (omega arith)
get_in (m ∷ ms) zero lt = rw (nat_eq_self m) refl
get_in (m ∷ ms) (suc place) lt =
    let any : (b : Bool) → (b || true) ≡ true = elim [ true ↦ refl | false ↦ refl ] in
    rw (get_in ms place (omega arith)) (any (nat_eq (unwrap_or (slice_get ms place) 0) m))

some_stored : (numbers : List ℕ) → slice_get numbers 0 ≡ Some 0 → 0 < length numbers
some_stored [] e = absurd (cc)
some_stored (m ∷ ms) e = omega arith

-- the last of them is one of them
last_in : (numbers : List ℕ) → slice_get numbers 0 ≡ Some 0
    → list_any (nat_eq (unwrap_or (slice_get numbers (length numbers - 1)) 0)) numbers ≡ true
last_in numbers first = let some : 0 < length numbers = some_stored numbers first in
    get_in numbers (length numbers - 1) (omega arith)

-- one put behind them is one of them
behind_in : (number : ℕ) (numbers : List ℕ)
    → list_any (nat_eq number) (numbers ++ number ∷ []) ≡ true
behind_in number numbers =
    let any : (b : Bool) → (b || true) ≡ true = elim [ true ↦ refl | false ↦ refl ] in
    list_any-append (nat_eq number) numbers (number ∷ [])
    ∙ rw (nat_eq_self number) (any (list_any (nat_eq number) numbers))

-- a put that begins stores nothing
pub begun_stored : (o : Option Errand) (s : Saving) → (begun o s).stored ≡ s.stored
begun_stored None s = refl
begun_stored (Some errand) s = refl

-- an answer that is taken is for the put's file and content
pub for_put : (ticket : ℕ) (receipt : Receipt) (o : Option Put) (put : Put)
    → answered_put ticket (Some receipt) o ≡ Some put
    → (receipt.file ≡ put.file) × (receipt.content ≡ put.content)
for_put ticket receipt None put e = absurd (cc)
for_put ticket receipt (Some other) put e =
    let go : (b : Bool)
    → (nat_eq other.ticket.0 ticket
    && (bytes_eq receipt.file other.file && bytes_eq receipt.content other.content)) ≡ b
    → cond b (Some other) None ≡ Some put
    → (receipt.file ≡ put.file) × (receipt.content ≡ put.content) = elim [
      | true ↦ λ is some.
          let same : other ≡ put = cc in
          let parts =
          and_parts (bytes_eq receipt.file other.file) (bytes_eq receipt.content other.content)
          (and_parts (nat_eq other.ticket.0 ticket) _ is).1 in (
            (bytes_eq-Decides receipt.file other.file).0 parts.0 ∙ ap (λ (p : Put). p.file) same,
            (bytes_eq-Decides receipt.content other.content).0 parts.1
                ∙ ap (λ (p : Put). p.content) same,
          )
      | false ↦ λ is none. absurd (cc)
    ] in
    go (nat_eq other.ticket.0 ticket
    && (bytes_eq receipt.file other.file && bytes_eq receipt.content other.content)) refl e

module _ {C B S : Type 0} (rules : Rules C B) (cut : C → Place → S) where
  -- all frames of a step are true
  abbrev AllTrue : Document S → Event S → Document S → List (ViewId × Frame) → Type 0
  AllTrue old event new frames = AllByRecursion (IsTrue rules old event new) frames

  -- frames that say of no save that it is done
  one_told : (old : Document S) (event : Event S) (new : Document S) (view : View)
      (damage : List Damage)
      → AllTrue old event new (map (λ d. (named view.id, Invalidate d.part d.rect)) damage)
  one_told old event new view [] = tt
  one_told old event new view (d ∷ ds) = (tt, one_told old event new view ds)

  all_told : (old : Document S) (event : Event S) (new : Document S) (views : List View)
      (damage : List Damage) → AllTrue old event new (told views damage)
  all_told old event new [] damage = tt
  all_told old event new (view ∷ views) damage =
      all_both (IsTrue rules old event new)
      (map (λ d. (named view.id, Invalidate d.part d.rect)) damage) (told views damage)
      (one_told old event new view damage) (all_told old event new views damage)

  all_replied : (old : Document S) (event : Event S) (new : Document S) (id : ℕ)
      (frames : List Frame) → AllByRecursion IsPlain frames
      → AllTrue old event new (map (λ frame. (named id, frame)) frames)
  all_replied old event new id [] plain = tt
  all_replied old event new id (Tile key version wid rgba ∷ frames) plain = absurd (plain.0)
  all_replied old event new id (Server ∷ frames) plain =
      (tt, all_replied old event new id frames plain.1)
  all_replied old event new id (Status kit parts size view readonly ∷ frames) plain =
      (tt, all_replied old event new id frames plain.1)
  all_replied old event new id (Invalidate part rect ∷ frames) plain =
      (tt, all_replied old event new id frames plain.1)
  all_replied old event new id (SaveDone inputs put ∷ frames) plain = absurd (plain.0)
  all_replied old event new id (Error command kind code ∷ frames) plain =
      (tt, all_replied old event new id frames plain.1)

  views_tiles : (old : Document S) (event : Event S) (new d : Document S) (n : ℕ) (key : Place)
      (views : List View) → AllTrue old event new (flat_map (tile_for rules d n key) views)
  views_tiles old event new d n key [] = tt
  views_tiles old event new d n key (view ∷ views) =
      all_both (IsTrue rules old event new) (tile_for rules d n key view)
      (flat_map (tile_for rules d n key) views)
      (elim (takes rules d n key view) as
      (λ b. AllTrue old event new (cond b (tile_frame rules d n key view ∷ []) []))
      [ true ↦ (tt, tt) | false ↦ tt ])
      (views_tiles old event new d n key views)

  all_tiles : (old : Document S) (event : Event S) (new d : Document S) (n : ℕ) (keys : List Place)
      (views : List View) → AllTrue old event new (tiles_for rules d n keys views)
  all_tiles old event new d n [] views = tt
  all_tiles old event new d n (key ∷ keys) views =
      all_both (IsTrue rules old event new) (flat_map (tile_for rules d n key) views)
      (tiles_for rules d n keys (map (offered rules d n key) views))
      (views_tiles old event new d n key views)
      (all_tiles old event new d n keys (map (offered rules d n key) views))

  -- those of a turn that serves the ready saves
  serve_true : (old new : Document S) (outs : Outs S) → IsKept rules cut old
      → Serves rules old outs new → AllTrue old Turned new outs.frames
  serve_true old new outs kept serves =
      let s : Saving = old.saving in
      let last : ℕ = last_stored s in
      let same : new.saving.stored ≡ s.stored =
      ap (λ (d : Document S). d.saving.stored) serves.new_is
      ∙ begun_stored (errand_for old.applied old.file (text_at rules old old.applied) s)
      (record s { saves = left_over old.applied last s.saves }) in
      let Q : ViewId → Type 0 = λ id. IsSaved rules old Turned new id old.applied false in
      let each : AllByRecursion Q (unmodified old.applied s) =
      views_all Q (is_unmodified old.applied last) s.saves
      (λ save has passes id of_view.
      let parts =
      and_parts (is_ready_save old.applied save)
      (save.skip && nat_eq last old.applied) passes in
      let skips = and_parts save.skip (nat_eq last old.applied) parts.1 in
      let full : last ≡ old.applied = eqb-true last old.applied skips.1 in
      record {
        save = save;
        place = has.0;
        waited = has.1;
        of_view = of_view;
        mark = leb-true save.mark old.applied
            (and_parts (not save.bound) (nat_le save.mark old.applied) parts.0).1;
        past = omega arith;
        stored = ap (λ (numbers : List ℕ). list_any (nat_eq old.applied) numbers) same
            ∙ ap (λ (n : ℕ). list_any (nat_eq n) s.stored) (sym full)
            ∙ last_in s.stored kept.saving.loaded;
        by = (skips.0, record { event_is = refl; applied = refl; last = full });
      }) in
      subst (λ (o : Outs S). AllTrue old Turned new o.frames) (sym serves.outs_are)
      (all_map (IsTrue rules old Turned new) (λ id. (id, SaveDone old.applied false))
      (filter (λ (id : ViewId). is_live old.views id.0) (unmodified old.applied s))
      (all_filter Q (λ (id : ViewId). is_live old.views id.0) (unmodified old.applied s) each))

  -- those of a receipt, or of a fault
  put_true : (old new : Document S) (ticket : ℕ) (result : Result Receipt StoreFault)
      → IsKept rules cut old
      → new ≡ record old { saving = answered ticket (receipt_of result) old.saving }
      → AllTrue old (PutAnswered ticket result) new
      (ending_frames old.views result (answers ticket (receipt_of result) old.saving))
  put_true old new ticket (Err fault) kept new_is =
      ending_all (IsTrue rules old (PutAnswered ticket (Err fault)) new) old.views (Err fault)
      (answers ticket None old.saving) (λ id number. tt)
  put_true old new ticket (Ok receipt) kept new_is =
      let s : Saving = old.saving in
      let go : (o : Option Put) → answered_put ticket (Some receipt) s.put ≡ o
      → AllTrue old (PutAnswered ticket (Ok receipt)) new
      (ending_frames old.views (Ok receipt) (endings o true s.saves)) = elim [
        | None ↦ λ e. tt
        | Some put ↦ λ e.
            let under : s.put ≡ Some put = under_way ticket (Some receipt) s.put put e in
            let mine : IsPutKept rules old (Some put) =
            subst (IsPutKept rules old) under kept.saving.put in
            let bound : AllByRecursion (IsBoundTo (Some put)) s.saves =
            subst (λ o. AllByRecursion (IsBoundTo o) s.saves) under kept.saving.bound in
            let is_for = for_put ticket receipt s.put put e in
            let stored_is : new.saving.stored ≡ s.stored ++ put.number ∷ [] =
            ap (λ (d : Document S). d.saving.stored) new_is
            ∙ ap (λ (o : Option Put). (ended o true s).stored) e in
            frames_all (IsTrue rules old (PutAnswered ticket (Ok receipt)) new) old.views
            (Ok receipt) put.number (λ save. save.bound) s.saves
            (λ save has is_bound id of_view. record {
              save = save;
              place = has.0;
              waited = has.1;
              of_view = of_view;
              mark = all_get (IsBoundTo (Some put)) s.saves has.0 save bound has.1 is_bound;
              past = mine.0;
              stored = ap (λ (numbers : List ℕ). list_any (nat_eq put.number) numbers) stored_is
                  ∙ behind_in put.number s.stored;
              by = (
                is_bound,
                record {
                  ticket = ticket;
                  receipt = receipt;
                  event_is = refl;
                  file_is = is_for.0 ∙ mine.1;
                  content_is = is_for.1 ∙ mine.2;
                  stored_is = stored_is;
                },
              );
            })
      ] in
      go (answered_put ticket (Some receipt) s.put) refl

  works_true : (old new : Document S) (outs : Outs S) → IsKept rules cut old
      → Works rules cut old outs new → AllTrue old Turned new outs.frames
  works_true old new outs kept works =
      elim works [
        | inl serves ↦ serve_true old new outs kept serves
        | inr later ↦ elim later [
          | inl applies ↦
              subst (λ (o : Outs S). AllTrue old Turned new o.frames) (sym applies.outs_are)
              (all_told old Turned new old.views
              (rules.hurt (doc rules old.base old.journal old.applied) applies.input))
          | inr other ↦ elim other [
            | inl sends ↦
                subst (λ (o : Outs S). AllTrue old Turned new o.frames) (sym sends.outs_are)
                (tt, tt)
            | inr cuts ↦
                subst (λ (o : Outs S). AllTrue old Turned new o.frames) (sym cuts.outs_are) tt
          ]
        ]
      ]

  turn_true : (old new : Document S) (turned : TurnAnswer S) (outs : Outs S) → IsKept rules cut old
      → TurnsTo rules cut old turned new → outs ≡ outs_of turned
      → AllTrue old Turned new outs.frames
  turn_true old new (Worked given) outs kept turn are =
      subst (λ (o : Outs S). AllTrue old Turned new o.frames) (sym are)
      (works_true old new given kept turn)
  turn_true old new Idle outs kept turn are =
      subst (λ (o : Outs S). AllTrue old Turned new o.frames) (sym are) tt

  join_true : (old new : Document S) (rights : Rights) (outs : Outs S) (b : Bool)
      → JoinsWhere b rules old rights outs new → AllTrue old (Joined rights) new outs.frames
  join_true old new rights outs true joins =
      subst (λ (o : Outs S). AllTrue old (Joined rights) new o.frames) (sym joins.0) (tt, tt)
  join_true old new rights outs false joins =
      subst (λ (o : Outs S). AllTrue old (Joined rights) new o.frames) (sym joins.0) tt

  paints_true : (old new : Document S) (ticket : ℕ) (scene : S) (outs : Outs S)
      (job : Option (Job S)) → Paints rules old ticket scene outs new job
      → AllTrue old (Painted ticket scene) new outs.frames
  paints_true old new ticket scene outs None paint =
      subst (λ (o : Outs S). AllTrue old (Painted ticket scene) new o.frames) (sym paint.0) tt
  paints_true old new ticket scene outs (Some job) paint =
      elim paint [
        | inl other ↦
            subst (λ (o : Outs S). AllTrue old (Painted ticket scene) new o.frames) (sym other.1) tt
        | inr taken ↦
            subst (λ (o : Outs S). AllTrue old (Painted ticket scene) new o.frames) (sym taken.1)
            (all_tiles old (Painted ticket scene) new old job.number job.keys old.views)
      ]

  -- each frame of a step that says that a save is done is true
  pub steps_true : (old new : Document S) (event : Event S) (outs : Outs S) → IsKept rules cut old
      → Step rules cut old event outs new → AllByRecursion (IsTrue rules old event new) outs.frames
  steps_true old new (Joined rights) outs kept step =
      join_true old new rights outs (nat_lt (length old.views) MOST_VIEWS) step
  steps_true old new (Left view) outs kept step =
      subst (λ (o : Outs S). AllTrue old (Left view) new o.frames) (sym step.0) tt
  steps_true old new (Said id text) outs kept step =
      let e : Effect = effect rules old step.view text in
      let of_view : IsViewKept rules old step.view =
      found_view (IsViewKept rules old) old.views id step.view kept.each step.live in
      let good : IsGood rules old step.view e = effect_good rules old step.view of_view text in
      subst (λ (o : Outs S). AllTrue old (Said id text) new o.frames) (sym step.outs_are)
      (all_replied old (Said id text) new id e.frames good.frames)
  steps_true old new Turned outs kept step = turn_true old new step.0 outs kept step.1 step.2
  steps_true old new (Painted ticket scene) outs kept step =
      paints_true old new ticket scene outs (find_job old.jobs ticket) step
  steps_true old new (PutAnswered ticket result) outs kept step =
      subst (λ (o : Outs S). AllTrue old (PutAnswered ticket result) new o.frames) (sym step.0)
      (put_true old new ticket result kept step.1)
