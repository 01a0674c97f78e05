-- In a run each stored content was put.
use Rattle.std.proofs.Common.{◌≡◌, ℕ, ◌<◌, ◌≤◌, Bool, true, false, ◌&&◌, cond, List, [], ◌∷◌, ◌++◌, length, Option, None, Some, Ok, Err, refl, ap, sym, subst, ◌∙◌, arith, inl, inr, append_assoc, append-nil}
use Rattle.std.specs.Prelude.{◌⊎◌, nat_lt, Result}
use Rattle.std.specs.List.{AllByRecursion}
use Rattle.kit_trait.specs.Rules.{Rules, doc}
use Rattle.kit_trait.specs.declared.values.Input.{Input}
use Rattle.outside.specs.declared.errands.Receipt.{Receipt}
use Rattle.outside.specs.declared.faults.StoreFault.{StoreFault}
use Rattle.save_core.proofs.Bound.{under_way}
use Rattle.save_core.specs.Saving.{Saving, answered, answered_put, ended, errand_for, final_waits, final_with, last_stored, left_over}
use Rattle.save_core.specs.declared.values.Put.{Put}
use Rattle.tile_key.specs.Places.{Place}
use Rattle.document_machine.proofs.Lists.{all_push}
use Rattle.document_machine.specs.Due.{parts_of}
use Rattle.document_machine.specs.Event.{Event, Joined, Left, Said, Turned, Painted, PutAnswered}
use Rattle.document_machine.specs.Kept.{IsKept, IsPutKept}
use Rattle.document_machine.specs.Message.{Effect, effect, with_save, with_token}
use Rattle.document_machine.specs.Run.{Segment}
use Rattle.document_machine.specs.Saves.{is_last_view, needs_final_save, receipt_of, saving_left, text_at}
use Rattle.document_machine.specs.State.{Job, Document, find_job, opening}
use Rattle.document_machine.specs.Step.{JoinsWhere, Works, TurnsTo, Paints, Step}
use Rattle.document_machine.specs.declared.limits.TheConstants.{MOST_VIEWS}
use Rattle.document_machine.specs.declared.outs.Outs.{Outs}
use Rattle.document_machine.specs.declared.outs.Turned.{Turned as TurnAnswer}
use Rattle.document_machine.specs.declared.outs.Turned.TheVariants.{Worked, Idle}
use Rattle.document_machine.specs.declared.rights.Rights.{Rights}
use Rattle.document_laws.specs.Saved.{ArePut, IsPut, WasPut}
use Rattle.document_laws.proofs.Kept.{opening_keeps, steps_keep}
use Rattle.document_laws.proofs.Ordered.{both, weaker}
use Rattle.document_laws.proofs.Saved.{begun_stored, for_put}
use Rattle.document_laws.proofs.Tiles.{doc_more, step_on}

-- a token, a save and a final save store nothing
token_stored : (inputs : List Input) (token : List ℕ) (s : Saving)
    → (with_token inputs token s).stored ≡ s.stored
token_stored [] token s = refl
token_stored (input ∷ inputs) token s = refl

save_stored : (o : Option Bool) (id mark : ℕ) (token : List ℕ) (s : Saving)
    → (with_save o id mark token s).stored ≡ s.stored
save_stored None id mark token s = refl
save_stored (Some skip) id mark token s = refl

final_stored : (mark : ℕ) (o : Option (List ℕ)) (s : Saving)
    → (final_with mark o s).stored ≡ s.stored
final_stored mark None s = refl
final_stored mark (Some token) s = refl

-- what was put in a run was put in a longer one
pub put_more : {S : Type 0} (events : List (Event S)) (event : Event S) (file content : List ℕ)
    → WasPut events file content → WasPut (events ++ event ∷ []) file content
put_more events event file content is = record {
  before = is.before;
  ticket = is.ticket;
  receipt = is.receipt;
  behind = is.behind ++ event ∷ [];
  split = ap (λ es. es ++ event ∷ []) is.split
      ∙ append_assoc is.before (PutAnswered is.ticket (Ok is.receipt) ∷ is.behind) (event ∷ []);
  file_is = is.file_is;
  content_is = is.content_is;
}

module _ {C B S : Type 0} (rules : Rules C B) (cut : C → Place → S) where
  -- a step stores nothing, or the content of the put that a receipt came for
  abbrev Stores : Document S → Event S → Document S → Type 0
  Stores old event new = (new.saving.stored ≡ old.saving.stored)
      ⊎ ((number : ℕ) × (number ≤ old.applied) × IsPut rules old event new number)

  -- the file stays, and no fewer inputs are applied
  abbrev IsLater : Document S → Document S → Type 0
  IsLater old new = (new.file ≡ old.file) × (old.applied ≤ new.applied)

  same_later : (old : Document S) → IsLater old old
  same_later old = (refl, omega arith)

  works_store : (old new : Document S) (outs : Outs S) → Works rules cut old outs new
      → (new.saving.stored ≡ old.saving.stored) × IsLater old new
  works_store old new outs works =
      elim works [
        | inl serves ↦ (
          ap (λ (d : Document S). d.saving.stored) serves.new_is
              ∙ begun_stored
              (errand_for old.applied old.file (text_at rules old old.applied) old.saving)
              (record old.saving
              { saves = left_over old.applied (last_stored old.saving) old.saving.saves }),
          subst (IsLater old) (sym serves.new_is) (refl, omega arith),
        )
        | inr later ↦ elim later [
          | inl applies ↦ (
            ap (λ (d : Document S). d.saving.stored) applies.new_is,
            subst (IsLater old)
                (sym applies.new_is) (refl, omega arith),
          )
          | inr other ↦ elim other [
            | inl sends ↦ (
              ap (λ (d : Document S). d.saving.stored) sends.new_is,
              subst (IsLater old)
                  (sym sends.new_is) (refl, omega arith),
            )
            | inr cuts ↦ (
              ap (λ (d : Document S). d.saving.stored) cuts.new_is,
              subst (IsLater old)
                  (sym cuts.new_is) (refl, omega arith),
            )
          ]
        ]
      ]

  turn_stores : (old new : Document S) (turned : TurnAnswer S) → TurnsTo rules cut old turned new
      → (new.saving.stored ≡ old.saving.stored) × IsLater old new
  turn_stores old new (Worked outs) turn = works_store old new outs turn
  turn_stores old new Idle turn = (
    ap (λ (d : Document S). d.saving.stored) turn.1,
    subst (IsLater old) (sym turn.1)
        (same_later old),
  )

  join_stores : (old new : Document S) (rights : Rights) (outs : Outs S) (b : Bool)
      → JoinsWhere b rules old rights outs new
      → (new.saving.stored ≡ old.saving.stored) × IsLater old new
  join_stores old new rights outs true joins = (
    ap (λ (d : Document S). d.saving.stored) joins.1,
    subst (IsLater old) (sym joins.1)
        (refl, omega arith),
  )
  join_stores old new rights outs false joins = (
    ap (λ (d : Document S). d.saving.stored) joins.1,
    subst (IsLater old) (sym joins.1)
        (same_later old),
  )

  paints_store : (old new : Document S) (ticket : ℕ) (scene : S) (outs : Outs S)
      (job : Option (Job S)) → Paints rules old ticket scene outs new job
      → (new.saving.stored ≡ old.saving.stored) × IsLater old new
  paints_store old new ticket scene outs None paint = (
    ap (λ (d : Document S). d.saving.stored) paint.1,
    subst (IsLater old) (sym paint.1)
        (same_later old),
  )
  paints_store old new ticket scene outs (Some job) paint =
      elim paint [
        | inl other ↦ (
          ap (λ (d : Document S). d.saving.stored) other.2,
          subst (IsLater old) (sym other.2)
              (same_later old),
        )
        | inr taken ↦ (
          ap (λ (d : Document S). d.saving.stored) taken.2,
          subst (IsLater old) (sym taken.2)
              (refl, omega arith),
        )
      ]

  left_stored : (old : Document S) (id : ℕ) → (saving_left old id).stored ≡ old.saving.stored
  left_stored old id =
      elim (is_last_view old.views id && needs_final_save old) as
      (λ b. (cond b (final_waits (length old.journal) old.saving) old.saving).stored
      ≡ old.saving.stored) [
        | true ↦ final_stored (length old.journal) old.saving.last_token old.saving
        | false ↦ refl
      ]

  put_stores : (old new : Document S) (ticket : ℕ) (result : Result Receipt StoreFault)
      → IsKept rules cut old
      → new ≡ record old { saving = answered ticket (receipt_of result) old.saving }
      → Stores old (PutAnswered ticket result) new
  put_stores old new ticket (Err fault) kept new_is =
      let s : Saving = old.saving in
      let go : (o : Option Put) → (ended o false s).stored ≡ s.stored =
      elim [ None ↦ refl | Some put ↦ refl ] in
      inl (ap (λ (d : Document S). d.saving.stored) new_is ∙ go (answered_put ticket None s.put))
  put_stores old new ticket (Ok receipt) kept new_is =
      let s : Saving = old.saving in
      let go : (o : Option Put) → answered_put ticket (Some receipt) s.put ≡ o
      → Stores old (PutAnswered ticket (Ok receipt)) new = elim [
        | None ↦ λ e. inl
            (ap (λ (d : Document S). d.saving.stored) new_is
            ∙ ap (λ (o : Option Put). (ended o true s).stored) e)
        | Some put ↦ λ e.
            let mine : IsPutKept rules old (Some put) =
            subst (IsPutKept rules old)
            (under_way ticket (Some receipt) s.put put e) kept.saving.put in
            let is_for = for_put ticket receipt s.put put e in
            inr (
              put.number,
              mine.0,
              record {
                ticket = ticket;
                receipt = receipt;
                event_is = refl;
                file_is = is_for.0 ∙ mine.1;
                content_is = is_for.1 ∙ mine.2;
                stored_is =
                    ap (λ (d : Document S). d.saving.stored) new_is
                    ∙ ap (λ (o : Option Put). (ended o true s).stored) e;
              },
            )
      ] in
      go (answered_put ticket (Some receipt) s.put) refl

  step_stores : (old new : Document S) (event : Event S) (outs : Outs S) → IsKept rules cut old
      → Step rules cut old event outs new → Stores old event new × IsLater old new
  step_stores old new (Joined rights) outs kept step = let is =
      join_stores old new rights outs (nat_lt (length old.views) MOST_VIEWS) step in
      (inl is.0, is.1)
  step_stores old new (Left id) outs kept step = (
    inl (ap (λ (d : Document S). d.saving.stored) step.1 ∙ left_stored old id),
    subst
        (IsLater old) (sym step.1) (refl, omega arith),
  )
  step_stores old new (Said id text) outs kept step =
      let e : Effect = effect rules old step.view text in
      let token : List ℕ = e.view.rights.token in (
        inl (ap (λ (d : Document S). d.saving.stored) step.new_is
            ∙ save_stored e.save id (length old.journal) token
            (with_token e.inputs token old.saving) ∙ token_stored e.inputs token old.saving),
        subst (IsLater old) (sym step.new_is) (refl, omega arith),
      )
  step_stores old new Turned outs kept step = let is =
      turn_stores old new step.0 step.1 in (inl is.0, is.1)
  step_stores old new (Painted ticket scene) outs kept step = let is =
      paints_store old new ticket scene outs (find_job old.jobs ticket) step in (inl is.0, is.1)
  step_stores old new (PutAnswered ticket result) outs kept step = (
    put_stores old new ticket result kept step.1,
    subst (IsLater old) (sym step.1)
        (refl, omega arith),
  )

  -- the text after inputs that are applied stays
  text_stays : (old new : Document S) (event : Event S) (outs : Outs S) → IsKept rules cut old
      → Step rules cut old event outs new → (n : ℕ) → n ≤ old.applied
      → text_at rules new n ≡ text_at rules old n
  text_stays old new event outs kept step n past =
      let on = step_on rules cut old new event outs step in
      let level : old.applied ≤ length old.journal = kept.level in
      ap (λ base. rules.text (rules.body (doc rules base new.journal n))) on.0
      ∙ ap (λ journal. rules.text (rules.body (doc rules old.base journal n))) on.2
      ∙ ap (λ c. rules.text (rules.body c))
      (doc_more rules old.base old.journal on.1 n (omega arith))

  -- a step
  step_put : (before : List (Event S)) (old new : Document S) (event : Event S) (outs : Outs S)
      → IsKept rules cut old → Step rules cut old event outs new → ArePut rules before old
      → ArePut rules (before ++ event ∷ []) new
  step_put before old new event outs kept step was =
      let stores = step_stores old new event outs kept step in
      let file : new.file ≡ old.file = stores.1.0 in
      let more : old.applied ≤ new.applied = stores.1.1 in
      let text : (n : ℕ) → n ≤ old.applied → text_at rules new n ≡ text_at rules old n =
      text_stays old new event outs kept step in
      let After : ℕ → Type 0 = λ n. WasPut (before ++ event ∷ []) new.file (text_at rules new n) in
      let past : AllByRecursion (λ n. n ≤ new.applied) was.later =
      weaker (λ n. n ≤ old.applied) (λ n. n ≤ new.applied) was.later
      (λ n le. omega arith) was.past in
      let put : AllByRecursion After was.later =
      both (λ n. n ≤ old.applied)
      (λ n. WasPut before old.file (text_at rules old n)) After was.later
      (λ n le is.
      subst (λ f. WasPut (before ++ event ∷ []) f (text_at rules new n)) (sym file)
      (subst (WasPut (before ++ event ∷ []) old.file) (sym (text n le))
      (put_more before event old.file (text_at rules old n) is))) was.past was.put in
      elim stores.0 [
        | inl same ↦
            record { later = was.later; stored_are = same ∙ was.stored_are; past = past; put = put }
        | inr one ↦
            let number : ℕ = one.0 in
            let le : number ≤ old.applied = one.1 in
            let now : After number = record {
              before = before;
              ticket = one.2.ticket;
              receipt = one.2.receipt;
              behind = [];
              split = ap (λ (e : Event S). before ++ e ∷ []) one.2.event_is;
              file_is = one.2.file_is ∙ sym file;
              content_is = one.2.content_is ∙ sym (text number le);
            } in
            record {
              later = was.later ++ number ∷ [];
              stored_are = one.2.stored_is ∙ ap (λ numbers. numbers ++ number ∷ []) was.stored_are;
              past = all_push (λ n. n ≤ new.applied) was.later number past
                  (omega (arith, le, more));
              put = all_push After was.later number put now;
            }
      ]

  -- a run that goes on
  run_put : ((base : List ℕ) → 0 < parts_of rules base)
      → (events before : List (Event S)) (old new : Document S) (outs : Outs S)
      → IsKept rules cut old → Segment rules cut old events outs new → ArePut rules before old
      → ArePut rules (before ++ events) new
  run_put some [] before old new outs kept run was =
      subst (λ es. ArePut rules es new) (sym (append-nil before))
      (subst (ArePut rules before) (sym run.1) was)
  run_put some (event ∷ events) before old new outs kept run was =
      subst (λ es. ArePut rules es new) (append_assoc before (event ∷ []) events)
      (run_put some events (before ++ event ∷ []) run.0 new run.2
      (steps_keep rules cut some old run.0 event run.1 run.3 kept) run.4
      (step_put before old run.0 event run.1 kept run.3 was))

  -- so all that is stored but the loaded file was put
  pub contents_were_put : ((base : List ℕ) → 0 < parts_of rules base)
      → (file base : List ℕ) (events : List (Event S)) (outs : Outs S) (d : Document S)
      → rules.accepts base ≡ true → Segment rules cut (opening file base) events outs d
      → ArePut rules events d
  contents_were_put some file base events outs d accepted run =
      run_put some events [] (opening file base) d outs
      (opening_keeps rules cut file base accepted) run
      (record { later = []; stored_are = refl; past = tt; put = tt })
