-- What holds of a document's saves stays, whatever becomes of them.
use Rattle.std.proofs.Common.{◌≡◌, ◌≢◌, ℕ, zero, suc, ◌+◌, ◌-◌, ◌<◌, ◌≤◌, Bool, true, false, not, ◌&&◌, ◌||◌, cond, nat_eq, nat_le, List, [], ◌∷◌, ◌++◌, length, map, filter, Option, None, Some, is_none, is_some, unwrap_or, option_map, refl, ap, sym, subst, ◌∙◌, arith, length-append, append-nil}
use Rattle.std.specs.Prelude.{slice_get}
use Rattle.std.specs.List.{list_any, AllByRecursion}
use Rattle.std.proofs.lemmas.Bool.{and_parts, or_parts, eqb-true, leb-true}
use Rattle.std.proofs.lemmas.Bool.Decides.{nat_tests}
use Rattle.std.proofs.lemmas.List.Elements.{filter-append}
use Rattle.std.proofs.lemmas.List.Folds.{list_any-append}
use Rattle.cool_base.specs.declared.ids.ViewId.{ViewId}
use Rattle.kit_trait.specs.Rules.{Rules, doc}
use Rattle.kit_trait.specs.declared.values.Input.{Input}
use Rattle.outside.specs.declared.errands.Errand.{Errand}
use Rattle.save_core.proofs.Bound.{AreBound, served_bound, answered_bound, waits_bound}
use Rattle.save_core.specs.Saving.{Saving, begun, bound_to, ended, final_with, final_waits, has_mark, is_full, is_of, is_ready_save, is_unmodified, last_stored, left_over, stored_with, token_for, token_kept, waits}
use Rattle.save_core.specs.declared.values.Put.{Put}
use Rattle.save_core.specs.declared.values.Save.{Save}
use Rattle.save_core.specs.declared.values.TheConstants.{MOST_SAVES}
use Rattle.document_machine.proofs.Lists.{all_push, all_filter, nat_eq_self}
use Rattle.document_machine.specs.Kept.{IsPutKept, IsSavingKept}
use Rattle.document_machine.specs.Message.{Effect, saving_after, with_save, with_token}
use Rattle.document_machine.specs.Outputs.{named}
use Rattle.document_machine.specs.Saves.{saving_left, saving_served, text_at, is_last_view, needs_final_save, has_ready_save}
use Rattle.document_machine.specs.State.{View, Job, Document}
use Rattle.document_laws.proofs.Heard.{Fits}
use Rattle.document_laws.proofs.KeptViews.{moved}
use Rattle.document_laws.proofs.Ordered.{weaker}

-- saves of one view, once one more waits
count_push : (view : ℕ) (saves : List Save) (save : Save)
    → length (filter (is_of (named view)) (saves ++ save ∷ []))
    ≡ length (filter (is_of (named view)) saves) + cond (is_of (named view) save) 1 0
count_push view saves save =
    let go : (b : Bool)
    → length (filter (is_of (named view)) saves ++ cond b (save ∷ []) [])
    ≡ length (filter (is_of (named view)) saves) + cond b 1 0 = elim [
      | true ↦ length-append (filter (is_of (named view)) saves) (save ∷ [])
      | false ↦ ap length (append-nil (filter (is_of (named view)) saves)) ∙ omega arith
    ] in
    ap length (filter-append (is_of (named view)) saves (save ∷ [])) ∙ go (is_of (named view) save)

-- no more of a view are left of those that a filter keeps
count_kept : (view : ℕ) (f : Save → Bool) (saves : List Save)
    → length (filter (is_of (named view)) (filter f saves))
    ≤ length (filter (is_of (named view)) saves)
count_kept view f [] = omega arith
count_kept view f (save ∷ saves) =
    let of : Save → Bool = is_of (named view) in
    let rest : length (filter of (filter f saves)) ≤ length (filter of saves) =
    count_kept view f saves in
    let go : (a b : Bool) → of save ≡ b
    → length (filter of (cond a (save ∷ filter f saves) (filter f saves)))
    ≤ length (cond b (save ∷ filter of saves) (filter of saves)) = elim [
      | true ↦ elim [
        | true ↦ λ e. rw e (omega (arith, rest))
        | false ↦ λ e. rw e (omega (arith, rest))
      ]
      | false ↦ elim [
        | true ↦ λ e. omega (arith, rest)
        | false ↦ λ e. rest
      ]
    ] in
    go (f save) (of save) refl

-- binding them changes no view
count_bound : (view applied : ℕ) (saves : List Save)
    → length (filter (is_of (named view)) (map (bound_to applied) saves))
    ≡ length (filter (is_of (named view)) saves)
count_bound view applied [] = refl
count_bound view applied (save ∷ saves) =
    let of : Save → Bool = is_of (named view) in
    let rest : length (filter of (map (bound_to applied) saves)) ≡ length (filter of saves) =
    count_bound view applied saves in
    let go : (b : Bool)
    → length (cond b (bound_to applied save ∷ filter of (map (bound_to applied) saves))
    (filter of (map (bound_to applied) saves)))
    ≡ length (cond b (save ∷ filter of saves) (filter of saves)) = elim [
      | true ↦ omega (arith, rest)
      | false ↦ rest
    ] in
    go (of save)

-- what holds of marks holds of those that are left
marks_left : (n applied last : ℕ) (saves : List Save) → AllByRecursion (λ save. save.mark ≤ n) saves
    → AllByRecursion (λ save. save.mark ≤ n) (left_over applied last saves)
marks_left n applied last [] all = tt
marks_left n applied last (save ∷ saves) all =
    let rest = marks_left n applied last saves all.1 in
    let go : (b : Bool)
    → AllByRecursion (λ (s : Save). s.mark ≤ n)
    (map (bound_to applied)
    (cond b (save ∷ filter (λ (s : Save). not (is_unmodified applied last s)) saves)
    (filter (λ (s : Save). not (is_unmodified applied last s)) saves))) = elim [
      | true ↦ (all.0, rest)
      | false ↦ rest
    ] in
    go (not (is_unmodified applied last save))

-- a save that stores all inputs is left, where the content stored last lacks some
mark_left : (n applied last : ℕ) (saves : List Save) → applied ≤ n → last ≢ n
    → list_any (λ save. nat_eq save.mark n) (left_over applied last saves) ≡ false
    → list_any (λ save. nat_eq save.mark n) saves ≡ false
mark_left n applied last [] le lacks off = refl
mark_left n applied last (save ∷ saves) le lacks off =
    let rest = mark_left n applied last saves le lacks in
    let go : (m r s l : Bool) → nat_eq save.mark n ≡ m
    → (not save.bound && nat_le save.mark applied) ≡ r → nat_eq last applied ≡ l
    → list_any (λ (s : Save). nat_eq s.mark n)
    (map (bound_to applied)
    (cond (not (r && (s && l)))
    (save ∷ filter (λ (s : Save). not (is_unmodified applied last s)) saves)
    (filter (λ (s : Save). not (is_unmodified applied last s)) saves))) ≡ false
    → (m || list_any (λ (s : Save). nat_eq s.mark n) saves) ≡ false = elim [
      | true ↦ elim [
        | true ↦ elim [
          | true ↦ elim [
            | true ↦ λ mark ready full e.
                let at : save.mark ≡ n = eqb-true save.mark n mark in
                let below : save.mark ≤ applied =
                leb-true save.mark applied
                (and_parts (not save.bound) (nat_le save.mark applied) ready).1 in
                let same : last ≡ applied = eqb-true last applied full in
                absurd (lacks (omega (arith, at, below, same, le)))
            | false ↦ λ mark ready full e. absurd
                (let no = (or_parts (nat_eq save.mark n) _ e).0 in cc)
          ]
          | false ↦ λ l mark ready full e. absurd
              (let no = (or_parts (nat_eq save.mark n) _ e).0 in cc)
        ]
        | false ↦ λ s l mark ready full e. absurd
            (let no = (or_parts (nat_eq save.mark n) _ e).0 in cc)
      ]
      | false ↦ elim [
        | true ↦ elim [
          | true ↦ elim [
            | true ↦ λ mark ready full e. rest e
            | false ↦ λ mark ready full e. rest (or_parts (nat_eq save.mark n) _ e).1
          ]
          | false ↦ λ l mark ready full e. rest (or_parts (nat_eq save.mark n) _ e).1
        ]
        | false ↦ λ s l mark ready full e. rest (or_parts (nat_eq save.mark n) _ e).1
      ]
    ] in
    go (nat_eq save.mark n) (is_ready_save applied save) save.skip
    (nat_eq last applied) refl refl refl off

-- the loaded file stays the first
pub first_stays : (stored : List ℕ) (n : ℕ) → slice_get stored 0 ≡ Some 0
    → slice_get (stored ++ n ∷ []) 0 ≡ Some 0
first_stays [] n e = absurd (cc)
first_stays (m ∷ ms) n e = e

-- what is at a place of numbers that are all at most n, or nothing, is at most n
at_most : (n : ℕ) (numbers : List ℕ) (place : ℕ) → AllByRecursion (λ m. m ≤ n) numbers
    → unwrap_or (slice_get numbers place) 0 ≤ n
at_most n [] place all = omega arith
at_most n (m ∷ ms) zero all = all.0
at_most n (m ∷ ms) (suc place) all = at_most n ms place all.1

-- no put
none_is : (o : Option Put) → is_none o ≡ true → o ≡ None
none_is None e = refl
none_is (Some put) e = absurd (cc)

-- a view that has not too many saves has fewer than the most
not_full : (n : ℕ) → nat_le MOST_SAVES n ≡ false → n < MOST_SAVES
not_full n e = grind (arith, nat_tests)

-- a token changes no save
pub token_saves : (inputs : List Input) (token : List ℕ) (s : Saving)
    → (with_token inputs token s).saves ≡ s.saves
token_saves [] token s = refl
token_saves (input ∷ inputs) token s = refl

module _ {C B S : Type 0} (rules : Rules C B) (d : Document S) where
  -- a put that is kept is kept where no fewer inputs are applied and the document after those that
  -- were is the same
  put_moved : (journal : List Input) (applied : ℕ) (views : List View) (next_view : ℕ)
      (jobs : List (Job S)) (ticket : ℕ) (saving : Saving) (put : Option Put) → d.applied ≤ applied
      → ((n : ℕ) → n ≤ d.applied → doc rules d.base d.journal n ≡ doc rules d.base journal n)
      → d.saving.next_ticket ≤ saving.next_ticket
      → IsPutKept rules d put
      → IsPutKept rules (moved rules d journal applied views next_view jobs ticket saving) put
  put_moved journal applied views next_view jobs ticket saving None le docs tickets kept = tt
  put_moved journal applied views next_view jobs ticket saving (Some put) le docs tickets kept =
      let past : put.number ≤ d.applied = kept.0 in
      let below : put.ticket.0 < d.saving.next_ticket = kept.3 in (
        omega arith,
        kept.1,
        kept.2
            ∙ ap (λ c. rules.text (rules.body c)) (docs put.number past),
        omega arith,
      )

  module _ (level : d.applied ≤ length d.journal) (kept : IsSavingKept rules d) where
    -- the same saves, where no fewer inputs are applied
    pub same_saving : (applied : ℕ) (views : List View) (next_view : ℕ) (jobs : List (Job S))
        (ticket : ℕ) → d.applied ≤ applied
        → IsSavingKept rules (moved rules d d.journal applied views next_view jobs ticket d.saving)
    same_saving applied views next_view jobs ticket le = record {
      loaded = kept.loaded;
      stored = weaker (λ n. n ≤ d.applied) (λ n. n ≤ applied) d.saving.stored
          (λ n past. omega arith) kept.stored;
      marks = kept.marks;
      put = put_moved d.journal applied views next_view jobs ticket d.saving d.saving.put le
          (λ n past. refl) (omega arith) kept.put;
      bound = kept.bound;
      few = kept.few;
      token = kept.token;
      room = kept.room;
    }

    -- the same saves, with inputs behind those that there were: the token of the last one is kept
    heard_saving : (views : List View) (inputs : List Input) (token : List ℕ)
        → ((n : ℕ) → n ≤ d.applied
        → doc rules d.base d.journal n ≡ doc rules d.base (d.journal ++ inputs) n)
        → IsSavingKept rules
        (moved rules d (d.journal ++ inputs) d.applied views d.next_view d.jobs d.next_ticket
        (with_token inputs token d.saving))
    heard_saving views [] token docs =
        subst (λ journal. IsSavingKept rules
        (moved rules d journal d.applied views d.next_view d.jobs d.next_ticket d.saving))
        (sym (append-nil d.journal))
        (same_saving d.applied views d.next_view d.jobs d.next_ticket (omega arith))
    heard_saving views (input ∷ inputs) token docs =
        let longer : length (d.journal ++ input ∷ inputs)
        ≡ length d.journal + length (input ∷ inputs) =
        length-append d.journal (input ∷ inputs) in
        record {
          loaded = kept.loaded;
          stored = kept.stored;
          marks = weaker (λ save. save.mark ≤ length d.journal)
              (λ save. save.mark ≤ length (d.journal ++ input ∷ inputs)) d.saving.saves
              (λ save below. omega (arith, below, longer)) kept.marks;
          put = put_moved
              (d.journal ++ input ∷ inputs) d.applied views d.next_view d.jobs d.next_ticket
              (token_kept token d.saving) d.saving.put (omega arith) docs (omega arith) kept.put;
          bound = kept.bound;
          few = kept.few;
          token = λ none. absurd (cc);
          room = λ lacks none. refl;
        }

    -- the answer to a put: that under way, or none
    pub ended_saving : (o : Option Put) (stored : Bool)
        → ((put : Put) → o ≡ Some put → d.saving.put ≡ Some put)
        → IsSavingKept rules (record d { saving = ended o stored d.saving })
    ended_saving None stored under = kept
    ended_saving (Some put) stored under =
        let mine : IsPutKept rules d (Some put) =
        subst (IsPutKept rules d) (under put refl) kept.put in
        let past : put.number ≤ d.applied = mine.0 in
        let all : AllByRecursion (λ n. n ≤ d.applied)
        (stored_with stored put.number d.saving.stored) =
        elim stored as
        (λ b. AllByRecursion (λ n. n ≤ d.applied) (stored_with b put.number d.saving.stored)) [
          | true ↦ all_push (λ n. n ≤ d.applied) d.saving.stored put.number kept.stored past
          | false ↦ kept.stored
        ] in
        record {
          loaded = elim stored as
              (λ b. slice_get (stored_with b put.number d.saving.stored) 0 ≡ Some 0) [
                | true ↦ first_stays d.saving.stored put.number kept.loaded
                | false ↦ kept.loaded
              ];
          stored = all;
          marks = all_filter (λ save. save.mark ≤ length d.journal)
              (λ save. not save.bound) d.saving.saves kept.marks;
          put = tt;
          bound = answered_bound (Some put) stored d.saving kept.bound;
          few = λ view.
              let fewer : length
              (filter (is_of (named view)) (filter (λ save. not save.bound) d.saving.saves))
              ≤ length (filter (is_of (named view)) d.saving.saves) =
              count_kept view (λ save. not save.bound) d.saving.saves in
              omega (arith, fewer, kept.few view);
          token = kept.token;
          room = λ lacks none.
              let go : (o : Option (List ℕ)) → d.saving.last_token ≡ o → is_some o ≡ true = elim [
                | None ↦ λ e.
                    let empty : length d.journal ≡ 0 = ap length (kept.token e) in
                    let now : List ℕ = stored_with stored put.number d.saving.stored in
                    let last : unwrap_or (slice_get now (length now - 1)) 0 ≤ d.applied =
                    at_most d.applied now (length now - 1) all in
                    absurd (lacks (omega (arith, empty, last, level)))
                | Some token ↦ λ e. refl
              ] in
              go d.saving.last_token refl;
        }

    -- the ready saves are served
    pub served_saving : has_ready_save d ≡ true
        → IsSavingKept rules (record d { saving = saving_served rules d })
    served_saving ready =
        let s : Saving = d.saving in
        let last : ℕ = last_stored s in
        let content : List ℕ = text_at rules d d.applied in
        let left : Saving = record s { saves = left_over d.applied last s.saves } in
        let errand : List ℕ → Errand =
        λ token. record {
          ticket = record { 0 = s.next_ticket };
          file = d.file;
          token = token;
          content =
              content;
          number = d.applied;
        } in
        let free : s.put ≡ None =
        none_is s.put
        (and_parts (is_none s.put) (list_any (is_ready_save d.applied) s.saves) ready).0 in
        let few : (view : ℕ)
        → length (filter (is_of (named view)) (left_over d.applied last s.saves)) ≤ MOST_SAVES =
        λ view.
        omega (
          arith,
          count_bound view d.applied
              (filter (λ save. not (is_unmodified d.applied last save)) s.saves),
          count_kept view
              (λ save. not (is_unmodified d.applied last save)) s.saves,
          kept.few view,
        ) in
        let marks : AllByRecursion (λ save. save.mark ≤ length d.journal)
        (left_over d.applied last s.saves) =
        marks_left (length d.journal) d.applied last s.saves kept.marks in
        let room : last ≢ length d.journal → has_mark (length d.journal) left ≡ false
        → s.has_room ≡ true =
        λ lacks none. kept.room lacks
        (mark_left (length d.journal) d.applied last s.saves level lacks none) in
        let go : (o : Option (List ℕ)) → AreBound (begun (option_map errand o) left)
        → IsSavingKept rules (record d { saving = begun (option_map errand o) left }) = elim [
          | None ↦ λ bound. record {
            loaded = kept.loaded;
            stored = kept.stored;
            marks = marks;
            put = put_moved d.journal d.applied d.views d.next_view d.jobs d.next_ticket left s.put
                (omega arith) (λ n past. refl) (omega arith) kept.put;
            bound = bound;
            few = few;
            token = kept.token;
            room = room;
          }
          | Some token ↦ λ bound. record {
            loaded = kept.loaded;
            stored = kept.stored;
            marks = marks;
            put = (omega arith, refl, refl, omega arith);
            bound = bound;
            few = few;
            token = kept.token;
            room = room;
          }
        ] in
        go (token_for d.applied last s.saves)
        (served_bound d.applied d.file content s free kept.bound)

    -- one more save waits
    wait_saving : (view : Option ViewId) (mark : ℕ) (skip : Bool) (token : List ℕ)
        → mark ≤ length d.journal
        → ((v : ℕ) → length (filter (is_of (named v)) (waits view mark skip token d.saving).saves)
        ≤ MOST_SAVES)
        → IsSavingKept rules (record d { saving = waits view mark skip token d.saving })
    wait_saving view mark skip token below few =
        let save : Save =
        record { view = view; mark = mark; skip = skip; token = token; bound = false } in
        record {
          loaded = kept.loaded;
          stored = kept.stored;
          marks = all_push (λ s. s.mark ≤ length d.journal) d.saving.saves save kept.marks below;
          put = put_moved d.journal d.applied d.views d.next_view d.jobs d.next_ticket
              (waits view mark skip token d.saving) d.saving.put (omega arith) (λ n past. refl)
              (omega arith) kept.put;
          bound = waits_bound d.saving.put d.saving.saves save refl kept.bound;
          few = few;
          token = kept.token;
          room = λ lacks none. kept.room lacks
              (or_parts (has_mark (length d.journal) d.saving) _
              (sym (list_any-append (λ s. nat_eq s.mark (length d.journal)) d.saving.saves
              (save ∷ [])) ∙ none)).0;
        }

    -- a save of a view that has not too many
    pub view_waits : (id mark : ℕ) (skip : Bool) (token : List ℕ) → mark ≤ length d.journal
        → is_full (Some (named id)) d.saving.saves ≡ false
        → IsSavingKept rules
        (record d { saving = waits (Some (named id)) mark skip token d.saving })
    view_waits id mark skip token below fits =
        let save : Save =
        record {
          view = Some (named id);
          mark = mark;
          skip = skip;
          token = token;
          bound =
              false;
        } in
        wait_saving (Some (named id)) mark skip token below
        (λ v.
        let go : (b : Bool) → nat_eq id v ≡ b
        → length (filter (is_of (named v)) (d.saving.saves ++ save ∷ []))
        ≡ length (filter (is_of (named v)) d.saving.saves) + cond b 1 0
        → length (filter (is_of (named v)) (d.saving.saves ++ save ∷ [])) ≤ MOST_SAVES = elim [
          | true ↦ λ same more.
              let is : id ≡ v = eqb-true id v same in
              let few : length (filter (is_of (named v)) d.saving.saves) < MOST_SAVES =
              subst (λ n. length (filter (is_of (named n)) d.saving.saves) < MOST_SAVES) is
              (not_full (length (filter (is_of (named id)) d.saving.saves)) fits) in
              omega (arith, more, few)
          | false ↦ λ other more. omega (arith, more, kept.few v)
        ] in
        go (nat_eq id v) refl (count_push v d.saving.saves save))

    -- a final save waits, which stores all inputs
    final_saving : (o : Option (List ℕ))
        → IsSavingKept rules (record d { saving = final_with (length d.journal) o d.saving })
    final_saving None = kept
    final_saving (Some token) =
        let n : ℕ = length d.journal in
        let save : Save =
        record { view = None; mark = n; skip = false; token = token; bound = false } in
        let waiting : IsSavingKept rules (record d { saving = waits None n false token d.saving }) =
        wait_saving None n false token (omega arith)
        (λ v. omega (arith, count_push v d.saving.saves save, kept.few v)) in
        record {
          loaded = waiting.loaded;
          stored = waiting.stored;
          marks = waiting.marks;
          put = put_moved d.journal d.applied d.views d.next_view d.jobs d.next_ticket
              (record (waits None n false token d.saving) { has_room = false }) d.saving.put
              (omega arith) (λ n past. refl) (omega arith) kept.put;
          bound = waiting.bound;
          few = waiting.few;
          token = waiting.token;
          room = λ lacks none.
              let parts =
              or_parts (has_mark n d.saving) (nat_eq n n || false)
              (sym (list_any-append (λ s. nat_eq s.mark n) d.saving.saves (save ∷ [])) ∙ none)
              in
              absurd (let no = (or_parts (nat_eq n n) false parts.1).0 in let yes = nat_eq_self n in
              cc);
        }

-- what holds of saves holds whatever the views are
views_saving : {C B S : Type 0} (rules : Rules C B) (d : Document S) (views : List View)
    → IsSavingKept rules d → IsSavingKept rules (record d { views = views })
views_saving rules d views kept = record {
  loaded = kept.loaded;
  stored = kept.stored;
  marks = kept.marks;
  put = put_moved rules d d.journal d.applied views d.next_view d.jobs d.next_ticket d.saving
      d.saving.put (omega arith) (λ n past. refl) (omega arith) kept.put;
  bound = kept.bound;
  few = kept.few;
  token = kept.token;
  room = kept.room;
}

module _ {C B S : Type 0} (rules : Rules C B) (d : Document S)
    (level : d.applied ≤ length d.journal) (kept : IsSavingKept rules d) where
  -- a view leaves
  pub left_saving : (id : ℕ) (views : List View)
      → IsSavingKept rules (record d { views = views; saving = saving_left d id })
  left_saving id views =
      elim (is_last_view d.views id && needs_final_save d) as
      (λ b. IsSavingKept rules
      (record d {
        views = views;
        saving =
            cond b (final_waits (length d.journal) d.saving) d.saving;
      })) [
        | true ↦ views_saving rules
            (record d { saving = final_waits (length d.journal) d.saving }) views
            (final_saving rules d level kept d.saving.last_token)
        | false ↦ views_saving rules d views kept
      ]

  -- a view's message
  pub hear_saving : (views : List View) (id : ℕ) (e : Effect)
      → ((n : ℕ) → n ≤ d.applied
      → doc rules d.base d.journal n ≡ doc rules d.base (d.journal ++ e.inputs) n)
      → Fits d.saving.saves id e.save
      → IsSavingKept rules
      (moved rules d (d.journal ++ e.inputs) d.applied views d.next_view d.jobs d.next_ticket
      (saving_after id (length d.journal) e d.saving))
  hear_saving views id e docs fits =
      let token : List ℕ = e.view.rights.token in
      let entered : Document S =
      moved rules d (d.journal ++ e.inputs) d.applied views d.next_view d.jobs d.next_ticket
      (with_token e.inputs token d.saving) in
      let is : IsSavingKept rules entered =
      heard_saving rules d level kept views e.inputs token docs in
      let longer : length (d.journal ++ e.inputs) ≡ length d.journal + length e.inputs =
      length-append d.journal e.inputs in
      let go : (o : Option Bool) → Fits d.saving.saves id o
      → IsSavingKept rules
      (record entered
      { saving = with_save o id (length d.journal) token (with_token e.inputs token d.saving) })
      = elim [
        | None ↦ λ fit. is
        | Some skip ↦ λ fit.
            view_waits rules entered (omega (arith, longer, level)) is id
            (length d.journal) skip token (omega (arith, longer))
            (subst (λ saves. is_full (Some (named id)) saves ≡ false)
            (sym (token_saves e.inputs token d.saving)) fit)
      ] in
      go e.save fits
