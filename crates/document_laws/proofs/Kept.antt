-- Every step keeps what a document keeps, and so every document that is reached keeps it.
use Rattle.std.proofs.Common.{◌≡◌, ℕ, ◌+◌, ◌/◌, ◌<◌, ◌≤◌, Bool, true, false, ◌&&◌, ◌||◌, cond, nat_eq, List, [], ◌∷◌, ◌++◌, length, Option, None, Some, is_some, refl, ap, sym, subst, ◌∙◌, arith, inl, inr, length-append}
use Rattle.std.specs.Prelude.{nat_lt}
use Rattle.std.specs.List.{list_any, AllByRecursion}
use Rattle.std.proofs.lemmas.Bool.{or_parts, ltb-true}
use Rattle.std.proofs.lemmas.Bool.Decides.{nat_tests}
use Rattle.std.proofs.lemmas.List.{take-append-le}
use Rattle.cool_base.specs.Points.{Rectangle, Extent, do_meet, intersection_of, nowhere}
use Rattle.kit_trait.specs.Rules.{Rules, after, doc}
use Rattle.kit_trait.specs.declared.values.Input.{Input}
use Rattle.outside.specs.declared.errands.Receipt.{Receipt}
use Rattle.save_core.proofs.Bound.{under_way}
use Rattle.save_core.specs.Saving.{Saving, answered, answered_put}
use Rattle.tile_key.specs.Places.{Place, IsGroup, place_of_keys, same_place}
use Rattle.tile_key.specs.Visible.{visible_keys, rows_of, is_too_large, tiles_to, whole_part}
use Rattle.tile_key.proofs.GridFacts.{rows_all}
use Rattle.document_machine.proofs.Lists.{all_push, holds_among}
use Rattle.document_machine.specs.Due.{parts_of, size_of, is_due, is_owed, is_lacking, is_out, version_of, visible, sent}
use Rattle.document_machine.specs.Event.{Event, Joined, Left, Said, Turned, Painted, PutAnswered}
use Rattle.document_machine.specs.Keys.{Pairwise, is_among}
use Rattle.document_machine.specs.Kept.{IsKept, IsSavingKept, IsViewKept, IsJobKept, ShareNone, AreApart}
use Rattle.document_machine.specs.Message.{Effect, effect, heard, saving_after}
use Rattle.document_machine.specs.Run.{Segment}
use Rattle.document_machine.specs.Saves.{has_ready_save, receipt_of, saving_left, saving_served}
use Rattle.document_machine.specs.State.{View, Job, Document, opening, opening_view, first_zoom, no_area, find_view, with_view, without_view, find_job, without_job}
use Rattle.document_machine.specs.Step.{JoinsWhere, Cuts, Works, TurnsTo, Paints, Step, views_offered}
use Rattle.document_machine.specs.declared.limits.TheConstants.{MOST_JOBS, MOST_VIEWS}
use Rattle.document_machine.specs.declared.outs.Outs.{Outs}
use Rattle.document_machine.specs.declared.outs.Turned.{Turned as TurnAnswer}
use Rattle.document_machine.specs.declared.outs.Turned.TheVariants.{Worked, Idle}
use Rattle.document_machine.specs.declared.rights.Rights.{Rights}
use Rattle.document_laws.proofs.Heard.{Fits, IsGood, effect_good, heard_is, keeps}
use Rattle.document_laws.proofs.KeptViews.{AreInOrder, pairwise_push, with_all, order_with, order_without, order_push, without_all, offers_order, offers_kept, sent_kept, moved, view_moved}
use Rattle.document_laws.proofs.KeyOrder.{same_is}
use Rattle.document_laws.proofs.Ordered.{all_both, all_by, weaker}
use Rattle.document_laws.proofs.Saving.{ended_saving, hear_saving, left_saving, same_saving, served_saving}
use Rattle.document_laws.proofs.Views.{found_id, found_view, some_input}

-- a view that joins sees nothing
no_meet : (size : Extent) → do_meet no_area (whole_part size) ≡ false
no_meet size = grind (arith, nat_tests)

sees_none : (size : Extent) → length (visible_keys 0 first_zoom no_area size) ≡ 0
unfolding visible_keys rows_of
sees_none size =
    let cut : intersection_of no_area (whole_part size) ≡ nowhere = rw (no_meet size) refl in
    ap (λ (s : Rectangle). length
    (rows_of 0 first_zoom (s.x / 3840) (tiles_to s.x (s.x + s.w) 3840) (s.y / 3840)
    (tiles_to s.y (s.y + s.h) 3840))) cut

-- jobs, all but the one with a ticket
pub job_without_all : {S : Type 0} (P : Job S → Type 0) (jobs : List (Job S)) (ticket : ℕ)
    → AllByRecursion P jobs → AllByRecursion P (without_job jobs ticket)
job_without_all P [] ticket all = tt
job_without_all P (j ∷ js) ticket all =
    elim (nat_eq j.ticket ticket) as
    (λ b. AllByRecursion P (cond b js (j ∷ without_job js ticket))) [
      | true ↦ all.1
      | false ↦ (all.0, job_without_all P js ticket all.1)
    ]

job_without_pairs : {S : Type 0} (R : Job S → Job S → Type 0) (jobs : List (Job S)) (ticket : ℕ)
    → Pairwise R jobs → Pairwise R (without_job jobs ticket)
job_without_pairs R [] ticket order = tt
job_without_pairs R (j ∷ js) ticket order =
    elim (nat_eq j.ticket ticket) as (λ b. Pairwise R (cond b js (j ∷ without_job js ticket))) [
      | true ↦ order.1
      | false ↦ (job_without_all (R j) js ticket order.0, job_without_pairs R js ticket order.1)
    ]

job_without_length : {S : Type 0} (jobs : List (Job S)) (ticket : ℕ)
    → length (without_job jobs ticket) ≤ length jobs
job_without_length [] ticket = omega arith
job_without_length (j ∷ js) ticket =
    elim (nat_eq j.ticket ticket) as
    (λ b. length (cond b js (j ∷ without_job js ticket)) ≤ length (j ∷ js)) [
      | true ↦ omega arith
      | false ↦ omega (arith, job_without_length js ticket)
    ]

-- what holds of each job holds of the one with a ticket
pub found_job : {S : Type 0} (P : Job S → Type 0) (jobs : List (Job S)) (ticket : ℕ) (job : Job S)
    → AllByRecursion P jobs → find_job jobs ticket ≡ Some job → P job
found_job P [] ticket job all e = absurd (cc)
found_job P (j ∷ js) ticket job all e =
    let go : (b : Bool) → cond b (Some j) (find_job js ticket) ≡ Some job → P job = elim [
      | true ↦ λ is. let same : j ≡ job = cc in subst P same all.0
      | false ↦ λ is. found_job P js ticket job all.1 is
    ] in
    go (nat_eq j.ticket ticket) e

-- a job whose keys are in no job out shares none with them
apart_push : {S : Type 0} (jobs : List (Job S)) (job : Job S) → AreApart jobs
    → AllByRecursion (λ key. is_out jobs key ≡ false) job.keys → AreApart (jobs ++ job ∷ [])
apart_push [] job apart free = (tt, tt)
apart_push (j ∷ js) job apart free =
    let here : ShareNone j job =
    weaker (λ key. is_out (j ∷ js) key ≡ false) (λ key. is_among j.keys key ≡ false) job.keys
    (λ key e. (or_parts (is_among j.keys key) (is_out js key) e).0) free in
    let rest : AllByRecursion (λ key. is_out js key ≡ false) job.keys =
    weaker (λ key. is_out (j ∷ js) key ≡ false) (λ key. is_out js key ≡ false) job.keys
    (λ key e. (or_parts (is_among j.keys key) (is_out js key) e).1) free in
    (all_push (ShareNone j) js job apart.0 here, apart_push js job apart.1 rest)

-- the jobs out are not too many, no key is in two of them, and their tickets rise and are below the
-- next one
record AreJobsInOrder {S : Type 0} (next_ticket : ℕ) (jobs : List (Job S)) : Type 0 where
  apart : AreApart jobs
  few : length jobs ≤ MOST_JOBS
  tickets : Pairwise (λ a b. a.ticket < b.ticket) jobs
  below : AllByRecursion (λ job. job.ticket < next_ticket) jobs

-- once one more is out
job_order_push : {S : Type 0} (jobs : List (Job S)) (job : Job S) → length jobs < MOST_JOBS
    → AllByRecursion (λ key. is_out jobs key ≡ false) job.keys → AreJobsInOrder job.ticket jobs
    → AreJobsInOrder (job.ticket + 1) (jobs ++ job ∷ [])
job_order_push jobs job few free o =
    let more : length (jobs ++ job ∷ []) ≡ length jobs + 1 = length-append jobs (job ∷ []) in
    let last : job.ticket < job.ticket + 1 = omega arith in
    record {
      apart = apart_push jobs job o.apart free;
      few = omega (arith, more, few);
      tickets = pairwise_push (λ a b. a.ticket < b.ticket) jobs job o.tickets o.below;
      below = all_push (λ j. j.ticket < job.ticket + 1) jobs job
          (weaker (λ j. j.ticket < job.ticket) (λ j. j.ticket < job.ticket + 1) jobs
          (λ j lt. omega arith) o.below) last;
    }

-- once one of them has come back
job_order_without : {S : Type 0} (next_ticket : ℕ) (jobs : List (Job S)) (ticket : ℕ)
    → AreJobsInOrder next_ticket jobs → AreJobsInOrder next_ticket (without_job jobs ticket)
job_order_without next_ticket jobs ticket o = record {
  apart = job_without_pairs ShareNone jobs ticket o.apart;
  few = omega (arith, job_without_length jobs ticket, o.few);
  tickets = job_without_pairs (λ a b. a.ticket < b.ticket) jobs ticket o.tickets;
  below = job_without_all (λ j. j.ticket < next_ticket) jobs ticket o.below;
}

-- the area of a group is in the part that its keys are in
area_part : (parts : ℕ) (keys : List Place) → IsGroup keys
    → AllByRecursion (λ key. key.part < parts) keys → (place_of_keys keys).part < parts
area_part parts [] group all = absurd group
area_part parts (p ∷ ps) group all = all.0

-- keys that a view sees are of its part
seen_parts : {C B S : Type 0} (rules : Rules C B) (d : Document S) (view : View)
    → AllByRecursion (λ key. key.part ≡ view.part) (visible rules d view)
unfolding visible_keys
seen_parts rules d view =
    let s : Rectangle = intersection_of view.area (whole_part (size_of rules d.base view.part)) in
    all_by (λ key. key.part ≡ view.part) (visible rules d view)
    (rows_all (λ key. key.part ≡ view.part) view.part view.zoom (s.x / view.zoom.twip_w)
    (tiles_to s.x (s.x + s.w) view.zoom.twip_w)
    (s.y / view.zoom.twip_h) (tiles_to s.y (s.y + s.h) view.zoom.twip_h) (λ i j across down. refl))

module _ {C B S : Type 0} (rules : Rules C B) (d : Document S) where
  opening_kept : (id : ℕ) (rights : Rights) → 0 < parts_of rules d.base
      → IsViewKept rules d (opening_view id rights)
  opening_kept id rights some =
      let none : length (visible_keys 0 first_zoom no_area (size_of rules d.base 0)) ≡ 0 =
      sees_none (size_of rules d.base 0) in
      record {
        part = some;
        zoom = refl;
        seen = ap (is_too_large first_zoom) none;
        asked = tt;
        asked_once = tt;
        asked_few = omega arith;
        screen = tt;
        versions = tt;
        wanted = tt;
        window_few = omega arith;
        wids = tt;
        wids_below = tt;
      }

  -- a key that a view is due, or some view is owed, is of one of the parts
  due_part : (view : View) (key : Place) → IsViewKept rules d view → is_due rules d view key ≡ true
      → key.part < parts_of rules d.base
  due_part view key kept due =
      let OfPart : Place → Type 0 = λ k. k.part < parts_of rules d.base in
      let move : (p q : Place) → same_place p q ≡ true → OfPart p → OfPart q =
      λ p q same lt. subst OfPart (same_is p q same) lt in
      let all : AllByRecursion OfPart (visible rules d view) =
      weaker (λ k. k.part ≡ view.part) OfPart (visible rules d view)
      (λ k is. let lt : view.part < parts_of rules d.base = kept.part in omega arith)
      (seen_parts rules d view) in
      let asked : AllByRecursion OfPart view.asked =
      weaker _ OfPart view.asked (λ k is. is.1) kept.asked in
      let lacks : Bool = is_lacking rules d key (version_of view.screen key) in
      let go : (a b : Bool) → is_among (visible rules d view) key ≡ a → is_among view.asked key ≡ b
      → ((a && lacks) || b) ≡ true → OfPart key = elim [
        | true ↦ λ b sees asks e. holds_among OfPart (visible rules d view) key move all sees
        | false ↦ elim [
          | true ↦ λ sees asks e. holds_among OfPart view.asked key move asked asks
          | false ↦ λ sees asks e. absurd (cc)
        ]
      ] in
      go (is_among (visible rules d view) key) (is_among view.asked key) refl refl due

  owed_part : (views : List View) (key : Place) → AllByRecursion (IsViewKept rules d) views
      → list_any (λ view. is_due rules d view key) views ≡ true → key.part < parts_of rules d.base
  owed_part [] key each owed = absurd (cc)
  owed_part (view ∷ views) key each owed =
      let go : (b : Bool) → is_due rules d view key ≡ b
      → (b || list_any (λ v. is_due rules d v key) views) ≡ true
      → key.part < parts_of rules d.base = elim [
        | true ↦ λ due e. due_part view key each.0 due
        | false ↦ λ not_due e. owed_part views key each.1 e
      ] in
      go (is_due rules d view key) refl owed

module _ {C B S : Type 0} (rules : Rules C B) (cut : C → Place → S) (d : Document S) where
  -- a job that is kept is kept where no fewer inputs are applied, and the document after those that
  -- were is the same
  job_moved : (journal : List Input) (applied : ℕ) (views : List View) (next_view : ℕ)
      (jobs : List (Job S)) (ticket : ℕ) (saving : Saving) (job : Job S) → d.applied ≤ applied
      → ((n : ℕ) → n ≤ d.applied → doc rules d.base d.journal n ≡ doc rules d.base journal n)
      → IsJobKept rules cut d job
      → IsJobKept rules cut
      (moved rules d journal applied views next_view jobs ticket saving) job
  job_moved journal applied views next_view jobs ticket saving job le docs kept = record {
    number = let lt : job.number ≤ d.applied = kept.number in omega arith;
    group = kept.group;
    area_is = kept.area_is;
    part = kept.part;
    scene_is = kept.scene_is ∙ ap (λ c. cut c job.area) (docs job.number kept.number);
  }

  module _ (kept : IsKept rules cut d) where
    order : AreInOrder d.next_view d.views
    order = record { few = kept.few; ids = kept.ids; below = kept.ids_below }

    job_order : AreJobsInOrder d.next_ticket d.jobs
    job_order =
        record {
          apart = kept.apart;
          few = kept.jobs_few;
          tickets = kept.tickets;
          below =
              kept.tickets_below;
        }

    same_docs : (n : ℕ) → n ≤ d.applied
        → doc rules d.base d.journal n ≡ doc rules d.base d.journal n
    same_docs n le = refl

    -- it is kept, where its inputs go on and its views and jobs are kept
    moved_kept : (journal : List Input) (applied : ℕ) (views : List View) (next_view : ℕ)
        (jobs : List (Job S)) (ticket : ℕ) (saving : Saving) → d.applied ≤ applied
        → applied ≤ length journal
        → ((n : ℕ) → n ≤ d.applied → doc rules d.base d.journal n ≡ doc rules d.base journal n)
        → AllByRecursion (λ input. input.part < parts_of rules d.base) journal
        → AreInOrder next_view views → AllByRecursion (IsViewKept rules d) views
        → AreJobsInOrder ticket jobs → AllByRecursion (IsJobKept rules cut d) jobs
        → IsSavingKept rules (moved rules d journal applied views next_view jobs ticket saving)
        → IsKept rules cut (moved rules d journal applied views next_view jobs ticket saving)
    moved_kept journal applied views next_view jobs ticket saving le level docs inputs o each jo all
        saved = record {
          accepted = kept.accepted;
          level = level;
          inputs = inputs;
          few = o.few;
          ids = o.ids;
          ids_below = o.below;
          each = weaker (IsViewKept rules d)
              (IsViewKept rules (moved rules d journal applied views next_view jobs ticket saving))
              views (λ view is. view_moved rules d journal applied views next_view jobs ticket
              saving
              view le is) each;
          jobs = weaker (IsJobKept rules cut d)
              (IsJobKept rules cut
              (moved rules d journal applied views next_view jobs ticket saving))
              jobs (λ job is. job_moved journal applied views next_view jobs ticket saving job le
              docs
              is) all;
          apart = jo.apart;
          jobs_few = jo.few;
          tickets = jo.tickets;
          tickets_below = jo.below;
          saving = saved;
        }

    -- other views and jobs
    others_kept : (views : List View) (next_view : ℕ) (jobs : List (Job S)) (ticket : ℕ)
        → AreInOrder next_view views → AllByRecursion (IsViewKept rules d) views
        → AreJobsInOrder ticket jobs → AllByRecursion (IsJobKept rules cut d) jobs
        → IsKept rules cut (moved rules d d.journal d.applied views next_view jobs ticket d.saving)
    others_kept views next_view jobs ticket o each jo all =
        let le : d.applied ≤ d.applied = omega arith in
        moved_kept d.journal d.applied views next_view jobs ticket d.saving le kept.level same_docs
        kept.inputs o each jo all
        (same_saving rules d kept.level kept.saving d.applied views next_view jobs ticket le)

    -- other views and saves
    saves_kept : (views : List View) (saving : Saving) → AreInOrder d.next_view views
        → AllByRecursion (IsViewKept rules d) views
        → IsSavingKept rules (record d { views = views; saving = saving })
        → IsKept rules cut (record d { views = views; saving = saving })
    saves_kept views saving o each saved =
        let le : d.applied ≤ d.applied = omega arith in
        moved_kept d.journal d.applied views d.next_view d.jobs d.next_ticket saving le kept.level
        same_docs kept.inputs o each job_order kept.jobs saved

    views_kept : (views : List View) (next_view : ℕ) → AreInOrder next_view views
        → AllByRecursion (IsViewKept rules d) views
        → IsKept rules cut (record d { views = views; next_view = next_view })
    views_kept views next_view o each =
        others_kept views next_view d.jobs d.next_ticket o each job_order kept.jobs

    -- one view that has changed
    change_kept : (id : ℕ) (view : View) (change : View → View)
        → ((v : View) → (change v).id ≡ v.id) → find_view d.views id ≡ Some view
        → IsViewKept rules d (change view)
        → IsKept rules cut (record d { views = with_view d.views id change })
    change_kept id view change same live of_view =
        views_kept (with_view d.views id change) d.next_view
        (order_with d.next_view d.views id change same order)
        (with_all (IsViewKept rules d) d.views id change view live of_view kept.each)

    join_kept : (rights : Rights) → 0 < parts_of rules d.base → length d.views < MOST_VIEWS
        → IsKept rules cut
        (record d {
          views = d.views ++ opening_view d.next_view rights ∷ [];
          next_view =
              d.next_view + 1;
        })
    join_kept rights some few =
        views_kept (d.views ++ opening_view d.next_view rights ∷ []) (d.next_view + 1)
        (order_push d.next_view d.views (opening_view d.next_view rights) refl few order)
        (all_push (IsViewKept rules d) d.views (opening_view d.next_view rights) kept.each
        (opening_kept rules d d.next_view rights some))

    leave_kept : (id : ℕ)
        → IsKept rules cut (record d { views = without_view d.views id; saving = saving_left d id })
    leave_kept id =
        saves_kept (without_view d.views id) (saving_left d id)
        (order_without d.next_view d.views id order)
        (without_all (IsViewKept rules d) d.views id kept.each)
        (left_saving rules d kept.level kept.saving id (without_view d.views id))

    -- the ready saves were served
    serve_kept : has_ready_save d ≡ true
        → IsKept rules cut (record d { saving = saving_served rules d })
    serve_kept ready =
        saves_kept d.views (saving_served rules d) order kept.each
        (served_saving rules d kept.level kept.saving ready)

    -- the answer to a put came
    answer_kept : (ticket : ℕ) (receipt : Option Receipt)
        → IsKept rules cut (record d { saving = answered ticket receipt d.saving })
    answer_kept ticket receipt =
        saves_kept d.views (answered ticket receipt d.saving) order kept.each
        (ended_saving rules d kept.level kept.saving (answered_put ticket receipt d.saving.put)
        (is_some receipt) (under_way ticket receipt d.saving.put))

    -- a view and the journal, after an effect
    hear_kept : (id : ℕ) (view : View) (e : Effect) → find_view d.views id ≡ Some view
        → IsGood rules d view e → IsKept rules cut (heard d id e)
    hear_kept id view e live good =
        let le : d.applied ≤ d.applied = omega arith in
        let journal : List Input = d.journal ++ e.inputs in
        let longer : length journal ≡ length d.journal + length e.inputs =
        length-append d.journal e.inputs in
        let level : d.applied ≤ length journal = omega (arith, longer, kept.level) in
        let docs : (n : ℕ) → n ≤ d.applied
        → doc rules d.base d.journal n ≡ doc rules d.base journal n = λ n few.
        let past : n ≤ length d.journal = omega (arith, kept.level) in
        ap (λ inputs. after rules (rules.start d.base) inputs)
        (sym (take-append-le n d.journal e.inputs past)) in
        let same : IsViewKept rules d (keeps e.view view) =
        subst (IsViewKept rules d) (ap (λ n. record e.view { id = n }) good.id) good.kept in
        subst (IsKept rules cut) (sym (heard_is d id view e live good.id))
        (moved_kept journal d.applied
        (with_view d.views id (keeps e.view)) d.next_view d.jobs d.next_ticket
        (saving_after id (length d.journal) e d.saving) le level docs
        (all_both (λ input. input.part < parts_of rules d.base) d.journal e.inputs kept.inputs
        good.inputs)
        (order_with d.next_view d.views id (keeps e.view) (λ v. refl) order)
        (with_all (IsViewKept rules d) d.views id (keeps e.view) view live same kept.each) job_order
        kept.jobs
        (hear_saving rules d kept.level kept.saving (with_view d.views id (keeps e.view)) id e docs
        (subst (λ n. Fits d.saving.saves n e.save) (found_id d.views id view live) good.saves)))

    apply_kept : d.applied < length d.journal
        → IsKept rules cut (record d { applied = d.applied + 1 })
    apply_kept more =
        let le : d.applied ≤ d.applied + 1 = omega arith in
        let level : d.applied + 1 ≤ length d.journal = omega arith in
        moved_kept d.journal
        (d.applied + 1) d.views d.next_view d.jobs d.next_ticket d.saving le level same_docs
        kept.inputs order kept.each job_order kept.jobs
        (same_saving rules d kept.level kept.saving
        (d.applied + 1) d.views d.next_view d.jobs d.next_ticket le)

    cut_kept : (outs : Outs S) (new : Document S) → Cuts rules cut d outs new → IsKept rules cut new
    cut_kept outs new cuts =
        let job : Job S = cuts.job in
        let past : job.number ≤ d.applied = let e : job.number ≡ d.applied = cuts.number_is in
        omega arith in
        let parts : AllByRecursion (λ key. key.part < parts_of rules d.base) job.keys =
        weaker (λ key. is_owed rules d key ≡ true)
        (λ key. key.part < parts_of rules d.base) job.keys
        (λ key owed. owed_part rules d d.views key kept.each owed) cuts.owed in
        let area : (place_of_keys job.keys).part < parts_of rules d.base =
        area_part (parts_of rules d.base) job.keys cuts.group parts in
        let here : IsJobKept rules cut d job = record {
          number = past;
          group = cuts.group;
          area_is = cuts.area_is;
          part = subst (λ (p : Place). p.part < parts_of rules d.base) (sym cuts.area_is) area;
          scene_is = cuts.scene_is
              ∙ ap (λ n. cut (doc rules d.base d.journal n) job.area) (sym cuts.number_is);
        } in
        let behind : AreJobsInOrder job.ticket d.jobs =
        subst (λ t. AreJobsInOrder t d.jobs) (sym cuts.ticket_is) job_order in
        let jo : AreJobsInOrder (d.next_ticket + 1) (d.jobs ++ job ∷ []) =
        subst (λ t. AreJobsInOrder (t + 1) (d.jobs ++ job ∷ [])) cuts.ticket_is
        (job_order_push d.jobs job cuts.few cuts.free behind) in
        subst (IsKept rules cut) (sym cuts.new_is)
        (others_kept d.views d.next_view (d.jobs ++ job ∷ []) (d.next_ticket + 1) order kept.each jo
        (all_push (IsJobKept rules cut d) d.jobs job kept.jobs here))

    paint_kept : (ticket : ℕ) (job : Job S) → find_job d.jobs ticket ≡ Some job
        → IsKept rules cut
        (record d {
          jobs = without_job d.jobs ticket;
          views =
              views_offered rules d job.number job.keys d.views;
        })
    paint_kept ticket job found =
        let past : job.number
        ≤ d.applied =
        (found_job (IsJobKept rules cut d) d.jobs ticket job kept.jobs found).number in
        others_kept (views_offered rules d job.number job.keys d.views) d.next_view
        (without_job d.jobs ticket) d.next_ticket
        (offers_order rules d job.number job.keys d.views order)
        (offers_kept rules d job.number job.keys d.views past kept.each)
        (job_order_without d.next_ticket d.jobs ticket job_order)
        (job_without_all (IsJobKept rules cut d) d.jobs ticket kept.jobs)

module _ {C B S : Type 0} (rules : Rules C B) (cut : C → Place → S) where
  pub works_keep : (old new : Document S) (outs : Outs S) → Works rules cut old outs new
      → IsKept rules cut old → IsKept rules cut new
  works_keep old new outs works kept =
      elim works [
        | inl serves ↦
            subst (IsKept rules cut) (sym serves.new_is)
            (serve_kept rules cut old kept serves.ready)
        | inr later ↦ elim later [
          | inl applies ↦
              subst (IsKept rules cut) (sym applies.new_is)
              (apply_kept rules cut old kept
              (some_input old.journal old.applied applies.input applies.behind))
          | inr other ↦ elim other [
            | inl sends ↦
                let of_view : IsViewKept rules old sends.view =
                found_view (IsViewKept rules old) old.views sends.view.id sends.view kept.each
                sends.live in
                subst (IsKept rules cut) (sym sends.new_is)
                (change_kept rules cut old kept sends.view.id sends.view
                (sent rules old sends.version sends.key) (λ v. refl) sends.live
                (sent_kept rules old sends.version sends.key sends.view sends.past sends.room
                of_view))
            | inr cuts ↦ cut_kept rules cut old kept outs new cuts
          ]
        ]
      ]

  join_keeps : (old new : Document S) (rights : Rights) (outs : Outs S)
      → 0 < parts_of rules old.base → (b : Bool) → nat_lt (length old.views) MOST_VIEWS ≡ b
      → JoinsWhere b rules old rights outs new → IsKept rules cut old → IsKept rules cut new
  join_keeps old new rights outs some true e joins kept =
      subst (IsKept rules cut) (sym joins.1)
      (join_kept rules cut old kept rights some (ltb-true (length old.views) MOST_VIEWS e))
  join_keeps old new rights outs some false e joins kept =
      subst (IsKept rules cut) (sym joins.1) kept

  turn_keeps : (old new : Document S) (turned : TurnAnswer S) → TurnsTo rules cut old turned new
      → IsKept rules cut old → IsKept rules cut new
  turn_keeps old new (Worked outs) turn kept = works_keep old new outs turn kept
  turn_keeps old new Idle turn kept = subst (IsKept rules cut) (sym turn.1) kept

  paints_keep : (old new : Document S) (ticket : ℕ) (scene : S) (outs : Outs S)
      (job : Option (Job S)) → find_job old.jobs ticket ≡ job
      → Paints rules old ticket scene outs new job → IsKept rules cut old → IsKept rules cut new
  paints_keep old new ticket scene outs None found paint kept =
      subst (IsKept rules cut) (sym paint.1) kept
  paints_keep old new ticket scene outs (Some job) found paint kept =
      elim paint [
        | inl other ↦ subst (IsKept rules cut) (sym other.2) kept
        | inr taken ↦
            subst (IsKept rules cut) (sym taken.2) (paint_kept rules cut old kept ticket job found)
      ]

  -- a step keeps it, in documents that have a part
  pub steps_keep : ((base : List ℕ) → 0 < parts_of rules base)
      → (old new : Document S) (event : Event S) (outs : Outs S) → Step rules cut old event outs new
      → IsKept rules cut old → IsKept rules cut new
  steps_keep some old new (Joined rights) outs step kept =
      join_keeps old new rights outs (some old.base)
      (nat_lt (length old.views) MOST_VIEWS) refl step kept
  steps_keep some old new (Left view) outs step kept =
      subst (IsKept rules cut) (sym step.1) (leave_kept rules cut old kept view)
  steps_keep some old new (Said id text) outs step kept =
      let of_view : IsViewKept rules old step.view =
      found_view (IsViewKept rules old) old.views id step.view kept.each step.live in
      subst (IsKept rules cut) (sym step.new_is)
      (hear_kept rules cut old kept id step.view (effect rules old step.view text) step.live
      (effect_good rules old step.view of_view text))
  steps_keep some old new Turned outs step kept = turn_keeps old new step.0 step.1 kept
  steps_keep some old new (Painted ticket scene) outs step kept =
      paints_keep old new ticket scene outs (find_job old.jobs ticket) refl step kept
  steps_keep some old new (PutAnswered ticket result) outs step kept =
      subst (IsKept rules cut) (sym step.1)
      (answer_kept rules cut old kept ticket (receipt_of result))

  -- so does a run
  pub runs_keep : ((base : List ℕ) → 0 < parts_of rules base)
      → (events : List (Event S)) (old new : Document S) (outs : Outs S)
      → Segment rules cut old events outs new → IsKept rules cut old → IsKept rules cut new
  runs_keep some [] old new outs run kept = subst (IsKept rules cut) (sym run.1) kept
  runs_keep some (event ∷ events) old new outs run kept =
      runs_keep some events run.0 new run.2 run.4 (steps_keep some old run.0 event run.1 run.3 kept)

  -- a document as it is loaded keeps it
  pub opening_keeps : (file base : List ℕ) → rules.accepts base ≡ true
      → IsKept rules cut (opening {S = S} file base)
  opening_keeps file base accepted = record {
    accepted = accepted;
    level = omega arith;
    inputs = tt;
    few = omega arith;
    ids = tt;
    ids_below = tt;
    each = tt;
    jobs = tt;
    apart = tt;
    jobs_few = omega arith;
    tickets = tt;
    tickets_below = tt;
    saving = record {
      loaded = refl;
      stored = (omega arith, tt);
      marks = tt;
      put = tt;
      bound = tt;
      few = λ view. omega arith;
      token = λ none. refl;
      room = λ lacks none. absurd (lacks refl);
    };
  }
