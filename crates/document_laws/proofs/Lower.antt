-- Less is left to do after each work of a turn, after a painted result, and after a store's answer.
use Rattle.std.proofs.Common.{◌≡◌, ℕ, ◌+◌, ◌-◌, ◌*◌, ◌<◌, ◌≤◌, Bool, true, false, not, cond, nat_eq, List, [], ◌∷◌, ◌++◌, length, map, filter, Option, None, Some, Result, Ok, refl, ap, sym, subst, ◌∙◌, arith, inl, inr, length-append}
use Rattle.std.specs.Prelude.{◌&&◌, is_none, is_some, nat_lt, option_to_list}
use Rattle.std.specs.List.{list_any, count_by, sum_by, AllByRecursion}
use Rattle.std.specs.Str.{bytes_eq}
use Rattle.std.proofs.lemmas.Cmp.{nat_list_eq_equiv}
use Rattle.std.proofs.lemmas.Bool.{cases_Bool, eqb-true, le-ltb, ltb-false, not-true}
use Rattle.std.proofs.lemmas.List.Sums.{sum_by-cons, sum_by_push, count_by-le-length}
use Rattle.kit_trait.specs.Rules.{Rules}
use Rattle.kit_trait.specs.declared.jobs.PaintJob.{PaintJob}
use Rattle.outside.specs.declared.errands.Errand.{Errand}
use Rattle.outside.specs.declared.errands.Receipt.{Receipt}
use Rattle.outside.specs.declared.faults.StoreFault.{StoreFault}
use Rattle.save_core.specs.Saving.{Saving, answered_put, begun, ended, errand_for, is_ready_save, last_stored, left_over, put_of}
use Rattle.save_core.specs.declared.values.Put.{Put}
use Rattle.save_core.specs.declared.values.Save.{Save}
use Rattle.tile_key.specs.Places.{Place}
use Rattle.document_machine.proofs.Lists.{nat_eq_self}
use Rattle.document_machine.specs.Due.{is_due, is_wanted, has_room, touched, keys, sent}
use Rattle.document_machine.specs.Event.{Painted, PutAnswered}
use Rattle.document_machine.specs.Kept.{IsKept, IsJobKept}
use Rattle.document_machine.specs.Rank.{above_jobs, due_pairs, jobs_to_come, jobs_wanted, left_to_do, old_jobs, pairs, pairs_with_room, saves_to_come, tiles_to_come, unacknowledged, unbound_saves}
use Rattle.document_machine.specs.Run.{Segment}
use Rattle.document_machine.specs.Saves.{Serves, receipt_of, text_at}
use Rattle.document_machine.specs.State.{View, Job, Document, find_view, with_view, find_job, without_job}
use Rattle.document_machine.specs.Step.{Applies, Cuts, Sends, Works, Step, Paints, views_offered, given}
use Rattle.document_machine.specs.declared.limits.TheConstants.{MOST_JOBS}
use Rattle.document_machine.specs.declared.outs.Outs.{Outs}
use Rattle.document_laws.specs.AtOnce.{answered, all_answered, own_receipt, stored}
use Rattle.document_laws.proofs.Fewer.{IsReady, due_of, left_of, all_ready, due_le_pairs, keys_le, sent_less}
use Rattle.document_laws.proofs.Kept.{found_job, works_keep}
use Rattle.document_laws.proofs.Offers.{all_offers_lt, due_fewer, pairs_fewer, unwanted_same, windows_le}
use Rattle.document_laws.proofs.Ordered.{one}
use Rattle.document_laws.proofs.Rank.{is_unbound, one_most, served_fewer, served_now, wanted_le}
use Rattle.document_laws.proofs.Sums.{input_falls, sum_apart, sum_le, sum_with, tiles_fall, whole_falls}
use Rattle.document_laws.proofs.Views.{found_view, some_input}

-- a list without the job of a ticket counts it no more
count_without : {S : Type 0} (test : Job S → Bool) (jobs : List (Job S)) (ticket : ℕ) (job : Job S)
    → find_job jobs ticket ≡ Some job
    → count_by test (without_job jobs ticket) + one (test job) ≡ count_by test jobs
count_without test [] ticket job e = absurd (cc)
count_without test (j ∷ js) ticket job e =
    let more = sum_by-cons (λ x. one (test x)) j js in
    let go : (b : Bool) → cond b (Some j) (find_job js ticket) ≡ Some job
    → count_by test (cond b js (j ∷ without_job js ticket)) + one (test job)
    ≡ count_by test (j ∷ js) = elim [
      | true ↦ λ is. let same : j ≡ job = cc in let here : one (test j) ≡ one (test job) =
          ap (λ x. one (test x)) same in omega (arith, more, here)
      | false ↦ λ is. omega (
        arith,
        more,
        count_without test js ticket job is,
        sum_by-cons (λ x. one (test x)) j
            (without_job js ticket),
      )
    ] in
    go (nat_eq j.ticket ticket) e

length_without : {S : Type 0} (jobs : List (Job S)) (ticket : ℕ) (job : Job S)
    → find_job jobs ticket ≡ Some job → length (without_job jobs ticket) + 1 ≡ length jobs
length_without [] ticket job e = absurd (cc)
length_without (j ∷ js) ticket job e =
    let go : (b : Bool) → cond b (Some j) (find_job js ticket) ≡ Some job
    → length (cond b js (j ∷ without_job js ticket)) + 1 ≡ length (j ∷ js) = elim [
      | true ↦ λ is. omega arith
      | false ↦ λ is. omega (arith, length_without js ticket job is)
    ] in
    go (nat_eq j.ticket ticket) e

-- a job behind those with lower tickets is found by its own, and is what goes with it
find_pushed : {S : Type 0} (jobs : List (Job S)) (job : Job S)
    → AllByRecursion (λ j. j.ticket < job.ticket) jobs
    → find_job (jobs ++ job ∷ []) job.ticket ≡ Some job
find_pushed [] job below = rw (nat_eq_self job.ticket) refl
find_pushed (j ∷ js) job below =
    let off : nat_eq j.ticket job.ticket ≡ false = elim (cases_Bool (nat_eq j.ticket job.ticket)) [
      | inl is ↦ absurd (let e = eqb-true j.ticket job.ticket is in omega (arith, e, below.0))
      | inr away ↦ away
    ] in
    rw off (find_pushed js job below.1)

without_pushed : {S : Type 0} (jobs : List (Job S)) (job : Job S)
    → AllByRecursion (λ j. j.ticket < job.ticket) jobs
    → without_job (jobs ++ job ∷ []) job.ticket ≡ jobs
without_pushed [] job below = rw (nat_eq_self job.ticket) refl
without_pushed (j ∷ js) job below =
    let off : nat_eq j.ticket job.ticket ≡ false = elim (cases_Bool (nat_eq j.ticket job.ticket)) [
      | inl is ↦ absurd (let e = eqb-true j.ticket job.ticket is in omega (arith, e, below.0))
      | inr away ↦ away
    ] in
    rw off (ap (λ rest. j ∷ rest) (without_pushed js job below.1))

-- of the saves that no put is for as many are left once the others are answered
left_unbound : (saves : List Save)
    → count_by is_unbound (filter (λ save. not save.bound) saves) ≡ count_by is_unbound saves
left_unbound [] = refl
left_unbound (save ∷ saves) =
    let rest = left_unbound saves in
    let more = sum_by-cons (λ s. one (is_unbound s)) save saves in
    let after = sum_by-cons (λ s. one (is_unbound s)) save (filter (λ s. not s.bound) saves) in
    let go : (b : Bool) → not save.bound ≡ b
    → count_by is_unbound
    (cond b (save ∷ filter (λ s. not s.bound) saves) (filter (λ s. not s.bound) saves))
    ≡ count_by is_unbound (save ∷ saves) = elim [
      | true ↦ λ is. omega (arith, rest, more, after)
      | false ↦ λ is. let none : one (is_unbound save) ≡ 0 = ap one is in
          omega (arith, rest, more, none)
    ] in
    go (not save.bound) refl

-- a put that is answered is under way
put_there : (ticket : ℕ) (receipt : Option Receipt) (o : Option Put) (put : Put)
    → answered_put ticket receipt o ≡ Some put → is_some o ≡ true
put_there ticket receipt None put e = absurd (cc)
put_there ticket receipt (Some other) put e = refl

bytes_eq_self : (xs : List ℕ) → bytes_eq xs xs ≡ true
bytes_eq_self xs = nat_list_eq_equiv.refl xs

-- the receipt of an errand is an answer for its put
own_put : (errand : Errand)
    → answered_put errand.ticket.0 (Some (own_receipt errand)) (Some (put_of errand))
    ≡ Some (put_of errand)
own_put errand =
    rw (
      nat_eq_self errand.ticket.0,
      bytes_eq_self errand.file,
      bytes_eq_self errand.content,
    )
    refl

-- where a save is ready no put is under way
no_put : (o : Option Put) (some : Bool) → (is_none o && some) ≡ true → o ≡ None
no_put None some ready = refl
no_put (Some put) some ready = absurd (cc)

-- numbers that the laws below add up
added_lt : (x a b : ℕ) → a + 1 ≤ b → x + a < x + b
added_lt x a b less = omega arith

same_tiles : (t s m x y p : ℕ) → s ≡ t → y + 1 ≤ x → s * m + y + p < t * m + x + p
same_tiles t s m x y p same less = let e : s * m ≡ t * m = ap (λ n. n * m) same in
    omega (arith, e, less)

lt_trans : {a b c : ℕ} → b < a → c < b → c < a
lt_trans first second = omega (arith, first, second)

pub plus_none : (n : ℕ) → n + 0 ≤ n
plus_none n = omega arith

pub same_le : (n : ℕ) → n ≤ n
same_le n = omega arith

input_gone : (x a b : ℕ) → a + 1 ≡ b → x + a + 1 ≤ x + b
input_gone x a b e = omega arith

input_stays : (x a b : ℕ) → a ≡ b → x + a + 0 ≤ x + b
input_stays x a b e = omega arith

input_rest : (x y u p : ℕ) → x ≤ p → 2 * x + u + 1 ≤ 2 * y + u + 2 * (p + 1)
input_rest x y u p le = omega arith

regrouped : (p q a b c d : ℕ) → p + (a + b) + 1 ≤ q + (c + d) → p + a + b + 1 ≤ q + c + d
regrouped p q a b c d le = omega arith

-- a job more that is wanted, and one fewer that isn't
jobs_fall : (roomy count wanted more both : ℕ) → more ≡ count + 1 → both ≡ wanted + 1
    → wanted ≤ roomy → wanted ≤ count → 1 ≤ roomy
    → 3 * roomy + more - 2 * both + 1 ≤ 3 * roomy + count - 2 * wanted
jobs_fall roomy count wanted more both a b most few some = omega arith

job_goes : (roomy count wanted fewer same : ℕ) → fewer + 1 ≡ count → same ≡ wanted → wanted ≤ roomy
    → 3 * roomy + fewer - 2 * same + 1 ≤ 3 * roomy + count - 2 * wanted
job_goes roomy count wanted fewer same a b most = omega arith

-- a put that begins, and one that goes
put_begins : (u w b c : ℕ) → u + 1 ≤ w → b ≤ 1 → 2 * u + b + 1 ≤ 2 * w + c
put_begins u w b c less most = omega arith

put_goes : (u w c : ℕ) → u ≡ w → c ≡ 1 → 2 * u + 0 + 1 ≤ 2 * w + c
put_goes u w c same once = omega arith

module _ {C B S : Type 0} (rules : Rules C B) where
  -- no more pairs have room and are due than there are
  pub room_le : (d : Document S) → pairs_with_room rules d ≤ pairs rules d
  room_le d =
      sum_le (λ view. cond (has_room view) (count_by (is_due rules d view) (keys rules d view)) 0)
      (λ view. length (keys rules d view)) d.views
      (λ view. elim (has_room view) as
      (λ b. cond b (count_by (is_due rules d view) (keys rules d view)) 0
      ≤ length (keys rules d view)) [
        | true ↦ count_by-le-length (is_due rules d view) (keys rules d view)
        | false ↦ omega arith
      ])

  -- the jobs out never have to come to as much as is above them
  jobs_below : (d : Document S) → length d.jobs ≤ MOST_JOBS
      → jobs_to_come rules d + 1 ≤ above_jobs rules d
  jobs_below d few = let roomy = room_le d in omega (arith, few, roomy)

  -- so where the tiles have less to come to, and there are no more pairs and saves, less is left to
  -- do
  pub falls : (old new : Document S) → tiles_to_come rules new + 1 ≤ tiles_to_come rules old
      → pairs rules new ≤ pairs rules old → length new.jobs ≤ MOST_JOBS
      → saves_to_come new ≤ saves_to_come old → left_to_do rules new < left_to_do rules old
  falls old new less fewer few saves =
      let most = jobs_below new few in
      let above : above_jobs rules new ≤ above_jobs rules old = omega (arith, fewer) in
      let jobs : jobs_to_come rules new + 1 ≤ jobs_to_come rules old + above_jobs rules old =
      omega (arith, most, above) in
      whole_falls (tiles_to_come rules old) (tiles_to_come rules new) (above_jobs rules old)
      (above_jobs rules new) (jobs_to_come rules old) (jobs_to_come rules new)
      (saves_to_come old) (saves_to_come new)
      less above jobs saves

  -- what the tiles have to come to falls where its parts do
  pub parts_fall : (old new : Document S) (k : ℕ)
      → (MOST_JOBS + 2) * (length new.journal - new.applied) + old_jobs new + k
      ≤ (MOST_JOBS + 2) * (length old.journal - old.applied) + old_jobs old
      → pairs rules new ≤ pairs rules old
      → 2 * due_pairs rules new + unacknowledged new + 1
      ≤ 2 * due_pairs rules old + unacknowledged old + k * (pairs rules old + 1)
      → tiles_to_come rules new + 1 ≤ tiles_to_come rules old
  parts_fall old new k inputs fewer rest =
      let whole =
      tiles_fall k ((MOST_JOBS + 2) * (length old.journal - old.applied) + old_jobs old)
      ((MOST_JOBS + 2) * (length new.journal - new.applied) + old_jobs new) (pairs rules old)
      (pairs rules new)
      (2 * due_pairs rules old + unacknowledged old)
      (2 * due_pairs rules new + unacknowledged new) inputs fewer rest in
      regrouped (((MOST_JOBS + 2) * (length new.journal - new.applied) + old_jobs new) *
      (pairs rules new + 1))
      (((MOST_JOBS + 2) * (length old.journal - old.applied) + old_jobs old) *
      (pairs rules old + 1))
      (2 * due_pairs rules new) (unacknowledged new) (2 * due_pairs rules old)
      (unacknowledged old) whole

  -- an input that is applied
  applied_left : (d : Document S) → d.applied < length d.journal → length d.jobs ≤ MOST_JOBS
      → left_to_do rules (record d { applied = d.applied + 1 }) < left_to_do rules d
  applied_left d more few =
      let e : Document S = record d { applied = d.applied + 1 } in
      let one_less : length d.journal - d.applied ≡ (length d.journal - (d.applied + 1)) + 1 =
      omega (arith, more) in
      let old : old_jobs e ≤ MOST_JOBS = let most =
      count_by-le-length (λ (job : Job S). nat_lt job.number (d.applied + 1)) d.jobs in
      omega (arith, most, few) in
      let inputs =
      input_falls MOST_JOBS (length d.journal - d.applied) (length d.journal - (d.applied + 1))
      (old_jobs d) (old_jobs e) one_less old in
      let due : due_pairs rules e ≤ pairs rules d = due_le_pairs rules e d.views in
      let same : pairs rules e ≤ pairs rules d = same_le (pairs rules d) in
      let rest : 2 * due_pairs rules e + unacknowledged e + 1
      ≤ 2 * due_pairs rules d + unacknowledged d + 2 * (pairs rules d + 1) =
      input_rest (due_pairs rules e) (due_pairs rules d) (unacknowledged d)
      (pairs rules d) due in
      falls d e (parts_fall d e 2 inputs same rest) same few (same_le (saves_to_come d))

  pub applied_lowers : (old new : Document S) (outs : Outs S) → Applies rules old outs new
      → length old.jobs ≤ MOST_JOBS
      → (new.jobs ≡ old.jobs) × (left_to_do rules new < left_to_do rules old)
  applied_lowers old new outs step few =
      let more : old.applied < length old.journal =
      some_input old.journal old.applied step.input step.behind in (
        ap (λ e. e.jobs) step.new_is,
        subst (λ e. left_to_do rules e < left_to_do rules old)
            (sym step.new_is) (applied_left old more few),
      )

  -- the ready saves that are served
  saves_fall : (d : Document S) → unbound_saves (served_now rules d) + 1 ≤ unbound_saves d
      → saves_to_come (served_now rules d) + 1 ≤ saves_to_come d
  saves_fall d fewer =
      put_begins (unbound_saves (served_now rules d)) (unbound_saves d)
      (one (is_some (served_now rules d).saving.put)) (one (is_some d.saving.put)) fewer
      (one_most (is_some (served_now rules d).saving.put))

  pub served_lowers : (old new : Document S) (outs : Outs S) → Serves rules old outs new
      → left_to_do rules new < left_to_do rules old
  served_lowers old new outs step =
      let less = saves_fall old (served_fewer rules old step.ready) in
      subst (λ e. left_to_do rules e < left_to_do rules old) (sym step.new_is)
      (added_lt (tiles_to_come rules old * above_jobs rules old + jobs_to_come rules old)
      (saves_to_come (served_now rules old)) (saves_to_come old) less)

  -- a tile that is sent
  abbrev sent_now : Document S → ℕ → Place → ℕ → Document S
  sent_now d id key version = record d { views = with_view d.views id (sent rules d version key) }

  sent_left : (d : Document S) (view : View) (key : Place) (version : ℕ) → IsReady rules d view
      → length d.jobs ≤ MOST_JOBS → find_view d.views view.id ≡ Some view
      → is_due rules d view key ≡ true → version ≤ d.applied
      → touched rules d.base d.journal version key d.applied ≡ false
      → left_to_do rules (sent_now d view.id key version) < left_to_do rules d
  sent_left d view key version ready few live due past clean =
      let e : Document S = sent_now d view.id key version in
      let less = sent_less rules d version key view clean past ready due in
      let sum = sum_with (left_of rules d) d.views view.id (sent rules d version key) view live in
      let before : sum_by (left_of rules d) d.views ≡ 2 * due_pairs rules d + unacknowledged d =
      sum_apart (due_of rules d) (λ view. length view.window) d.views in
      let after : sum_by (left_of rules d) (with_view d.views view.id (sent rules d version key))
      ≡ 2 * due_pairs rules e + unacknowledged e =
      sum_apart (due_of rules d) (λ view. length view.window)
      (with_view d.views view.id (sent rules d version key)) in
      let keys_sum : pairs rules e + length (keys rules d view)
      ≡ pairs rules d + length (keys rules d (sent rules d version key view)) =
      sum_with (λ view. length (keys rules d view)) d.views view.id
      (sent rules d version key) view live in
      let keys_less = keys_le rules d version key view ready in
      let fewer : pairs rules e ≤ pairs rules d = omega (arith, keys_sum, keys_less) in
      let rest : 2 * due_pairs rules e + unacknowledged e + 1
      ≤ 2 * due_pairs rules d + unacknowledged d = omega (arith, less, sum, before, after) in
      let more : 2 * due_pairs rules e + unacknowledged e + 1
      ≤ 2 * due_pairs rules d + unacknowledged d + 0 * (pairs rules d + 1) =
      omega (arith, rest) in
      falls d e (parts_fall d e 0
      (plus_none ((MOST_JOBS + 2) * (length d.journal - d.applied) + old_jobs d)) fewer more)
      fewer few (same_le (saves_to_come d))

  pub sent_lowers : {cut : C → Place → S} (old new : Document S) (outs : Outs S)
      → Sends rules old outs new → IsKept rules cut old
      → left_to_do rules new < left_to_do rules old
  sent_lowers old new outs step kept =
      let ready : IsReady rules old step.view =
      found_view (IsReady rules old) old.views step.view.id step.view
      (all_ready rules old kept) step.live in
      let clean : touched rules old.base old.journal step.version step.key old.applied ≡ false =
      not-true (touched rules old.base old.journal step.version step.key old.applied)
      step.current in
      let less = sent_left old step.view step.key step.version ready kept.jobs_few step.live
      step.due step.past clean in
      subst (λ e. left_to_do rules e < left_to_do rules old) (sym step.new_is) less

  -- a job that is cut
  abbrev cut_now : Document S → Job S → Document S
  cut_now old job = record old { jobs = old.jobs ++ job ∷ []; next_ticket = old.next_ticket + 1 }

  cut_left : {cut : C → Place → S} (d : Document S) (job : Job S) → IsKept rules cut d
      → job.number ≡ d.applied → list_any (is_wanted rules d) job.keys ≡ true
      → left_to_do rules (cut_now d job) < left_to_do rules d
  cut_left d job kept number wanted =
      let e : Document S = cut_now d job in
      let is_old : Job S → Bool = λ j. nat_lt j.number d.applied in
      let is_for : Job S → Bool = λ j. list_any (is_wanted rules d) j.keys in
      let present : nat_lt job.number d.applied ≡ false =
      le-ltb job.number d.applied (omega (arith, number)) in
      let old_push : old_jobs e ≡ old_jobs d + one (is_old job) =
      sum_by_push (λ j. one (is_old j)) d.jobs job in
      let old_none : one (is_old job) ≡ 0 = ap one present in
      let old_same : old_jobs e ≡ old_jobs d = omega (arith, old_push, old_none) in
      let for_push : jobs_wanted rules e ≡ jobs_wanted rules d + one (is_for job) =
      sum_by_push (λ j. one (is_for j)) d.jobs job in
      let for_one : one (is_for job) ≡ 1 = ap one wanted in
      let longer : length e.jobs ≡ length d.jobs + 1 = length-append d.jobs (job ∷ []) in
      let most : jobs_wanted rules d ≤ pairs_with_room rules d =
      wanted_le rules d d.jobs kept.apart in
      let few : jobs_wanted rules d ≤ length d.jobs = count_by-le-length is_for d.jobs in
      let some : count_by is_for (job ∷ []) ≤ pairs_with_room rules d =
      wanted_le rules d (job ∷ []) (tt, tt) in
      let once : count_by is_for (job ∷ []) ≡ one (is_for job) + 0 =
      sum_by-cons (λ j. one (is_for j)) job [] in
      let jobs : jobs_to_come rules e + 1 ≤ jobs_to_come rules d =
      jobs_fall (pairs_with_room rules d) (length d.jobs) (jobs_wanted rules d) (length e.jobs)
      (jobs_wanted rules e) longer (omega (arith, for_push, for_one)) most few
      (omega (arith, some, once, for_one)) in
      let tiles : tiles_to_come rules e ≡ tiles_to_come rules d =
      ap (λ n. ((MOST_JOBS + 2) * (length d.journal - d.applied) + n) *
      (pairs rules d + 1) + 2 * due_pairs rules d + unacknowledged d) old_same in
      same_tiles (tiles_to_come rules d) (tiles_to_come rules e) (above_jobs rules d)
      (jobs_to_come rules d) (jobs_to_come rules e) (saves_to_come d) tiles jobs

  pub cut_lowers : (cut : C → Place → S) (old new : Document S) (outs : Outs S)
      → Cuts rules cut old outs new → IsKept rules cut old
      → left_to_do rules new < left_to_do rules old
  cut_lowers cut old new outs step kept =
      subst (λ e. left_to_do rules e < left_to_do rules old) (sym step.new_is)
      (cut_left old step.job kept step.number_is step.wanted)

  -- each work
  pub works_leave_less : (cut : C → Place → S) (old new : Document S) (outs : Outs S)
      → Works rules cut old outs new → IsKept rules cut old
      → left_to_do rules new < left_to_do rules old
  works_leave_less cut old new outs works kept =
      elim works [
        | inl serves ↦ served_lowers old new outs serves
        | inr more ↦ elim more [
          | inl applies ↦ (applied_lowers old new outs applies kept.jobs_few).1
          | inr other ↦ elim other [
            | inl sends ↦ sent_lowers old new outs sends kept
            | inr cuts ↦ cut_lowers cut old new outs cuts kept
          ]
        ]
      ]

  -- a painted result of a job that is out
  abbrev painted_now : Document S → ℕ → Job S → Document S
  painted_now d ticket job = record d {
    jobs = without_job d.jobs ticket;
    views = views_offered rules d job.number job.keys d.views;
  }

  painted_left : {cut : C → Place → S} (d : Document S) (ticket : ℕ) (job : Job S)
      → IsKept rules cut d → find_job d.jobs ticket ≡ Some job
      → left_to_do rules (painted_now d ticket job) < left_to_do rules d
  painted_left {cut} d ticket job kept found =
      let e : Document S = painted_now d ticket job in
      let of_job : IsJobKept rules cut d job =
      found_job (IsJobKept rules cut d) d.jobs ticket job kept.jobs found in
      let ready = all_ready rules d kept in
      let is_old : Job S → Bool = λ j. nat_lt j.number d.applied in
      let is_for : Job S → Bool = λ j. list_any (is_wanted rules d) j.keys in
      let old_sum : old_jobs e + one (is_old job) ≡ old_jobs d =
      count_without is_old d.jobs ticket job found in
      let shorter = length_without d.jobs ticket job found in
      let few : length e.jobs ≤ MOST_JOBS = let most = kept.jobs_few in
      omega (arith, shorter, most) in
      let fewer : pairs rules e ≤ pairs rules d =
      pairs_fewer rules d job.number of_job.number job.keys d.views ready in
      elim (cases_Bool (is_old job)) [
        | inl old ↦
            let once : one (is_old job) ≡ 1 = ap one old in
            let due : due_pairs rules e ≤ due_pairs rules d =
            due_fewer rules d job.number of_job.number job.keys d.views ready in
            let window : unacknowledged e ≤ unacknowledged d + pairs rules d =
            windows_le rules d job.number of_job.number job.keys d.views of_job.group ready in
            let rest : 2 * due_pairs rules e + unacknowledged e + 1
            ≤ 2 * due_pairs rules d + unacknowledged d + 1 * (pairs rules d + 1) =
            omega (arith, due, window) in
            let gone : old_jobs e + 1 ≡ old_jobs d = omega (arith, old_sum, once) in
            falls d e (parts_fall d e 1
            (input_gone ((MOST_JOBS + 2) * (length d.journal - d.applied)) (old_jobs e)
            (old_jobs d) gone) fewer rest) fewer few (same_le (saves_to_come d))
        | inr present ↦
            let none : one (is_old job) ≡ 0 = ap one present in
            let level : job.number ≡ d.applied = let past = of_job.number in let low =
            ltb-false job.number d.applied present in omega (arith, past, low) in
            elim (cases_Bool (is_for job)) [
              | inl wanted ↦
                  let less = all_offers_lt rules d job.keys d.views ready wanted in
                  let same : sum_by (left_of rules d) e.views
                  ≡ sum_by (left_of rules d)
                  (views_offered rules d d.applied job.keys d.views) =
                  ap (λ n. sum_by (left_of rules d) (views_offered rules d n job.keys d.views))
                  level in
                  let before : sum_by (left_of rules d) d.views
                  ≡ 2 * due_pairs rules d + unacknowledged d =
                  sum_apart (due_of rules d) (λ view. length view.window) d.views in
                  let after : sum_by (left_of rules d) e.views
                  ≡ 2 * due_pairs rules e + unacknowledged e =
                  sum_apart (due_of rules d) (λ view. length view.window) e.views in
                  let down : 2 * due_pairs rules e + unacknowledged e + 1
                  ≤ 2 * due_pairs rules d + unacknowledged d =
                  omega (arith, less, same, before, after) in
                  let rest : 2 * due_pairs rules e + unacknowledged e + 1
                  ≤ 2 * due_pairs rules d + unacknowledged d + 0 * (pairs rules d + 1) =
                  omega (arith, down) in
                  let stay : old_jobs e ≡ old_jobs d = omega (arith, old_sum, none) in
                  falls d e (parts_fall d e 0
                  (input_stays ((MOST_JOBS + 2) * (length d.journal - d.applied)) (old_jobs e)
                  (old_jobs d) stay) fewer rest) fewer few (same_le (saves_to_come d))
              | inr unwanted ↦
                  let gone : Document S = record d { jobs = without_job d.jobs ticket } in
                  let stay : e ≡ gone =
                  ap (λ vs. record d { jobs = without_job d.jobs ticket; views = vs })
                  (unwanted_same rules d job.number job.keys d.views unwanted) in
                  let not_for : one (is_for job) ≡ 0 = ap one unwanted in
                  let old_same : old_jobs gone ≡ old_jobs d = omega (arith, old_sum, none) in
                  let for_sum : jobs_wanted rules gone + one (is_for job) ≡ jobs_wanted rules d =
                  count_without is_for d.jobs ticket job found in
                  let for_same : jobs_wanted rules gone ≡ jobs_wanted rules d =
                  omega (arith, for_sum, not_for) in
                  let most : jobs_wanted rules d ≤ pairs_with_room rules d =
                  wanted_le rules d d.jobs kept.apart in
                  let jobs : jobs_to_come rules gone + 1 ≤ jobs_to_come rules d =
                  job_goes (pairs_with_room rules d) (length d.jobs) (jobs_wanted rules d)
                  (length gone.jobs) (jobs_wanted rules gone) shorter for_same most in
                  let tiles : tiles_to_come rules gone ≡ tiles_to_come rules d =
                  ap (λ n. ((MOST_JOBS + 2) * (length d.journal - d.applied) + n) *
                  (pairs rules d + 1) + 2 * due_pairs rules d + unacknowledged d) old_same in
                  subst (λ x. left_to_do rules x < left_to_do rules d) (sym stay)
                  (same_tiles (tiles_to_come rules d) (tiles_to_come rules gone)
                  (above_jobs rules d) (jobs_to_come rules d) (jobs_to_come rules gone)
                  (saves_to_come d) tiles jobs)
            ]
      ]

  -- what comes of a painted result of a job that is out
  painted_is : (cut : C → Place → S) (old new : Document S) (ticket : ℕ) (job : Job S)
      (outs : Outs S) → find_job old.jobs ticket ≡ Some job
      → Step rules cut old (Painted ticket job.scene) outs new → new ≡ painted_now old ticket job
  painted_is cut old new ticket job outs found step =
      let paint = subst (Paints rules old ticket job.scene outs new) found step in
      elim paint [
        | inl not_taken ↦ absurd (not_taken.0 refl)
        | inr taken ↦ taken.2
      ]

  pub painted_lowers : (cut : C → Place → S) (old new : Document S) (ticket : ℕ) (job : Job S)
      (outs : Outs S) → find_job old.jobs ticket ≡ Some job → IsKept rules cut old
      → Step rules cut old (Painted ticket job.scene) outs new
      → left_to_do rules new < left_to_do rules old
  painted_lowers cut old new ticket job outs found kept step =
      subst (λ e. left_to_do rules e < left_to_do rules old)
      (sym (painted_is cut old new ticket job outs found step))
      (painted_left old ticket job kept found)

  -- a painted result leaves the put under way as it is
  painted_put : (cut : C → Place → S) (old new : Document S) (ticket : ℕ) (scene : S)
      (outs : Outs S) → Step rules cut old (Painted ticket scene) outs new
      → new.saving.put ≡ old.saving.put
  painted_put cut old new ticket scene outs step =
      let go : (o : Option (Job S)) → Paints rules old ticket scene outs new o
      → new.saving.put ≡ old.saving.put = elim [
        | None ↦ λ paint. ap (λ e. e.saving.put) paint.1
        | Some job ↦ λ paint. elim paint [
          | inl other ↦ ap (λ e. e.saving.put) other.2
          | inr taken ↦ ap (λ e. e.saving.put) taken.2
        ]
      ] in
      go (find_job old.jobs ticket) step

  -- the answer of the store to the put under way
  pub put_answered_lowers : (cut : C → Place → S) (old new : Document S) (ticket : ℕ)
      (result : Result Receipt StoreFault) (put : Put) (outs : Outs S)
      → answered_put ticket (receipt_of result) old.saving.put ≡ Some put
      → Step rules cut old (PutAnswered ticket result) outs new
      → left_to_do rules new < left_to_do rules old
  put_answered_lowers cut old new ticket result put outs taken step =
      let there : is_some old.saving.put ≡ true =
      put_there ticket (receipt_of result) old.saving.put put taken in
      let e : Document S =
      record old { saving = ended (Some put) (is_some (receipt_of result)) old.saving } in
      let is : new ≡ e =
      step.1 ∙ ap
      (λ o. record old { saving = ended o (is_some (receipt_of result)) old.saving }) taken in
      let same : unbound_saves e ≡ unbound_saves old = left_unbound old.saving.saves in
      let once : one (is_some old.saving.put) ≡ 1 = ap one there in
      let less : saves_to_come e + 1 ≤ saves_to_come old =
      put_goes (unbound_saves e) (unbound_saves old) (one (is_some old.saving.put)) same once in
      subst (λ x. left_to_do rules x < left_to_do rules old) (sym is)
      (added_lt (tiles_to_come rules old * above_jobs rules old + jobs_to_come rules old)
      (saves_to_come e) (saves_to_come old) less)

  -- a job that is painted directly behind the turn that cut it
  pub cut_and_painted_lowers : (cut : C → Place → S) (old mid new : Document S)
      (outs later : Outs S) (job : PaintJob S) → Cuts rules cut old outs mid → IsKept rules cut old
      → outs.jobs ≡ job ∷ [] → Step rules cut mid (answered job) later new
      → (new.jobs ≡ old.jobs) × (left_to_do rules new < left_to_do rules old)
  cut_and_painted_lowers cut old mid new outs later job cuts kept one_job step =
      let given_is : outs.jobs ≡ given cuts.job ∷ [] = ap (λ o. o.jobs) cuts.outs_are in
      let same : job ≡ given cuts.job = cc in
      let there : Step rules cut mid (answered (given cuts.job)) later new =
      subst (λ (j : PaintJob S). Step rules cut mid (answered j) later new) same step in
      let kept_mid : IsKept rules cut mid =
      works_keep rules cut old mid outs (inr (inr (inr cuts))) kept in
      let below : AllByRecursion (λ (j : Job S). j.ticket < cuts.job.ticket) old.jobs =
      subst (λ n. AllByRecursion (λ (j : Job S). j.ticket < n) old.jobs)
      (sym cuts.ticket_is) kept.tickets_below in
      let jobs_are : mid.jobs ≡ old.jobs ++ cuts.job ∷ [] = ap (λ e. e.jobs) cuts.new_is in
      let found : find_job mid.jobs cuts.job.ticket ≡ Some cuts.job =
      ap (λ js. find_job js cuts.job.ticket) jobs_are ∙ find_pushed old.jobs cuts.job below in
      let is : new ≡ painted_now mid cuts.job.ticket cuts.job =
      painted_is cut mid new cuts.job.ticket cuts.job later found there in
      let first : left_to_do rules mid < left_to_do rules old =
      cut_lowers cut old mid outs cuts kept in
      let second : left_to_do rules new < left_to_do rules mid =
      painted_lowers cut mid new cuts.job.ticket cuts.job later found kept_mid there in (
        ap (λ e. e.jobs) is ∙ ap (λ js. without_job js cuts.job.ticket) jobs_are
            ∙ without_pushed old.jobs cuts.job below,
        lt_trans first second,
      )

  -- the store's answer to an errand whose put is under way, by its receipt
  answered_errand : (cut : C → Place → S) (mid new : Document S) (errand : Errand) (outs : Outs S)
      → mid.saving.put ≡ Some (put_of errand) → Step rules cut mid (stored errand) outs new
      → (new.jobs ≡ mid.jobs) × (new.saving.put ≡ None)
      × (left_to_do rules new < left_to_do rules mid)
  answered_errand cut mid new errand outs under step =
      let receipt : Option Receipt = Some (own_receipt errand) in
      let taken : answered_put errand.ticket.0 receipt mid.saving.put ≡ Some (put_of errand) =
      ap (λ o. answered_put errand.ticket.0 receipt o) under ∙ own_put errand in (
        ap (λ d. d.jobs) step.1,
        ap (λ d. d.saving.put) step.1 ∙ ap (λ o. (ended o true mid.saving).put) taken,
        put_answered_lowers cut mid new errand.ticket.0 (Ok (own_receipt errand)) (put_of errand)
            outs taken step,
      )

  -- what a turn that works leads to, once all that it gave out is answered
  abbrev IsLess : (old new : Document S) → Type 0
  IsLess old new =
      (new.jobs ≡ old.jobs) × (new.saving.put ≡ old.saving.put)
      × (left_to_do rules new < left_to_do rules old)

  -- the ready saves served, with the put that begins answered directly behind it
  served_at_once : (cut : C → Place → S) (old mid new : Document S) (outs later : Outs S)
      → Serves rules old outs mid → Segment rules cut mid (all_answered outs) later new
      → IsLess old new
  served_at_once cut old mid new outs later serves run =
      let first = served_lowers old mid outs serves in
      let none : old.saving.put ≡ None = no_put old.saving.put
      (list_any (is_ready_save old.applied) old.saving.saves) serves.ready in
      let jobs : mid.jobs ≡ old.jobs = ap (λ e. e.jobs) serves.new_is in
      let errand : Option Errand =
      errand_for old.applied old.file (text_at rules old old.applied) old.saving in
      let rest : Saving =
      record old.saving { saves = left_over old.applied (last_stored old.saving) old.saving.saves } in
      let is : mid.saving ≡ begun errand rest = ap (λ e. e.saving) serves.new_is in
      let all : all_answered outs ≡ map stored (option_to_list errand) =
      ap all_answered serves.outs_are in
      let here : Segment rules cut mid (map stored (option_to_list errand)) later new =
      subst (λ es. Segment rules cut mid es later new) all run in
      let go : (o : Option Errand) → mid.saving ≡ begun o rest
      → Segment rules cut mid (map stored (option_to_list o)) later new → IsLess old new = elim [
        | None ↦ λ same end.
            subst (IsLess old) (sym end.1) (jobs, ap (λ s. s.put) same, first)
        | Some one ↦ λ same end.
            let under : mid.saving.put ≡ Some (put_of one) = ap (λ s. s.put) same in
            let more = answered_errand cut mid end.0 one end.1 under end.3 in
            subst (IsLess old) (sym end.4.1)
            (more.0 ∙ jobs, more.1 ∙ sym none, lt_trans first more.2)
      ] in
      go errand is here

  -- a turn that works, with all that it gave out answered directly behind it
  pub at_once_lowers : (cut : C → Place → S) (old mid new : Document S) (outs later : Outs S)
      → Works rules cut old outs mid → IsKept rules cut old
      → Segment rules cut mid (all_answered outs) later new
      → (new.jobs ≡ old.jobs) × (new.saving.put ≡ old.saving.put)
      × (left_to_do rules new < left_to_do rules old)
  at_once_lowers cut old mid new outs later works kept run =
      let stays : all_answered outs ≡ [] → IsLess old mid → IsLess old new = λ e less.
      let end = subst (λ es. Segment rules cut mid es later new) e run in
      subst (IsLess old) (sym end.1) less in
      elim works [
        | inl serves ↦ served_at_once cut old mid new outs later serves run
        | inr more ↦ elim more [
          | inl applies ↦
              let less = applied_lowers old mid outs applies kept.jobs_few in
              stays (ap all_answered applies.outs_are)
              (less.0, ap (λ e. e.saving.put) applies.new_is, less.1)
          | inr other ↦ elim other [
            | inl sends ↦
                stays (ap all_answered sends.outs_are) (
                  ap (λ e. e.jobs) sends.new_is,
                  ap (λ e. e.saving.put) sends.new_is,
                  sent_lowers old mid outs sends kept,
                )
            | inr cuts ↦
                let jobs_are : outs.jobs ≡ given cuts.job ∷ [] = ap (λ o. o.jobs) cuts.outs_are in
                let all : all_answered outs ≡ answered (given cuts.job) ∷ [] =
                ap all_answered cuts.outs_are in
                let one = subst (λ es. Segment rules cut mid es later new) all run in
                let less = cut_and_painted_lowers cut old mid one.0 outs one.1
                (given cuts.job) cuts kept jobs_are one.3 in
                let puts : one.0.saving.put ≡ mid.saving.put =
                painted_put cut mid one.0 cuts.job.ticket cuts.job.scene one.1 one.3 in
                subst (IsLess old) (sym one.4.1)
                (less.0, puts ∙ ap (λ e. e.saving.put) cuts.new_is, less.1)
          ]
        ]
      ]
