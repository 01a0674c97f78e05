-- Each work of a turn lowers the rank, and the rank never goes below nothing.
use Rattle.std.proofs.Common.{◌≡◌, ℕ, ◌+◌, ◌*◌, ◌<◌, ◌≤◌, Bool, true, false, not, ◌&&◌, ◌||◌, cond, nat_eq, List, [], ◌∷◌, ◌++◌, length, Option, None, Some, refl, ap, sym, subst, ◌∙◌, arith, inl, inr, add-one}
use Rattle.std.specs.Prelude.{◌-◌, is_none, nat_le, map, filter}
use Rattle.std.specs.List.{list_any, count_by, sum_by, AllByRecursion}
use Rattle.std.proofs.lemmas.Bool.{cases_Bool, and_parts, or_parts, not-true}
use Rattle.std.proofs.lemmas.List.Sums.{sum_by-cons, sum_by_push}
use Rattle.kit_trait.specs.Rules.{Rules}
use Rattle.outside.specs.declared.errands.Errand.{Errand}
use Rattle.save_core.specs.Saving.{Saving, begun, bound_to, errand_for, is_ready_save, is_unmodified, last_stored, left_over}
use Rattle.save_core.specs.declared.values.Save.{Save}
use Rattle.kit_trait.specs.declared.values.Input.{Input}
use Rattle.tile_key.specs.Places.{Place, same_place}
use Rattle.document_machine.proofs.Lists.{holds_among, same_self}
use Rattle.document_machine.specs.Due.{is_due, is_lacking, is_wanted, has_room, is_out, touched, keys, version_of, visible, sent}
use Rattle.document_machine.specs.Keys.{is_among, inserted, ordered}
use Rattle.document_machine.specs.Kept.{IsKept, ShareNone, AreApart}
use Rattle.document_machine.specs.Rank.{IsLower, is_due_somewhere, jobs_due, due_pairs, pairs, pairs_with_room, still_to_come, unbound_saves}
use Rattle.document_machine.specs.Saves.{has_ready_save, saving_served, text_at}
use Rattle.document_machine.specs.State.{View, Job, Document, find_view, with_view}
use Rattle.document_machine.specs.Step.{Works}
use Rattle.document_machine.specs.declared.outs.Outs.{Outs}
use Rattle.document_laws.proofs.KeyOrder.{same_is, same_sym}
use Rattle.document_laws.proofs.Ordered.{one, among_inserted}
use Rattle.document_laws.proofs.Sending.{sent_due}
use Rattle.document_laws.proofs.Fewer.{IsReady, due_of, all_ready, due_less, due_le_pairs, count_le, count_lt}
use Rattle.document_laws.proofs.Sums.{any_le, count_jobs_le, count_none, no_input, one_input, one_le, sum_le, sum_with}
use Rattle.document_laws.proofs.Views.{found_view, some_input}

-- a key in order is one of the two lists
pub among_ordered : (keys list : List Place) (x : Place)
    → is_among (ordered keys list) x ≡ (is_among list x || is_among keys x)
among_ordered [] list x = let go : (b : Bool) → b ≡ (b || false) =
    elim [ true ↦ refl | false ↦ refl ] in go (is_among list x)
among_ordered (key ∷ keys) list x =
    let join : (a b c : Bool) → ((a || b) || c) ≡ (a || (b || c)) =
    elim [ true ↦ λ b c. refl | false ↦ λ b c. refl ] in
    among_ordered keys (inserted list key) x
    ∙ ap (λ b. b || is_among keys x) (among_inserted list key x)
    ∙ join (is_among list x) (same_place key x) (is_among keys x)

-- what is due is seen or asked for
pub due_among : {C B S : Type 0} (rules : Rules C B) (d : Document S) (view : View) (key : Place)
    → is_due rules d view key ≡ true → is_among (keys rules d view) key ≡ true
due_among rules d view key due =
    let go : (a b c : Bool) → ((a && b) || c) ≡ true → (a || c) ≡ true = elim [
      | true ↦ λ b c e. refl
      | false ↦ λ b c e. e
    ] in
    among_ordered view.asked (visible rules d view) key
    ∙ go (is_among (visible rules d view) key) (is_lacking rules d key (version_of view.screen key))
    (is_among view.asked key) due

-- the key of a list that passes
any_key : (p : Place → Bool) (list : List Place) → list_any p list ≡ true
    → (key : Place) × (is_among list key ≡ true) × (p key ≡ true)
any_key p [] e = absurd (cc)
any_key p (x ∷ xs) e =
    let go : (b : Bool) → p x ≡ b → (b || list_any p xs) ≡ true
    → (key : Place) × (is_among (x ∷ xs) key ≡ true) × (p key ≡ true) = elim [
      | true ↦ λ is some. (x, rw (same_self x) refl, is)
      | false ↦ λ is some.
          let rest = any_key p xs some in
          let any : (b : Bool) → (b || true) ≡ true = elim [ true ↦ refl | false ↦ refl ] in
          (rest.0, ap (λ b. same_place x rest.0 || b) rest.1 ∙ any (same_place x rest.0), rest.2)
    ] in
    go (p x) refl e

-- a key of a job is in none that shares none with it
apart_out : {S : Type 0} (job : Job S) (jobs : List (Job S)) (key : Place)
    → AllByRecursion (ShareNone job) jobs → is_among job.keys key ≡ true → is_out jobs key ≡ false
apart_out job [] key apart among = refl
apart_out job (other ∷ others) key apart among =
    let rest : is_out others key ≡ false = apart_out job others key apart.1 among in
    elim (cases_Bool (is_among other.keys key)) [
      | inl there ↦
          absurd (let none : is_among job.keys key ≡ false =
          holds_among (λ k. is_among job.keys k ≡ false) other.keys key
          (λ p q e off. subst (λ k. is_among job.keys k ≡ false) (same_is p q e) off) apart.0
          there in cc)
      | inr away ↦ rw (away, rest) refl
    ]

-- jobs that share no key are no more than the pairs that they are for, whatever pairs those are
module _ (keys_of : View → List Place) (asks : View → Place → Bool)
    (there : (view : View) (key : Place) → asks view key ≡ true
    → is_among (keys_of view) key ≡ true) where
  -- the pairs of some keys
  abbrev asked_within : (Place → Bool) → View → ℕ
  asked_within some view = count_by (λ key. asks view key && some key) (keys_of view)

  within_le : (some more : Place → Bool) (view : View)
      → ((key : Place) → some key ≡ true → more key ≡ true)
      → asked_within some view ≤ asked_within more view
  within_le some more view imp =
      count_le (λ key. asks view key && some key) (λ key. asks view key && more key) (keys_of view)
      (λ key e. let parts = and_parts (asks view key) (some key) e in let yes : more key ≡ true =
      imp key parts.1 in rw (parts.0, yes) refl)

  within_lt : (some more : Place → Bool) (view : View) (key : Place)
      → ((key : Place) → some key ≡ true → more key ≡ true) → asks view key ≡ true
      → some key ≡ false → more key ≡ true → asked_within some view + 1 ≤ asked_within more view
  within_lt some more view key imp asked off on =
      let none : (b : Bool) → (b && false) ≡ false = elim [ true ↦ refl | false ↦ refl ] in
      let a : (asks view key && some key) ≡ false =
      ap (λ b. asks view key && b) off ∙ none (asks view key) in
      let b : (asks view key && more key) ≡ true = rw (asked, on) refl in
      count_lt (λ key. asks view key && some key) (λ key. asks view key && more key)
      (keys_of view) key
      (λ key e. let ps = and_parts (asks view key) (some key) e in let yes : more key ≡ true =
      imp key ps.1 in rw (ps.0, yes) refl) (there view key asked) a b

  all_within_lt : (some more : Place → Bool) (views : List View) (key : Place)
      → ((key : Place) → some key ≡ true → more key ≡ true)
      → list_any (λ view. asks view key) views ≡ true → some key ≡ false → more key ≡ true
      → sum_by (asked_within some) views + 1 ≤ sum_by (asked_within more) views
  all_within_lt some more [] key imp any off on = absurd (cc)
  all_within_lt some more (view ∷ views) key imp any off on =
      let first = sum_by-cons (asked_within some) view views in
      let second = sum_by-cons (asked_within more) view views in
      let go : (b : Bool) → asks view key ≡ b → (b || list_any (λ view. asks view key) views) ≡ true
      → sum_by (asked_within some) (view ∷ views) + 1
      ≤ sum_by (asked_within more) (view ∷ views) = elim [
        | true ↦ λ here any. omega (
          arith,
          first,
          second,
          within_lt some more view key imp here off on,
          sum_le
              (asked_within some) (asked_within more) views (λ v. within_le some more v imp),
        )
        | false ↦ λ away any. omega (
          arith,
          first,
          second,
          within_le some more view imp,
          all_within_lt some more views key
              imp any off on,
        )
      ] in
      go (asks view key) refl any

  -- a job has a key of such a pair
  abbrev is_for : {S : Type 0} → List View → Job S → Bool
  is_for views job = list_any (λ key. list_any (λ view. asks view key) views) job.keys

  counts : {S : Type 0} (views : List View) (jobs : List (Job S)) → AreApart jobs
      → count_by (is_for views) jobs ≤ sum_by (asked_within (is_out jobs)) views
  counts views [] apart = omega arith
  counts views (job ∷ jobs) apart =
      let first = sum_by-cons (λ j. one (is_for views j)) job jobs in
      let rest : count_by (is_for views) jobs ≤ sum_by (asked_within (is_out jobs)) views =
      counts views jobs apart.1 in
      let imp : (key : Place) → is_out jobs key ≡ true → is_out (job ∷ jobs) key ≡ true = λ key e.
      let any : (b : Bool) → (b || true) ≡ true = elim [ true ↦ refl | false ↦ refl ] in
      rw e (any (is_among job.keys key)) in
      let go : (b : Bool) → is_for views job ≡ b
      → count_by (is_for views) (job ∷ jobs)
      ≤ sum_by (asked_within (is_out (job ∷ jobs))) views = elim [
        | true ↦ λ due.
            let it = any_key (λ key. list_any (λ view. asks view key) views) job.keys due in
            let off : is_out jobs it.0 ≡ false = apart_out job jobs it.0 apart.0 it.1 in
            let on : is_out (job ∷ jobs) it.0 ≡ true = ap (λ b. b || is_out jobs it.0) it.1 in
            let more = all_within_lt (is_out jobs)
            (is_out (job ∷ jobs)) views it.0 imp it.2 off on in
            let once : one (is_for views job) ≤ 1 = rw due (omega arith) in
            omega (arith, first, rest, more, once)
        | false ↦ λ none.
            let more : sum_by (asked_within (is_out jobs)) views
            ≤ sum_by (asked_within (is_out (job ∷ jobs))) views =
            sum_le (asked_within (is_out jobs)) (asked_within (is_out (job ∷ jobs))) views
            (λ v. within_le (is_out jobs) (is_out (job ∷ jobs)) v imp) in
            let no : one (is_for views job) ≤ 0 = rw none (omega arith) in
            omega (arith, first, rest, more, no)
      ] in
      go (is_for views job) refl

  -- so no more of the jobs have such a pair than there are
  pub jobs_le : {S : Type 0} (views : List View) (jobs : List (Job S)) → AreApart jobs
      → count_by (is_for views) jobs ≤ sum_by (λ view. count_by (asks view) (keys_of view)) views
  jobs_le views jobs apart =
      let some = counts views jobs apart in
      let all : sum_by (asked_within (is_out jobs)) views
      ≤ sum_by (λ view. count_by (asks view) (keys_of view)) views =
      sum_le (asked_within (is_out jobs)) (λ view. count_by (asks view) (keys_of view)) views
      (λ view. count_le (λ key. asks view key && is_out jobs key) (asks view) (keys_of view)
      (λ key e. (and_parts (asks view key) (is_out jobs key) e).0)) in
      omega (arith, some, all)

module _ {C B S : Type 0} (rules : Rules C B) (d : Document S) where
  -- a view is due the key
  abbrev due_there : Place → View → Bool
  due_there key view = is_due rules d view key && is_among (keys rules d view) key

  there_by : (key : Place) (view : View) → is_due rules d view key ≡ true
      → due_there key view ≡ true
  there_by key view due = let among : is_among (keys rules d view) key ≡ true =
      due_among rules d view key due in rw (due, among) refl

  -- a job has a due pair
  abbrev has_due : Job S → Bool
  has_due job = list_any (is_due_somewhere rules d) job.keys

  -- no more jobs out have a due pair than there are due pairs
  pub rank_counts : AreApart d.jobs → jobs_due rules d ≤ due_pairs rules d
  rank_counts apart =
      let plain : jobs_due rules d
      ≤ count_by (λ (job : Job S). list_any
      (λ key. list_any (λ view. is_due rules d view key) d.views) job.keys) d.jobs =
      count_jobs_le (has_due)
      (λ (job : Job S). list_any
      (λ key. list_any (λ view. is_due rules d view key) d.views) job.keys) d.jobs
      (λ job e. any_le (is_due_somewhere rules d)
      (λ key. list_any (λ view. is_due rules d view key) d.views) job.keys
      (λ key some. any_le (due_there key) (λ view. is_due rules d view key) d.views
      (λ view here. (and_parts (is_due rules d view key) (is_among (keys rules d view) key) here).0)
      some) e) in
      let most : count_by
      (λ (job : Job S). list_any
      (λ key. list_any (λ view. is_due rules d view key) d.views) job.keys) d.jobs
      ≤ due_pairs rules d =
      jobs_le (keys rules d) (is_due rules d)
      (λ view key due. due_among rules d view key due) d.views d.jobs apart in
      omega (arith, plain, most)

  -- a view with room is due the key
  abbrev pub open_to : View → Place → Bool
  open_to view key = has_room view && is_due rules d view key

  -- no more jobs are wanted than there are due pairs whose view has room
  pub wanted_le : (jobs : List (Job S)) → AreApart jobs
      → count_by (λ (job : Job S). list_any (is_wanted rules d) job.keys) jobs
      ≤ pairs_with_room rules d
  wanted_le jobs apart =
      let most : count_by (λ (job : Job S). list_any (is_wanted rules d) job.keys) jobs
      ≤ sum_by (λ view. count_by (open_to view) (keys rules d view)) d.views =
      jobs_le (keys rules d) open_to
      (λ view key e. due_among rules d view key
      (and_parts (has_room view) (is_due rules d view key) e).1) d.views jobs apart in
      let here : (view : View)
      → count_by (open_to view) (keys rules d view)
      ≤ cond (has_room view) (count_by (is_due rules d view) (keys rules d view)) 0 = λ view.
      elim (has_room view) as
      (λ b. count_by (λ key. b && is_due rules d view key) (keys rules d view)
      ≤ cond b (count_by (is_due rules d view) (keys rules d view)) 0) [
        | true ↦ count_le (λ key. true && is_due rules d view key) (is_due rules d view)
            (keys rules d view) (λ key e. e)
        | false ↦ let none : count_by (λ key. false && is_due rules d view key) (keys rules d view)
            ≡ 0 = count_none (keys rules d view) in omega (arith, none)
      ] in
      let same = sum_le (λ view. count_by (open_to view) (keys rules d view))
      (λ view. cond (has_room view) (count_by (is_due rules d view) (keys rules d view)) 0)
      d.views here in
      omega (arith, most, same)

-- the saves that no put is for yet
abbrev pub is_unbound : Save → Bool
is_unbound save = not save.bound

-- a save is no less bound once the ready ones are, and a ready one is bound then
bound_le : (b m : Bool) → one (not (b || m)) ≤ one (not b)
bound_le true m = omega arith
bound_le false true = omega arith
bound_le false false = omega arith

bound_lt : (b m : Bool) → (not b && m) ≡ true → one (not (b || m)) + 1 ≤ one (not b)
bound_lt true m e = absurd (cc)
bound_lt false true e = omega arith
bound_lt false false e = absurd (cc)

-- no more are unbound once the ready ones are served
left_le : (applied last : ℕ) (saves : List Save)
    → count_by is_unbound (left_over applied last saves) ≤ count_by is_unbound saves
left_le applied last [] = omega arith
left_le applied last (save ∷ saves) =
    let rest : count_by is_unbound (left_over applied last saves) ≤ count_by is_unbound saves =
    left_le applied last saves in
    let here : one (is_unbound (bound_to applied save)) ≤ one (is_unbound save) =
    bound_le save.bound (nat_le save.mark applied) in
    let more = sum_by-cons (λ s. one (is_unbound s)) save saves in
    let after =
    sum_by-cons (λ s. one (is_unbound s)) (bound_to applied save)
    (left_over applied last saves) in
    elim (is_unmodified applied last save) as
    (λ b. count_by is_unbound
    (map (bound_to applied)
    (cond (not b) (save ∷ filter (λ s. not (is_unmodified applied last s)) saves)
    (filter (λ s. not (is_unmodified applied last s)) saves)))
    ≤ count_by is_unbound (save ∷ saves)) [
      | true ↦ omega (arith, rest, more)
      | false ↦ omega (arith, rest, here, more, after)
    ]

-- and one fewer at least where one was ready
left_lt : (applied last : ℕ) (saves : List Save) → list_any (is_ready_save applied) saves ≡ true
    → count_by is_unbound (left_over applied last saves) + 1 ≤ count_by is_unbound saves
left_lt applied last [] e = absurd (cc)
left_lt applied last (save ∷ saves) e =
    let all : count_by is_unbound (left_over applied last saves) ≤ count_by is_unbound saves =
    left_le applied last saves in
    let here : one (is_unbound (bound_to applied save)) ≤ one (is_unbound save) =
    bound_le save.bound (nat_le save.mark applied) in
    let more = sum_by-cons (λ s. one (is_unbound s)) save saves in
    let after =
    sum_by-cons (λ s. one (is_unbound s)) (bound_to applied save)
    (left_over applied last saves) in
    let go : (r b : Bool) → is_ready_save applied save ≡ r
    → (r || list_any (is_ready_save applied) saves) ≡ true
    → count_by is_unbound
    (map (bound_to applied)
    (cond (not b) (save ∷ filter (λ s. not (is_unmodified applied last s)) saves)
    (filter (λ s. not (is_unmodified applied last s)) saves))) + 1
    ≤ count_by is_unbound (save ∷ saves) = elim [
      | true ↦ λ b is some.
          let less : one (is_unbound (bound_to applied save)) + 1 ≤ one (is_unbound save) =
          bound_lt save.bound (nat_le save.mark applied) is in
          elim b as (λ b. count_by is_unbound
          (map (bound_to applied)
          (cond (not b) (save ∷ filter (λ s. not (is_unmodified applied last s)) saves)
          (filter (λ s. not (is_unmodified applied last s)) saves))) + 1
          ≤ count_by is_unbound (save ∷ saves)) [
            | true ↦ omega (arith, all, less, more)
            | false ↦ omega (arith, all, less, more, after)
          ]
      | false ↦ λ b is some.
          let rest : count_by is_unbound (left_over applied last saves) + 1
          ≤ count_by is_unbound saves = left_lt applied last saves some in
          elim b as (λ b. count_by is_unbound
          (map (bound_to applied)
          (cond (not b) (save ∷ filter (λ s. not (is_unmodified applied last s)) saves)
          (filter (λ s. not (is_unmodified applied last s)) saves))) + 1
          ≤ count_by is_unbound (save ∷ saves)) [
            | true ↦ omega (arith, rest, more)
            | false ↦ omega (arith, rest, here, more, after)
          ]
    ] in
    go (is_ready_save applied save) (is_unmodified applied last save) refl e

lower_by : (x jobs u w : ℕ) → u + 1 ≤ w → x + u + jobs < x + w + jobs
lower_by x jobs u w less = omega arith

-- a put that begins changes no save
begun_saves : (o : Option Errand) (s : Saving) → (begun o s).saves ≡ s.saves
begun_saves None s = refl
begun_saves (Some errand) s = refl

module _ {C B S : Type 0} (rules : Rules C B) (d : Document S) where
  abbrev pub served_now : Document S
  served_now = record d { saving = saving_served rules d }

  -- fewer saves are unbound once the ready ones are served
  pub served_fewer : has_ready_save d ≡ true → unbound_saves served_now + 1 ≤ unbound_saves d
  served_fewer ready =
      let some : list_any (is_ready_save d.applied) d.saving.saves
      ≡ true = (and_parts (is_none d.saving.put)
      (list_any (is_ready_save d.applied) d.saving.saves) ready).1 in
      let same : unbound_saves served_now
      ≡ count_by is_unbound (left_over d.applied (last_stored d.saving) d.saving.saves) =
      ap (λ saves. count_by is_unbound saves)
      (begun_saves (errand_for d.applied d.file (text_at rules d d.applied) d.saving)
      (record d.saving { saves = left_over d.applied (last_stored d.saving) d.saving.saves }))
      in
      let less = left_lt d.applied (last_stored d.saving) d.saving.saves some in
      omega (arith, same, less)

  served_lower : has_ready_save d ≡ true → IsLower rules served_now d
  served_lower ready =
      lower_by ((length d.journal - d.applied) * (2 * pairs rules d + 1) + 2 * due_pairs rules d)
      (jobs_due rules d) (unbound_saves served_now) (unbound_saves d) (served_fewer ready)

-- an input more touches no less
touched_more : {C B : Type 0} (rules : Rules C B) (base : List ℕ) (journal : List Input)
    (version : ℕ) (key : Place) (n : ℕ) → touched rules base journal version key n ≡ true
    → touched rules base journal version key (n + 1) ≡ true
touched_more rules base journal version key n e =
    rw add-one (rw e refl)

module _ {C B S : Type 0} (rules : Rules C B) (d : Document S) where
  abbrev one_more : Document S
  one_more = record d { applied = d.applied + 1 }

  lacking_more : (key : Place) (o : Option ℕ) → is_lacking rules d key o ≡ true
      → is_lacking rules one_more key o ≡ true
  lacking_more key None e = refl
  lacking_more key (Some version) e = touched_more rules d.base d.journal version key d.applied e

  due_more : (view : View) (key : Place) → is_due rules d view key ≡ true
      → is_due rules one_more view key ≡ true
  due_more view key due =
      let go : (a b c v : Bool) → (b ≡ true → c ≡ true) → ((a && b) || v) ≡ true
      → ((a && c) || v) ≡ true = elim [
        | true ↦ elim [
          | true ↦ λ c v imp e. let yes : c ≡ true = imp refl in rw yes refl
          | false ↦ λ c v imp e. let on : v ≡ true = e in let any : (b : Bool)
              → (b || true) ≡ true = elim [ true ↦ refl | false ↦ refl ] in rw on (any c)
        ]
        | false ↦ λ b c v imp e. e
      ] in
      go (is_among (visible rules d view) key) (is_lacking rules d key (version_of view.screen key))
      (is_lacking rules one_more key (version_of view.screen key)) (is_among view.asked key)
      (lacking_more key (version_of view.screen key)) due

  jobs_more : jobs_due rules d ≤ jobs_due rules one_more
  jobs_more =
      count_jobs_le (has_due rules d) (has_due rules one_more) d.jobs
      (λ job e. any_le (is_due_somewhere rules d) (is_due_somewhere rules one_more) job.keys
      (λ key some. any_le (due_there rules d key) (due_there rules one_more key) d.views
      (λ view there. let parts =
      and_parts (is_due rules d view key) (is_among (keys rules d view) key) there in
      let due : is_due rules one_more view key ≡ true = due_more view key parts.0 in
      rw (due, parts.1) refl) some) e)

  applied_lower : d.applied < length d.journal → IsLower rules one_more d
  applied_lower more =
      let less = one_input (length d.journal) d.applied (pairs rules d) (due_pairs rules d)
      (due_pairs rules one_more) (unbound_saves d) more (due_le_pairs rules one_more d.views) in
      omega (arith, less, jobs_more)

  -- a job that is cut
  abbrev cut_more : Job S → Document S
  cut_more job = record d { jobs = d.jobs ++ job ∷ []; next_ticket = d.next_ticket + 1 }

  cut_lower : (job : Job S) → list_any (is_wanted rules d) job.keys ≡ true
      → IsLower rules (cut_more job) d
  cut_lower job wanted =
      let due : has_due rules d job ≡ true =
      any_le (is_wanted rules d) (is_due_somewhere rules d) job.keys
      (λ key some. any_le (λ view. has_room view && is_due rules d view key)
      (due_there rules d key) d.views
      (λ view e. there_by rules d key view
      (and_parts (has_room view) (is_due rules d view key) e).1) some) wanted in
      let push : jobs_due rules (cut_more job) ≡ jobs_due rules d + one (has_due rules d job) =
      sum_by_push (λ j. one (has_due rules d j)) d.jobs job in
      let yes : one (has_due rules d job) ≡ 1 = ap one due in
      let same : still_to_come rules (cut_more job) ≡ still_to_come rules d = refl in
      omega (arith, push, yes, same)

pub one_most : (b : Bool) → one b ≤ 1
one_most true = omega arith
one_most false = omega arith

-- some of the views pass a test as before, where the one that has changed does
pub any_with : (p : View → Bool) (views : List View) (id : ℕ) (change : View → View)
    → ((v : View) → p v ≡ true → p (change v) ≡ true) → list_any p views ≡ true
    → list_any p (with_view views id change) ≡ true
any_with p [] id change imp e = e
any_with p (v ∷ vs) id change imp e =
    let any : (b : Bool) → (b || true) ≡ true = elim [ true ↦ refl | false ↦ refl ] in
    let go : (b c : Bool) → p v ≡ c → (c || list_any p vs) ≡ true
    → list_any p (cond b (change v ∷ vs) (v ∷ with_view vs id change)) ≡ true = elim [
      | true ↦ elim [
        | true ↦ λ is some. let yes : p (change v) ≡ true = imp v is in rw yes refl
        | false ↦ λ is some. rw some (any (p (change v)))
      ]
      | false ↦ elim [
        | true ↦ λ is some. rw is refl
        | false ↦ λ is some. let rest : list_any p (with_view vs id change) ≡ true =
            any_with p vs id change imp some in rw rest (any (p v))
      ]
    ] in
    go (nat_eq v.id id) (p v) refl e

-- keys that pass a test, all but one of them another
any_but : (p q : Place → Bool) (key : Place) (list : List Place)
    → ((x : Place) → same_place key x ≡ false → p x ≡ true → q x ≡ true) → is_among list key ≡ false
    → list_any p list ≡ true → list_any q list ≡ true
any_but p q key [] imp none e = absurd (cc)
any_but p q key (x ∷ xs) imp none e =
    let parts = or_parts (same_place x key) (is_among xs key) none in
    let away : same_place key x ≡ false = same_sym key x ∙ parts.0 in
    let go : (b : Bool) → p x ≡ b → (b || list_any p xs) ≡ true → (q x || list_any q xs) ≡ true =
    elim [
      | true ↦ λ is some. let yes : q x ≡ true = imp x away is in rw yes refl
      | false ↦ λ is some.
          let rest : list_any q xs ≡ true = any_but p q key xs imp parts.1 some in
          let any : (b : Bool) → (b || true) ≡ true = elim [ true ↦ refl | false ↦ refl ] in
          rw rest (any (q x))
    ] in
    go (p x) refl e

module _ {C B S : Type 0} (rules : Rules C B) (d : Document S) (id : ℕ) (key : Place) (version : ℕ)
    (clean : touched rules d.base d.journal version key d.applied ≡ false) where
  abbrev sent_to : Document S
  sent_to = record d { views = with_view d.views id (sent rules d version key) }

  -- another key stays due
  other_due : (x : Place) → same_place key x ≡ false → is_due_somewhere rules d x ≡ true
      → is_due_somewhere rules sent_to x ≡ true
  other_due x away some =
      any_with (due_there rules d x) d.views id (sent rules d version key)
      (λ view there.
      let parts = and_parts (is_due rules d view x) (is_among (keys rules d view) x) there in
      let all : (b : Bool) → (b && true) ≡ b = elim [ true ↦ refl | false ↦ refl ] in
      let still : is_due rules d (sent rules d version key view) x ≡ true =
      sent_due rules d version key view clean x ∙ ap (λ b. is_due rules d view x && not b) away
      ∙ all (is_due rules d view x) ∙ parts.0 in
      there_by rules d x (sent rules d version key view) still) some

  stays : (job : Job S) → is_among job.keys key ≡ false → has_due rules d job ≡ true
      → has_due rules sent_to job ≡ true
  stays job none e =
      any_but (is_due_somewhere rules d)
      (is_due_somewhere rules sent_to) key job.keys other_due none e

  without : (jobs : List (Job S)) → is_out jobs key ≡ false
      → count_by (has_due rules d) jobs ≤ count_by (has_due rules sent_to) jobs
  without [] none = omega arith
  without (job ∷ jobs) none =
      let parts = or_parts (is_among job.keys key) (is_out jobs key) none in
      let here : one (has_due rules d job) ≤ one (has_due rules sent_to job) =
      one_le (has_due rules d job) (has_due rules sent_to job) (stays job parts.0) in
      omega (
        arith,
        here,
        without jobs parts.1,
        sum_by-cons
            (λ j. one (has_due rules d j)) job jobs,
        sum_by-cons
            (λ j. one (has_due rules sent_to j)) job jobs,
      )

  -- so each job without the key has a due pair as before, and one at most has the key
  jobs_sent : (jobs : List (Job S)) → AreApart jobs
      → count_by (has_due rules d) jobs ≤ count_by (has_due rules sent_to) jobs + 1
  jobs_sent [] apart = omega arith
  jobs_sent (job ∷ jobs) apart =
      let first = sum_by-cons (λ j. one (has_due rules d j)) job jobs in
      let second = sum_by-cons (λ j. one (has_due rules sent_to j)) job jobs in
      elim (cases_Bool (is_among job.keys key)) [
        | inl there ↦
            let out : is_out jobs key ≡ false = apart_out job jobs key apart.0 there in
            let rest : count_by (has_due rules d) jobs ≤ count_by (has_due rules sent_to) jobs =
            without jobs out in
            let most : one (has_due rules d job) ≤ 1 = one_most (has_due rules d job) in
            omega (arith, first, second, rest, most)
        | inr away ↦
            let here : one (has_due rules d job) ≤ one (has_due rules sent_to job) =
            one_le (has_due rules d job) (has_due rules sent_to job) (stays job away) in
            omega (arith, first, second, here, jobs_sent jobs apart.1)
      ]

  sent_lower : (view : View) → IsReady rules d view → d.applied ≡ length d.journal → id ≡ view.id
      → find_view d.views view.id ≡ Some view → is_due rules d view key ≡ true → version ≤ d.applied
      → AreApart d.jobs → IsLower rules sent_to d
  sent_lower view ready level same live due past apart =
      let less : due_of rules d (sent rules d version key view) + 1 ≤ due_of rules d view =
      due_less rules d version key view clean past ready due in
      let there : find_view d.views id ≡ Some view = ap (find_view d.views) same ∙ live in
      let sum = sum_with (due_of rules d) d.views id (sent rules d version key) view there in
      let jobs = jobs_sent d.jobs apart in
      let a : still_to_come rules sent_to ≡ 2 * due_pairs rules sent_to + unbound_saves d =
      ap (λ n. n + unbound_saves d)
      (no_input (length d.journal) d.applied (2 * pairs rules sent_to + 1)
      (2 * due_pairs rules sent_to) level) in
      let b : still_to_come rules d ≡ 2 * due_pairs rules d + unbound_saves d =
      ap (λ n. n + unbound_saves d)
      (no_input (length d.journal) d.applied (2 * pairs rules d + 1)
      (2 * due_pairs rules d) level) in
      omega (arith, less, sum, jobs, a, b)

module _ {C B S : Type 0} (rules : Rules C B) (cut : C → Place → S) where
  pub work_lowers : (old new : Document S) (outs : Outs S) → Works rules cut old outs new
      → IsKept rules cut old → IsLower rules new old
  work_lowers old new outs works kept =
      elim works [
        | inl serves ↦
            subst (λ (e : Document S). IsLower rules e old) (sym serves.new_is)
            (served_lower rules old serves.ready)
        | inr more ↦ elim more [
          | inl applies ↦
              subst (λ (e : Document S). IsLower rules e old) (sym applies.new_is)
              (applied_lower rules old
              (some_input old.journal old.applied applies.input applies.behind))
          | inr other ↦ elim other [
            | inl sends ↦
                let ready : IsReady rules old sends.view =
                found_view (IsReady rules old) old.views sends.view.id sends.view
                (all_ready rules old kept) sends.live in
                let clean : touched rules old.base old.journal sends.version sends.key old.applied
                ≡ false = not-true
                (touched rules old.base old.journal sends.version sends.key old.applied)
                sends.current in
                subst (λ (e : Document S). IsLower rules e old) (sym sends.new_is)
                (sent_lower rules old sends.view.id sends.key sends.version clean sends.view ready
                sends.level refl sends.live sends.due sends.past kept.apart)
            | inr cuts ↦
                subst (λ (e : Document S). IsLower rules e old) (sym cuts.new_is)
                (cut_lower rules old cuts.job cuts.wanted)
          ]
        ]
      ]
