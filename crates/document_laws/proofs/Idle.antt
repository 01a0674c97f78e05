-- There is nothing to do exactly where no work is next, and what is due is under way.
use Rattle.std.proofs.Common.{◌≡◌, ℕ, ◌≤◌, Bool, true, false, not, ◌&&◌, ◌||◌, cond, nat_eq, List, [], ◌∷◌, length, find, Option, None, Some, refl, ap, sym, ◌∙◌, inl, inr, arith}
use Rattle.std.specs.Prelude.{◌⊎◌, ◌≢◌, nat_lt, is_some}
use Rattle.std.specs.List.{list_any, AllByRecursion}
use Rattle.std.proofs.lemmas.Bool.{cases_Bool, and_parts, or_parts, le-ltb, ltb-false}
use Rattle.kit_trait.specs.Rules.{Rules}
use Rattle.tile_key.specs.Places.{Place}
use Rattle.document_machine.proofs.Lists.{find_holds, nat_eq_self}
use Rattle.document_machine.specs.Due.{has_room, is_due, is_out, keys}
use Rattle.document_machine.specs.Next.{Work, Serve, Apply, Send, Cut, Rest, none_kept, can_serve, group_at, next_key, next_among, next_pair, or_later, pick, serving, serving_next}
use Rattle.document_machine.specs.Saves.{has_ready_save}
use Rattle.document_machine.specs.State.{View, Job, Document}
use Rattle.document_machine.specs.Step.{IsServed, Rests}
use Rattle.document_machine.specs.declared.limits.TheConstants.{MOST_JOBS}
use Rattle.document_laws.specs.Turns.{IsUnderWay}
use Rattle.document_laws.proofs.Ordered.{weaker}

-- nothing is found exactly where all fail the test
find_none : {X : Type 0} (p : X → Bool) (xs : List X) → find p xs ≡ None
    → AllByRecursion (λ x. p x ≡ false) xs
find_none p [] e = tt
find_none p (x ∷ xs) e =
    let go : (b : Bool) → p x ≡ b → cond b (Some x) (find p xs) ≡ None
    → AllByRecursion (λ x. p x ≡ false) (x ∷ xs) = elim [
      | true ↦ λ is none. absurd (cc)
      | false ↦ λ is none. (is, find_none p xs none)
    ] in
    go (p x) refl e

none_found : {X : Type 0} (p : X → Bool) (xs : List X) → AllByRecursion (λ x. p x ≡ false) xs
    → find p xs ≡ None
none_found p [] all = refl
none_found p (x ∷ xs) all = rw (all.0) (none_found p xs all.1)

no_later : (id : ℕ) (o : Option Place) (later : Option (ℕ × Place)) → or_later id o later ≡ None
    → (o ≡ None) × (later ≡ None)
no_later id None later e = (refl, e)
no_later id (Some key) later e = absurd (cc)

key_in : Place → Option (ℕ × Place) → Place
key_in key None = key
key_in key (Some pair) = pair.1

id_in : ℕ → Option (ℕ × Place) → ℕ
id_in id None = id
id_in id (Some pair) = pair.0

-- what always holds
each : {X : Type 0} (P : X → Type 0) (xs : List X) → ((x : X) → P x) → AllByRecursion P xs
each P [] f = tt
each P (x ∷ xs) f = (f x, each P xs f)

-- a key can't be served where it is out or the jobs are full, and, with nothing kept, only there
served_by : {S : Type 0} (kept : Place → Option ℕ) (jobs : List (Job S)) (key : Place)
    → can_serve kept jobs key ≡ false → (is_out jobs key ≡ true) ⊎ (MOST_JOBS ≤ length jobs)
served_by kept jobs key off =
    let parts =
    or_parts (is_some (kept key))
    (nat_lt (length jobs) MOST_JOBS && not (is_out jobs key)) off in
    let go : (a b : Bool) → nat_lt (length jobs) MOST_JOBS ≡ a → is_out jobs key ≡ b
    → (a && not b) ≡ false → (is_out jobs key ≡ true) ⊎ (MOST_JOBS ≤ length jobs) = elim [
      | true ↦ elim [
        | true ↦ λ few out e. inl out
        | false ↦ λ few free e. absurd (cc)
      ]
      | false ↦ λ b full any e. inr (ltb-false (length jobs) MOST_JOBS full)
    ] in
    go (nat_lt (length jobs) MOST_JOBS) (is_out jobs key) refl refl parts.1

not_served_by : {S : Type 0} (jobs : List (Job S)) (key : Place)
    → (is_out jobs key ≡ true) ⊎ (MOST_JOBS ≤ length jobs) → can_serve none_kept jobs key ≡ false
not_served_by jobs key is =
    let none : (b : Bool) → (b && false) ≡ false = elim [ true ↦ refl | false ↦ refl ] in
    elim is [
      | inl out ↦
          ap (λ b. nat_lt (length jobs) MOST_JOBS && not b) out
          ∙ none (nat_lt (length jobs) MOST_JOBS)
      | inr full ↦ ap (λ b. b && not (is_out jobs key)) (le-ltb (length jobs) MOST_JOBS full)
    ]

-- serving a pair is no rest
serving_works : (id : ℕ) (key : Place) (group : List Place) (o : Option ℕ)
    → serving id key group o ≢ Rest
serving_works id key group None e = absurd (cc)
serving_works id key group (Some version) e = absurd (cc)

-- a work is no rest, or it is
rest_or_not : (work : Work) → (work ≡ Rest) ⊎ (work ≢ Rest)
rest_or_not Serve = inr (λ e. absurd (cc))
rest_or_not Apply = inr (λ e. absurd (cc))
rest_or_not (Send id key version) = inr (λ e. absurd (cc))
rest_or_not (Cut id keys) = inr (λ e. absurd (cc))
rest_or_not Rest = inl refl

module _ {C B S : Type 0} (rules : Rules C B) (kept : Place → Option ℕ) (d : Document S) where
  abbrev Served : View → Place → Type 0
  Served view key =
      (has_room view && is_due rules d view key) ≡ true
      → (is_out d.jobs key ≡ true) ⊎ (MOST_JOBS ≤ length d.jobs)

  abbrev serves : View → Place → Bool
  serves view key = can_serve kept d.jobs key && is_due rules d view key

  view_served : (view : View) → next_key rules kept d view ≡ None → IsServed rules d view
  view_served view none =
      let open_to : (key : Place) → serves view key ≡ false → Served view key = λ key off wanted.
      let due : is_due rules d view key
      ≡ true = (and_parts (has_room view) (is_due rules d view key) wanted).1 in
      let all : (b : Bool) → b ≡ (b && true) = elim [ true ↦ refl | false ↦ refl ] in
      served_by kept d.jobs key
      (all (can_serve kept d.jobs key) ∙ ap (λ b. can_serve kept d.jobs key && b) (sym due)
      ∙ off) in
      let go : (b : Bool) → has_room view ≡ b
      → cond b (find (serves view) (keys rules d view)) None ≡ None
      → AllByRecursion (Served view) (keys rules d view) = elim [
        | true ↦ λ room e. weaker (λ key. serves view key ≡ false) (Served view)
            (keys rules d view) open_to (find_none (serves view) (keys rules d view) e)
        | false ↦ λ full e. each (Served view) (keys rules d view)
            (λ key wanted. absurd
            (let room = (and_parts (has_room view) (is_due rules d view key) wanted).0 in cc))
      ] in
      go (has_room view) refl none

  all_served : (views : List View) → next_among rules kept d views ≡ None
      → AllByRecursion (IsServed rules d) views
  all_served [] none = tt
  all_served (view ∷ views) none =
      let parts =
      no_later view.id (next_key rules kept d view) (next_among rules kept d views) none in
      (view_served view parts.0, all_served views parts.1)

  -- where no save is ready, all inputs are applied and no pair is next there is nothing to do
  pub rests_by : has_ready_save d ≡ false → d.applied ≡ length d.journal
      → next_pair rules kept d ≡ None → Rests rules d
  rests_by no_save level none =
      record { no_save = no_save; level = level; served = all_served d.views none }

  -- where no work is next no save is ready, all inputs are applied and no pair is next
  pub none_next : pick rules kept d ≡ Rest
      → (has_ready_save d ≡ false) × (length d.journal ≤ d.applied)
      × (next_pair rules kept d ≡ None)
  none_next rest =
      let go : (a b : Bool) (o : Option (ℕ × Place)) → has_ready_save d ≡ a
      → nat_lt d.applied (length d.journal) ≡ b → next_pair rules kept d ≡ o
      → cond a Serve (cond b Apply (serving_next rules kept d o)) ≡ Rest
      → (has_ready_save d ≡ false) × (length d.journal ≤ d.applied)
      × (next_pair rules kept d ≡ None) = elim [
        | true ↦ λ b o ready more some e. absurd (cc)
        | false ↦ elim [
          | true ↦ λ o ready more some e. absurd (cc)
          | false ↦ elim [
            | None ↦ λ ready more some e. (ready, ltb-false d.applied (length d.journal) more, some)
            | Some (id, key) ↦
                λ ready more some e. absurd
                (serving_works id key (group_at rules kept d key) (kept key) e)
          ]
        ]
      ] in
      go (has_ready_save d) (nat_lt d.applied (length d.journal))
      (next_pair rules kept d) refl refl refl rest

  pub idle_by : d.applied ≤ length d.journal → pick rules kept d ≡ Rest → Rests rules d
  idle_by le rest =
      let none = none_next rest in
      rests_by none.0 (omega (arith, le, none.1)) none.2

  -- so what is due is under way
  pub due_is_under_way : AllByRecursion
      (λ view. AllByRecursion
      (λ key. is_due rules d view key ≡ true → IsUnderWay rules kept d view key)
      (keys rules d view)) d.views
  due_is_under_way =
      let Way : View → Place → Type 0 = λ view key. is_due rules d view key ≡ true
      → IsUnderWay rules kept d view key in
      elim (rest_or_not (pick rules kept d)) [
        | inl rest ↦
            weaker (IsServed rules d)
            (λ view. AllByRecursion (Way view) (keys rules d view)) d.views
            (λ view served. weaker (Served view) (Way view) (keys rules d view)
            (λ key is due. elim (cases_Bool (has_room view)) [
              | inl room ↦
                  let wanted : (has_room view && is_due rules d view key) ≡ true =
                  rw (room, due) refl in
                  elim (is wanted) [
                    | inl out ↦ inl out
                    | inr many ↦ inr (inr (inl many))
                  ]
              | inr full ↦ inr (inl full)
            ]) served) (all_served d.views (none_next rest).2)
        | inr work ↦
            each (λ view. AllByRecursion (Way view) (keys rules d view)) d.views
            (λ view. each (Way view) (keys rules d view) (λ key due. inr (inr (inr work))))
      ]

  -- what is next
  abbrev pub IsNext : ℕ → Place → Type 0
  IsNext id key =
      (can_serve kept d.jobs key ≡ true)
      × (list_any (λ view. nat_eq view.id id && (has_room view && is_due rules d view key)) d.views
      ≡ true)

  first_served : (view : View) (key : Place) → next_key rules kept d view ≡ Some key
      → (has_room view ≡ true) × (serves view key ≡ true)
  first_served view key some =
      let go : (b : Bool) → has_room view ≡ b
      → cond b (find (serves view) (keys rules d view)) None ≡ Some key
      → (has_room view ≡ true) × (serves view key ≡ true) = elim [
        | true ↦ λ room e. (room, find_holds (serves view) (keys rules d view) key e)
        | false ↦ λ full e. absurd (cc)
      ] in
      go (has_room view) refl some

  among_wanted : (views : List View) (id : ℕ) (key : Place)
      → next_among rules kept d views ≡ Some (id, key)
      → (can_serve kept d.jobs key ≡ true)
      × (list_any (λ view. nat_eq view.id id && (has_room view && is_due rules d view key)) views
      ≡ true)
  unfolding key_in id_in
  among_wanted [] id key e = absurd (cc)
  among_wanted (view ∷ views) id key e =
      let any : (b : Bool) → (b || true) ≡ true = elim [ true ↦ refl | false ↦ refl ] in
      let Wanted : View → Bool =
      λ view. nat_eq view.id id && (has_room view && is_due rules d view key) in
      let go : (o : Option Place) → next_key rules kept d view ≡ o
      → or_later view.id o (next_among rules kept d views) ≡ Some (id, key)
      → (can_serve kept d.jobs key ≡ true) × ((Wanted view || list_any Wanted views) ≡ true) =
      elim [
        | None ↦ λ none later.
            let rest = among_wanted views id key later in
            (rest.0, ap (λ b. Wanted view || b) rest.1 ∙ any (Wanted view))
        | Some k ↦ λ some here.
            let same : k ≡ key = ap (key_in key) here in
            let id_is : view.id ≡ id = ap (id_in id) here in
            let is = first_served view key (some ∙ ap Some same) in
            let parts = and_parts (can_serve kept d.jobs key) (is_due rules d view key) is.1 in
            let mine : nat_eq view.id id ≡ true = ap (λ n. nat_eq n id) id_is ∙ nat_eq_self id in
            let wanted : Wanted view ≡ true = rw (mine, is.0, parts.1) refl in
            (parts.0, ap (λ b. b || list_any Wanted views) wanted)
      ] in
      go (next_key rules kept d view) refl e

  pub next_is : (id : ℕ) (key : Place) → next_pair rules kept d ≡ Some (id, key) → IsNext id key
  next_is id key some = among_wanted d.views id key some

module _ {C B S : Type 0} (rules : Rules C B) (d : Document S) where
  view_next : (view : View) → IsServed rules d view → next_key rules none_kept d view ≡ None
  view_next view served =
      let none : (b : Bool) → (b && false) ≡ false = elim [ true ↦ refl | false ↦ refl ] in
      let go : (b : Bool) → has_room view ≡ b
      → cond b (find (serves rules none_kept d view) (keys rules d view)) None ≡ None = elim [
        | true ↦ λ room.
            none_found (serves rules none_kept d view) (keys rules d view)
            (weaker (Served rules none_kept d view)
            (λ key. serves rules none_kept d view key ≡ false) (keys rules d view)
            (λ key is. elim (cases_Bool (is_due rules d view key)) [
              | inl due ↦
                  let wanted : (has_room view && is_due rules d view key) ≡ true =
                  rw (room, due) refl in
                  ap (λ b. b && is_due rules d view key) (not_served_by d.jobs key (is wanted))
              | inr not_due ↦
                  ap (λ b. can_serve none_kept d.jobs key && b) not_due
                  ∙ none (can_serve none_kept d.jobs key)
            ]) served)
        | false ↦ λ full. refl
      ] in
      go (has_room view) refl

  none_among : (views : List View) → AllByRecursion (IsServed rules d) views
      → next_among rules none_kept d views ≡ None
  none_among [] served = refl
  none_among (view ∷ views) served =
      ap (λ o. or_later view.id o (next_among rules none_kept d views)) (view_next view served.0)
      ∙ none_among views served.1

  -- with nothing kept no pair, and so no work, is next where there is nothing to do
  pub next_by : Rests rules d → next_pair rules none_kept d ≡ None
  next_by rests = none_among d.views rests.served

  pub rests_pick : Rests rules d → pick rules none_kept d ≡ Rest
  rests_pick rests =
      let less : nat_lt d.applied (length d.journal) ≡ false = let level = rests.level in
      le-ltb d.applied (length d.journal) (omega (arith, level)) in
      ap (λ b. cond b Serve
      (cond (nat_lt d.applied (length d.journal)) Apply
      (serving_next rules none_kept d (next_pair rules none_kept d)))) rests.no_save
      ∙ ap (λ b. cond b Apply (serving_next rules none_kept d (next_pair rules none_kept d))) less
      ∙ ap (serving_next rules none_kept d) (next_by rests)
