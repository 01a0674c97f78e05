-- The work that is next can be done.
use Rattle.std.proofs.Common.{◌≡◌, ℕ, zero, suc, ◌+◌, ◌<◌, ◌≤◌, Bool, true, false, not, ◌&&◌, ◌||◌, cond, nat_eq, List, [], ◌∷◌, ◌++◌, length, Option, Some, is_some, refl, ap, sym, subst, ◌∙◌, arith}
use Rattle.std.specs.Prelude.{nat_lt, slice_get}
use Rattle.std.specs.List.{list_any, AllByRecursion}
use Rattle.std.proofs.lemmas.Bool.{and_parts, eqb-true, ltb-false, ltb-true, not-true}
use Rattle.std.proofs.lemmas.Bool.Decides.{nat_tests}
use Rattle.kit_trait.specs.Rules.{Rules, doc}
use Rattle.kit_trait.specs.declared.values.Input.{Input}
use Rattle.tile_key.specs.Places.{Place, place_of_keys, same_place}
use Rattle.document_machine.proofs.Groups.{group_is}
use Rattle.document_machine.specs.Due.{has_room, is_current, is_due, is_not_back, is_out, is_owed, is_wanted, sent, tile_frame, version_of}
use Rattle.document_machine.specs.Goes.{DoesNext, next_work}
use Rattle.document_machine.specs.Held.{Held, current_version, kept_by, kept_version}
use Rattle.document_machine.specs.Keys.{Pairwise}
use Rattle.document_machine.specs.Kept.{IsHeld, IsPresentKept, IsTileKept}
use Rattle.document_machine.specs.Next.{Work, Serve, Apply, Send, Cut, Rest, group_at, is_free, joins_group}
use Rattle.document_machine.specs.Outputs.{frames_only}
use Rattle.document_machine.specs.Saves.{saving_served, served_outs}
use Rattle.document_machine.specs.State.{Shown, View, Job, Document, find_view, with_view}
use Rattle.document_machine.specs.Step.{Cuts, Does, Sends, given, told}
use Rattle.document_machine.specs.declared.limits.TheConstants.{MOST_JOBS}
use Rattle.document_machine.specs.declared.outs.Turned.{Turned as TurnAnswer}
use Rattle.document_machine.specs.declared.outs.Turned.TheVariants.{Worked, Idle}
use Rattle.document_laws.proofs.Idle.{idle_by, next_is}
use Rattle.document_laws.proofs.KeptTiles.{found_tile}
use Rattle.document_laws.proofs.KeyOrder.{same_is}
use Rattle.document_laws.proofs.Picked.{apply_behind, current_some, cuts_next, right_each, sends_next, serve_ready}
use Rattle.document_laws.proofs.Views.{found_id, found_view}

-- an input that isn't applied is there
some_behind : (journal : List Input) (n : ℕ) → n < length journal
    → (input : Input) × (slice_get journal n ≡ Some input)
some_behind [] n lt = absurd (omega arith)
some_behind (input ∷ inputs) zero lt = (input, refl)
some_behind (input ∷ inputs) (suc n) lt = some_behind inputs n (omega arith)

-- some pass a test that is no stronger
any_imp : {X : Type 0} (p q : X → Bool) (xs : List X) → ((x : X) → p x ≡ true → q x ≡ true)
    → list_any p xs ≡ true → list_any q xs ≡ true
any_imp p q [] imp e = absurd (cc)
any_imp p q (x ∷ xs) imp e =
    let go : (b : Bool) → p x ≡ b → (b || list_any p xs) ≡ true → (q x || list_any q xs) ≡ true =
    elim [
      | true ↦ λ is some. let yes : q x ≡ true = imp x is in rw yes refl
      | false ↦ λ is some.
          let rest : list_any q xs ≡ true = any_imp p q xs imp some in
          let any : (b : Bool) → (b || true) ≡ true = elim [ true ↦ refl | false ↦ refl ] in
          rw rest (any (q x))
    ] in
    go (p x) refl e

-- the view with an id, of views in the order of their ids
none_later : (p : View → Bool) (views : List View) (id : ℕ) → AllByRecursion (λ w. id < w.id) views
    → list_any (λ view. nat_eq view.id id && p view) views ≡ false
none_later p [] id above = refl
none_later p (w ∷ ws) id above =
    let lt : id < w.id = above.0 in
    let off : nat_eq w.id id ≡ false = grind (arith, nat_tests) in
    rw (off, none_later p ws id above.1) refl

found_by : (p : View → Bool) (views : List View) (id : ℕ) → Pairwise (λ v w. v.id < w.id) views
    → list_any (λ view. nat_eq view.id id && p view) views ≡ true
    → (view : View) × (find_view views id ≡ Some view) × (p view ≡ true)
found_by p [] id order e = absurd (cc)
found_by p (v ∷ vs) id order e =
    let go : (a b : Bool) → nat_eq v.id id ≡ a → p v ≡ b
    → ((a && b) || list_any (λ view. nat_eq view.id id && p view) vs) ≡ true
    → (view : View) × (cond a (Some v) (find_view vs id) ≡ Some view) × (p view ≡ true) = elim [
      | true ↦ elim [
        | true ↦ λ here passes some. (v, refl, passes)
        | false ↦ λ here fails some.
            let is : v.id ≡ id = eqb-true v.id id here in
            let none : list_any (λ view. nat_eq view.id id && p view) vs ≡ false =
            none_later p vs id (subst (λ n. AllByRecursion (λ w. n < w.id) vs) is order.0) in
            absurd (cc)
      ]
      | false ↦ λ b away any some. found_by p vs id order.1 some
    ] in
    go (nat_eq v.id id) (p v) refl refl e

-- a version that is below none of the key on a screen is no step back
no_step_back : (screen : List Shown) (key : Place) (version : ℕ)
    → AllByRecursion (λ shown. shown.key ≡ key → shown.version ≤ version) screen
    → is_not_back (version_of screen key) version ≡ true
no_step_back [] key version all = refl
no_step_back (shown ∷ screen) key version all =
    let go : (b : Bool) → same_place shown.key key ≡ b
    → is_not_back (cond b (Some shown.version) (version_of screen key)) version ≡ true = elim [
      | true ↦ λ same. let le : shown.version ≤ version = all.0 (same_is shown.key key same) in
          grind (arith, nat_tests)
      | false ↦ λ apart. no_step_back screen key version all.1
    ] in
    go (same_place shown.key key) refl

module _ {C B S : Type 0} (rules : Rules C B) (cut : C → Place → S) (held : Held S)
    (is : IsHeld rules cut held) where
  abbrev CanDo : Work → Type 0
  CanDo work = (turned : TurnAnswer S) × (new : Held S)
      × Does rules cut held.document work turned new.document × (new.kept ≡ kept_by held.kept work)

  level_by : nat_lt held.document.applied (length held.document.journal) ≡ false
      → held.document.applied ≡ length held.document.journal
  level_by off =
      let over : length held.document.journal ≤ held.document.applied =
      ltb-false held.document.applied (length held.document.journal) off in
      let under : held.document.applied ≤ length held.document.journal = is.document.level in
      omega arith

  can_send : (id : ℕ) (key : Place) (version : ℕ) → next_work rules held ≡ Send id key version
      → CanDo (Send id key version)
  can_send id key version picked =
      let d : Document S = held.document in
      let next = sends_next rules d (current_version rules held) id key version picked in
      let found = current_some rules d key (kept_version held.kept key) version next.3 in
      let pair = next_is rules (current_version rules held) d id key next.2 in
      let some = found_by
      (λ view. has_room view && is_due rules d view key) d.views id is.document.ids pair.1 in
      let view : View = some.0 in
      let id_is : view.id ≡ id = found_id d.views id view some.1 in
      let parts = and_parts (has_room view) (is_due rules d view key) some.2 in
      let tile : IsTileKept rules d (record { key = key; version = version }) =
      found_tile (IsTileKept rules d) held.kept key version is.kept_each found.0 in
      let present : IsPresentKept d (record { key = key; version = version }) =
      found_tile (λ t. is_current rules d t.version t.key ≡ true → IsPresentKept d t) held.kept
      key version is.kept_present found.0 found.1 in
      let below : AllByRecursion (λ shown. shown.key ≡ key → shown.version ≤ version) view.screen =
      found_view (λ v. AllByRecursion
      (λ shown. shown.key ≡ key → shown.version ≤ version) v.screen) d.views id view
      present.not_ahead some.1 in
      let new : Document S =
      record d { views = with_view d.views view.id (sent rules d version key) } in
      let sends : Sends rules d (frames_only (tile_frame rules d version key view ∷ [])) new =
      record {
        view = view;
        key = key;
        version = version;
        no_save = next.0;
        level = level_by next.1;
        live = ap (find_view d.views) id_is ∙ some.1;
        room = parts.0;
        due = parts.1;
        past = tile.version;
        current = found.1;
        not_back = no_step_back view.screen key version below;
        outs_are = refl;
        new_is = refl;
      } in (
        Worked (frames_only (tile_frame rules d version key view ∷ [])),
        record
            { document = new; kept = kept_by held.kept (Send id key version) },
        (sends, id_is, refl, refl),
        refl,
      )

  can_cut : (id : ℕ) (keys : List Place) → next_work rules held ≡ Cut id keys → CanDo (Cut id keys)
  can_cut id keys picked =
      let d : Document S = held.document in
      let kept : Place → Option ℕ = current_version rules held in
      let next = cuts_next rules d kept id keys picked in
      let key : Place = next.0 in
      let group : List Place = group_at rules kept d key in
      let pair = next_is rules kept d id key next.3 in
      let none : is_some (kept key) ≡ false = ap is_some next.4 in
      let serve : (nat_lt (length d.jobs) MOST_JOBS && not (is_out d.jobs key)) ≡ true =
      ap (λ b. b || (nat_lt (length d.jobs) MOST_JOBS && not (is_out d.jobs key))) (sym none)
      ∙ pair.0 in
      let open_to = and_parts (nat_lt (length d.jobs) MOST_JOBS) (not (is_out d.jobs key)) serve in
      let wanted : is_wanted rules d key ≡ true =
      any_imp (λ view. nat_eq view.id id && (has_room view && is_due rules d view key))
      (λ view. has_room view && is_due rules d view key) d.views
      (λ view e. (and_parts (nat_eq view.id id) _ e).1) pair.1 in
      let owed : is_owed rules d key ≡ true =
      any_imp (λ view. has_room view && is_due rules d view key)
      (λ view. is_due rules d view key) d.views
      (λ view e. (and_parts (has_room view) (is_due rules d view key) e).1) wanted in
      let joins : Place → Bool = joins_group rules kept d in
      let job : Job S =
      record {
        ticket = d.next_ticket;
        number = d.applied;
        keys = group;
        area =
            place_of_keys group;
        scene =
            cut (doc rules d.base d.journal d.applied) (place_of_keys group);
      } in
      let new : Document S =
      record d { jobs = d.jobs ++ job ∷ []; next_ticket = d.next_ticket + 1 } in
      let cuts : Cuts rules cut d
      (record { frames = []; jobs = given job ∷ []; errands = [] }) new = record {
        job = job;
        no_save = next.1;
        level = level_by next.2;
        few = ltb-true (length d.jobs) MOST_JOBS open_to.0;
        ticket_is = refl;
        number_is = refl;
        group = group_is rules kept d key;
        area_is = refl;
        free = (
          not-true (is_out d.jobs key) open_to.1,
          right_each
              (λ k. is_out d.jobs k ≡ false) joins
              (λ k e. not-true (is_out d.jobs k)
              (and_parts (not (is_some (kept k))) (not (is_out d.jobs k))
              (and_parts (is_owed rules d k) (is_free kept d.jobs k) e).1).1) 7 key,
        );
        owed = (
          owed,
          right_each (λ k. is_owed rules d k ≡ true) joins
              (λ k e. (and_parts (is_owed rules d k) (is_free kept d.jobs k) e).0) 7 key,
        );
        wanted = rw wanted refl;
        scene_is = refl;
        outs_are = refl;
        new_is = refl;
      } in (
        Worked (record { frames = []; jobs = given job ∷ []; errands = [] }),
        record
            { document = new; kept = held.kept },
        (cuts, next.5),
        refl,
      )

  -- what is next can be done
  can_do : (work : Work) → next_work rules held ≡ work → CanDo work
  can_do Serve picked =
      let d : Document S = held.document in (
        Worked (served_outs rules d),
        record
            { document = record d { saving = saving_served rules d }; kept = held.kept },
        record {
          ready = serve_ready rules d (current_version rules held) picked;
          outs_are =
              refl;
          new_is = refl;
        },
        refl,
      )
  can_do Apply picked =
      let d : Document S = held.document in
      let behind = apply_behind rules d (current_version rules held) picked in
      let more : d.applied < length d.journal = ltb-true d.applied (length d.journal) behind.1 in
      let some = some_behind d.journal d.applied more in (
        Worked (frames_only
            (told d.views (rules.hurt (doc rules d.base d.journal d.applied) some.0))),
        record { document = record d { applied = d.applied + 1 }; kept = held.kept },
        record {
          input = some.0;
          no_save = behind.0;
          behind = some.1;
          new_is = refl;
          outs_are =
              refl;
        },
        refl,
      )
  can_do (Send id key version) picked = can_send id key version picked
  can_do (Cut id keys) picked = can_cut id keys picked
  can_do Rest picked = (
    Idle,
    held,
    (idle_by rules (current_version rules held) held.document is.document.level picked, refl),
    refl,
  )

  -- so there is a turn that does it
  pub next_is_done : (turned : TurnAnswer S) × (new : Held S) × DoesNext rules cut held turned new
  next_is_done = let done = can_do (next_work rules held) refl in (done.0, done.1, (done.2, done.3))
