-- What is kept of views stays, whatever becomes of one of them.
use Rattle.std.proofs.Common.{◌≡◌, ℕ, ◌+◌, ◌<◌, ◌≤◌, Bool, true, false, not, ◌&&◌, ◌||◌, cond, nat_eq, List, [], ◌∷◌, ◌++◌, length, map, filter, Some, refl, ap, sym, subst, ◌∙◌, arith, inl, inr, length-append}
use Rattle.std.specs.List.{AllByRecursion}
use Rattle.std.specs.Ordering.{is_lt}
use Rattle.std.proofs.lemmas.Bool.{cases_Bool, and_parts, ltb-true, not-true}
use Rattle.kit_trait.specs.Rules.{Rules}
use Rattle.kit_trait.specs.declared.values.Input.{Input}
use Rattle.tile_key.specs.Places.{Place, IsKey, key_order, same_place}
use Rattle.tile_key.specs.Visible.{IsBefore}
use Rattle.document_machine.proofs.Lists.{all_push, all_filter}
use Rattle.send_window.proofs.Closing.{filter_le}
use Rattle.document_machine.specs.Due.{parts_of, has_room, is_current, is_due, takes, visible, with_version, asked_after, screen_after, sent}
use Rattle.document_machine.specs.Keys.{Pairwise, is_among}
use Rattle.document_machine.specs.Kept.{IsViewKept}
use Rattle.save_core.specs.Saving.{Saving}
use Rattle.document_machine.specs.State.{Shown, View, Job, Document, find_view, with_view, without_view}
use Rattle.document_machine.specs.Step.{offered, views_offered}
use Rattle.document_machine.specs.declared.limits.TheConstants.{MOST_ASKED, MOST_VIEWS}
use Rattle.send_window.specs.declared.windows.TheConstants.{MOST_SENT}
use Rattle.document_laws.proofs.KeyOrder.{same_is, same_sym, before_by, after_by, before_trans}
use Rattle.document_laws.proofs.Ordered.{weaker}
use Rattle.document_laws.proofs.Sending.{asked_other}
use Rattle.document_laws.proofs.Views.{asked_once, pairwise_filter, screen_versions}

-- what follows of those that a filter keeps
pub filter_all : {X : Type 0} (P Q : X → Type 0) (f : X → Bool) (xs : List X)
    → ((x : X) → P x → f x ≡ true → Q x) → AllByRecursion P xs → AllByRecursion Q (filter f xs)
filter_all P Q f [] imp all = tt
filter_all P Q f (x ∷ xs) imp all =
    let go : (b : Bool) → f x ≡ b → AllByRecursion Q (cond b (x ∷ filter f xs) (filter f xs)) =
    elim [
      | true ↦ λ e. (imp x all.0 e, filter_all P Q f xs imp all.1)
      | false ↦ λ e. filter_all P Q f xs imp all.1
    ] in
    go (f x) refl

-- one more behind a list whose pairs hold
pub pairwise_push : {X : Type 0} (R : X → X → Type 0) (xs : List X) (x : X) → Pairwise R xs
    → AllByRecursion (λ y. R y x) xs → Pairwise R (xs ++ x ∷ [])
pairwise_push R [] x order before = (tt, tt)
pairwise_push R (y ∷ ys) x order before =
    (all_push (R y) ys x order.0 before.0, pairwise_push R ys x order.1 before.1)

-- a screen stays in order
abbrev Earlier : Shown → Shown → Type 0
Earlier p q = IsBefore p.key q.key

pub screen_all : (P : Shown → Type 0) (screen : List Shown) (key : Place) (version : ℕ)
    → P (record { key = key; version = version }) → AllByRecursion P screen
    → AllByRecursion P (with_version screen key version)
screen_all P [] key version here all = (here, tt)
screen_all P (shown ∷ screen) key version here all =
    let go : (a b : Bool)
    → AllByRecursion P
    (cond a (record { key = key; version = version } ∷ (shown ∷ screen))
    (cond b (record { key = key; version = version } ∷ screen)
    (shown ∷ with_version screen key version))) = elim [
      | true ↦ λ b. (here, all)
      | false ↦ elim [
        | true ↦ (here, all.1)
        | false ↦ (all.0, screen_all P screen key version here all.1)
      ]
    ] in
    go (is_lt (key_order key shown.key)) (same_place key shown.key)

with_order : (screen : List Shown) (key : Place) (version : ℕ) → Pairwise Earlier screen
    → Pairwise Earlier (with_version screen key version)
with_order [] key version order = (tt, tt)
with_order (shown ∷ screen) key version order =
    let now : Shown = record { key = key; version = version } in
    let go : (a b : Bool) → is_lt (key_order key shown.key) ≡ a → same_place key shown.key ≡ b
    → Pairwise Earlier
    (cond a (now ∷ (shown ∷ screen))
    (cond b (now ∷ screen) (shown ∷ with_version screen key version))) = elim [
      | true ↦ λ b less e.
          let first : IsBefore key shown.key = before_by key shown.key less in (
            (
              first,
              weaker (Earlier shown) (Earlier now) screen
                  (λ s p. before_trans key shown.key s.key first p) order.0,
            ),
            order,
          )
      | false ↦ elim [
        | true ↦ λ less e.
            let is : shown.key ≡ key = sym (same_is key shown.key e) in (
              weaker (Earlier shown) (Earlier now) screen
                  (λ s p. subst (λ k. IsBefore k s.key) is p) order.0,
              order.1,
            )
        | false ↦ λ less e. (
          screen_all (Earlier shown) screen key version
              (after_by key shown.key less e) order.0,
          with_order screen key version order.1,
        )
      ]
    ] in
    go (is_lt (key_order key shown.key)) (same_place key shown.key) refl refl

screen_order : (screen : List Shown) (key : Place) (version : ℕ) (wanted : Bool)
    → Pairwise Earlier screen → Pairwise Earlier (screen_after screen key version wanted)
screen_order screen key version true order = with_order screen key version order
screen_order screen key version false order =
    pairwise_filter Earlier (λ shown. not (same_place shown.key key)) screen order

-- the keys that are asked for after a tile of one of them
asked_all : (P : Place → Type 0) (asked : List Place) (key : Place) (current : Bool)
    → AllByRecursion P asked → AllByRecursion P (asked_after asked key current)
asked_all P asked key true all = all_filter P (λ other. not (same_place other key)) asked all
asked_all P asked key false all = all

asked_few : (n : ℕ) (asked : List Place) (key : Place) (current : Bool) → length asked ≤ n
    → length (asked_after asked key current) ≤ n
asked_few n asked key true few =
    omega (arith, filter_le (λ other. not (same_place other key)) asked)
asked_few n asked key false few = few

pub asked_still : (asked : List Place) (key : Place) (current : Bool) (x : Place)
    → same_place key x ≡ false → is_among (asked_after asked key current) x ≡ is_among asked x
asked_still asked key true x away = asked_other asked key x away
asked_still asked key false x away = refl

module _ (seen : Place → Bool) (asked : List Place) (key : Place) (current : Bool) where
  -- a view that sees these keys and asks for those wants the key
  abbrev wants : List Place → Place → Bool
  wants keys x = seen x || is_among keys x

  wants_still : (x : Place) → same_place key x ≡ false → wants asked x ≡ true
      → wants (asked_after asked key current) x ≡ true
  wants_still x away e = ap (λ b. seen x || b) (asked_still asked key current x away) ∙ e

  screen_wanted : (screen : List Shown) (version : ℕ) (wanted : Bool)
      → wants (asked_after asked key current) key ≡ wanted
      → AllByRecursion (λ shown. wants asked shown.key ≡ true) screen
      → AllByRecursion (λ shown. wants (asked_after asked key current) shown.key ≡ true)
      (screen_after screen key version wanted)
  screen_wanted screen version true is all =
      screen_all (λ shown. wants (asked_after asked key current) shown.key ≡ true) screen key
      version is
      (weaker (λ shown. wants asked shown.key ≡ true)
      (λ shown. wants (asked_after asked key current) shown.key ≡ true) screen
      (λ shown e. elim (cases_Bool (same_place key shown.key)) [
        | inl here ↦
            ap (λ k. wants (asked_after asked key current) k) (sym (same_is key shown.key here))
            ∙ is
        | inr away ↦ wants_still shown.key away e
      ]) all)
  screen_wanted screen version false is all =
      filter_all (λ shown. wants asked shown.key ≡ true)
      (λ shown. wants (asked_after asked key current) shown.key ≡ true)
      (λ shown. not (same_place shown.key key)) screen
      (λ shown e other. wants_still shown.key
      (same_sym key shown.key ∙ not-true (same_place shown.key key) other) e) all

module _ {C B S : Type 0} (rules : Rules C B) (d : Document S) where
  -- a view to which a tile was sent is kept
  pub sent_kept : (version : ℕ) (key : Place) (view : View) → version ≤ d.applied
      → has_room view ≡ true → IsViewKept rules d view
      → IsViewKept rules d (sent rules d version key view)
  sent_kept version key view past room kept =
      let current : Bool = is_current rules d version key in
      let wanted : Bool =
      is_among (visible rules d view) key
      || is_among (asked_after view.asked key current) key in
      let few : length view.window < MOST_SENT = ltb-true (length view.window) MOST_SENT room in
      let more : length (view.window ++ record { wid = view.next_wid; key = key } ∷ [])
      ≡ length view.window + 1 =
      length-append view.window (record { wid = view.next_wid; key = key } ∷ []) in
      let next : view.next_wid < view.next_wid + 1 = omega arith in
      record {
        part = kept.part;
        zoom = kept.zoom;
        seen = kept.seen;
        asked = asked_all
            (λ k. IsKey k × (k.part < parts_of rules d.base)) view.asked key current kept.asked;
        asked_once = asked_once view.asked key current kept.asked_once;
        asked_few = asked_few MOST_ASKED view.asked key current kept.asked_few;
        screen = screen_order view.screen key version wanted kept.screen;
        versions = screen_versions d.applied view.screen key version wanted past kept.versions;
        wanted = screen_wanted
            (is_among (visible rules d view)) view.asked key current view.screen version wanted refl
            kept.wanted;
        window_few = omega (arith, few, more);
        wids = pairwise_push (λ a b. a.wid < b.wid) view.window
            (record { wid = view.next_wid; key = key }) kept.wids kept.wids_below;
        wids_below =
            all_push (λ tile. tile.wid < view.next_wid + 1) view.window
            (record { wid = view.next_wid; key = key })
            (weaker (λ tile. tile.wid < view.next_wid)
            (λ tile. tile.wid < view.next_wid + 1) view.window
            (λ tile lt. omega arith) kept.wids_below) next;
      }

  pub offered_kept : (version : ℕ) (key : Place) (view : View) → version ≤ d.applied
      → IsViewKept rules d view → IsViewKept rules d (offered rules d version key view)
  offered_kept version key view past kept =
      let go : (b : Bool) → takes rules d version key view ≡ b
      → IsViewKept rules d (cond b (sent rules d version key view) view) = elim [
        | true ↦ λ taken. let room =
            (and_parts (is_due rules d view key) (has_room view)
            (and_parts _ (is_due rules d view key && has_room view) taken).1).1 in
            sent_kept version key view past room kept
        | false ↦ λ not_taken. kept
      ] in
      go (takes rules d version key view) refl

-- the views are not too many and in the order of their ids, which are below the next one
pub record AreInOrder (next_view : ℕ) (views : List View) : Type 0 where
  pub few : length views ≤ MOST_VIEWS
  pub ids : Pairwise (λ v w. v.id < w.id) views
  pub below : AllByRecursion (λ view. view.id < next_view) views

-- what holds of all views holds once one of them has changed
pub with_all : (P : View → Type 0) (views : List View) (id : ℕ) (change : View → View) (view : View)
    → find_view views id ≡ Some view → P (change view) → AllByRecursion P views
    → AllByRecursion P (with_view views id change)
with_all P [] id change view e here all = absurd (cc)
with_all P (v ∷ vs) id change view e here all =
    let go : (b : Bool) → cond b (Some v) (find_view vs id) ≡ Some view
    → AllByRecursion P (cond b (change v ∷ vs) (v ∷ with_view vs id change)) = elim [
      | true ↦ λ is. let same : view ≡ v = cc in (subst (λ w. P (change w)) same here, all.1)
      | false ↦ λ is. (all.0, with_all P vs id change view is here all.1)
    ] in
    go (nat_eq v.id id) e

with_any : (P : View → Type 0) (views : List View) (id : ℕ) (change : View → View)
    → ((v : View) → P v → P (change v)) → AllByRecursion P views
    → AllByRecursion P (with_view views id change)
with_any P [] id change imp all = tt
with_any P (v ∷ vs) id change imp all =
    elim (nat_eq v.id id) as
    (λ b. AllByRecursion P (cond b (change v ∷ vs) (v ∷ with_view vs id change))) [
      | true ↦ (imp v all.0, all.1)
      | false ↦ (all.0, with_any P vs id change imp all.1)
    ]

with_ids : (views : List View) (id : ℕ) (change : View → View) → ((v : View) → (change v).id ≡ v.id)
    → Pairwise (λ v w. v.id < w.id) views
    → Pairwise (λ v w. v.id < w.id) (with_view views id change)
with_ids [] id change same order = tt
with_ids (v ∷ vs) id change same order =
    elim (nat_eq v.id id) as
    (λ b. Pairwise (λ v w. v.id < w.id) (cond b (change v ∷ vs) (v ∷ with_view vs id change))) [
      | true ↦ (
        weaker (λ w. v.id < w.id) (λ w. (change v).id < w.id) vs
            (λ w lt. omega (arith, same v)) order.0,
        order.1,
      )
      | false ↦ (
        with_any (λ w. v.id < w.id) vs id change
            (λ w lt. omega (arith, same w)) order.0,
        with_ids vs id change same order.1,
      )
    ]

with_length : (views : List View) (id : ℕ) (change : View → View)
    → length (with_view views id change) ≡ length views
with_length [] id change = refl
with_length (v ∷ vs) id change =
    elim (nat_eq v.id id) as
    (λ b. length (cond b (change v ∷ vs) (v ∷ with_view vs id change)) ≡ length (v ∷ vs)) [
      | true ↦ refl
      | false ↦ omega (arith, with_length vs id change)
    ]

pub order_with : (next_view : ℕ) (views : List View) (id : ℕ) (change : View → View)
    → ((v : View) → (change v).id ≡ v.id) → AreInOrder next_view views
    → AreInOrder next_view (with_view views id change)
order_with next_view views id change same o = record {
  few = omega (arith, with_length views id change, o.few);
  ids = with_ids views id change same o.ids;
  below = with_any (λ view. view.id < next_view) views id change
      (λ v lt. omega (arith, same v)) o.below;
}

-- once all of them have changed
map_all : (P : View → Type 0) (views : List View) (change : View → View)
    → ((v : View) → P v → P (change v)) → AllByRecursion P views
    → AllByRecursion P (map change views)
map_all P [] change imp all = tt
map_all P (v ∷ vs) change imp all = (imp v all.0, map_all P vs change imp all.1)

pub map_ids : (views : List View) (change : View → View) → ((v : View) → (change v).id ≡ v.id)
    → Pairwise (λ v w. v.id < w.id) views → Pairwise (λ v w. v.id < w.id) (map change views)
map_ids [] change same order = tt
map_ids (v ∷ vs) change same order = (
  weaker (λ w. v.id < w.id) (λ w. (change v).id < w.id) (map change vs)
      (λ w lt. omega (arith, same v))
      (map_all (λ w. v.id < w.id) vs change (λ w lt. omega (arith, same w)) order.0),
  map_ids vs change same order.1,
)

map_length : (views : List View) (change : View → View) → length (map change views) ≡ length views
map_length [] change = refl
map_length (v ∷ vs) change = omega (arith, map_length vs change)

order_map : (next_view : ℕ) (views : List View) (change : View → View)
    → ((v : View) → (change v).id ≡ v.id) → AreInOrder next_view views
    → AreInOrder next_view (map change views)
order_map next_view views change same o = record {
  few = omega (arith, map_length views change, o.few);
  ids = map_ids views change same o.ids;
  below = map_all (λ view. view.id < next_view) views change
      (λ v lt. omega (arith, same v)) o.below;
}

-- once one of them has left
pub without_all : (P : View → Type 0) (views : List View) (id : ℕ) → AllByRecursion P views
    → AllByRecursion P (without_view views id)
without_all P [] id all = tt
without_all P (v ∷ vs) id all =
    elim (nat_eq v.id id) as (λ b. AllByRecursion P (cond b vs (v ∷ without_view vs id))) [
      | true ↦ all.1
      | false ↦ (all.0, without_all P vs id all.1)
    ]

without_ids : (views : List View) (id : ℕ) → Pairwise (λ v w. v.id < w.id) views
    → Pairwise (λ v w. v.id < w.id) (without_view views id)
without_ids [] id order = tt
without_ids (v ∷ vs) id order =
    elim (nat_eq v.id id) as
    (λ b. Pairwise (λ v w. v.id < w.id) (cond b vs (v ∷ without_view vs id))) [
      | true ↦ order.1
      | false ↦ (without_all (λ w. v.id < w.id) vs id order.0, without_ids vs id order.1)
    ]

without_length : (views : List View) (id : ℕ) → length (without_view views id) ≤ length views
without_length [] id = omega arith
without_length (v ∷ vs) id =
    elim (nat_eq v.id id) as (λ b. length (cond b vs (v ∷ without_view vs id)) ≤ length (v ∷ vs)) [
      | true ↦ omega arith
      | false ↦ omega (arith, without_length vs id)
    ]

pub order_without : (next_view : ℕ) (views : List View) (id : ℕ) → AreInOrder next_view views
    → AreInOrder next_view (without_view views id)
order_without next_view views id o = record {
  few = omega (arith, without_length views id, o.few);
  ids = without_ids views id o.ids;
  below = without_all (λ view. view.id < next_view) views id o.below;
}

-- once one more has joined
pub order_push : (next_view : ℕ) (views : List View) (view : View) → view.id ≡ next_view
    → length views < MOST_VIEWS → AreInOrder next_view views
    → AreInOrder (next_view + 1) (views ++ view ∷ [])
order_push next_view views view is few o =
    let more : length (views ++ view ∷ []) ≡ length views + 1 = length-append views (view ∷ []) in
    let last : view.id < next_view + 1 = omega arith in
    record {
      few = omega (arith, more, few);
      ids = pairwise_push (λ v w. v.id < w.id) views view o.ids
          (weaker (λ v. v.id < next_view) (λ v. v.id < view.id) views
          (λ v lt. omega arith) o.below);
      below = all_push (λ v. v.id < next_view + 1) views view
          (weaker (λ v. v.id < next_view) (λ v. v.id < next_view + 1) views
          (λ v lt. omega arith) o.below) last;
    }

module _ {C B S : Type 0} (rules : Rules C B) (d : Document S) where
  offered_id : (version : ℕ) (key : Place) (view : View)
      → (offered rules d version key view).id ≡ view.id
  offered_id version key view =
      elim (takes rules d version key view) as
      (λ b. (cond b (sent rules d version key view) view).id ≡ view.id)
      [ true ↦ refl | false ↦ refl ]

  -- once painted tiles were offered to them
  pub offers_order : (version : ℕ) (keys : List Place) (views : List View)
      → AreInOrder d.next_view views
      → AreInOrder d.next_view (views_offered rules d version keys views)
  offers_order version [] views o = o
  offers_order version (key ∷ keys) views o =
      offers_order version keys (map (offered rules d version key) views)
      (order_map d.next_view views (offered rules d version key) (offered_id version key) o)

  pub offers_kept : (version : ℕ) (keys : List Place) (views : List View) → version ≤ d.applied
      → AllByRecursion (IsViewKept rules d) views
      → AllByRecursion (IsViewKept rules d) (views_offered rules d version keys views)
  offers_kept version [] views past all = all
  offers_kept version (key ∷ keys) views past all =
      offers_kept version keys (map (offered rules d version key) views) past
      (map_all (IsViewKept rules d) views (offered rules d version key)
      (λ view kept. offered_kept rules d version key view past kept) all)

  -- the document with other views, jobs, inputs and saves
  abbrev pub moved : (journal : List Input) (applied : ℕ) → List View → ℕ → List (Job S) → ℕ
      → Saving → Document S
  moved journal applied views next_view jobs ticket saving =
      record d {
        journal = journal;
        applied = applied;
        views = views;
        next_view = next_view;
        jobs =
            jobs;
        next_ticket = ticket;
        saving = saving;
      }

  -- a view that is kept is kept in it, where no fewer inputs are applied
  pub view_moved : (journal : List Input) (applied : ℕ) (views : List View) (next_view : ℕ)
      (jobs : List (Job S)) (ticket : ℕ) (saving : Saving) (view : View) → d.applied ≤ applied
      → IsViewKept rules d view
      → IsViewKept rules (moved journal applied views next_view jobs ticket saving) view
  view_moved journal applied views next_view jobs ticket saving view le kept = record {
    part = kept.part;
    zoom = kept.zoom;
    seen = kept.seen;
    asked = kept.asked;
    asked_once = kept.asked_once;
    asked_few = kept.asked_few;
    screen = kept.screen;
    versions = weaker (λ shown. shown.version ≤ d.applied)
        (λ shown. shown.version ≤ applied) view.screen (λ shown lt. omega arith) kept.versions;
    wanted = kept.wanted;
    window_few = kept.window_few;
    wids = kept.wids;
    wids_below = kept.wids_below;
  }
