-- Why a pair that is not due is right, and so why a quiet document is.
use Rattle.std.proofs.Common.{◌≡◌, ℕ, ◌+◌, ◌/◌, ◌<◌, ◌≤◌, Bool, true, false, ◌&&◌, ◌||◌, cond, List, [], ◌∷◌, length, Option, None, Some, refl, ap, sym, ◌∙◌, arith, inl, inr}
use Rattle.std.specs.Prelude.{◌⊎◌, nat_lt}
use Rattle.std.specs.List.{AllByRecursion}
use Rattle.std.proofs.lemmas.Bool.{cases_Bool, cases_lt, or_parts}
use Rattle.cool_base.specs.Points.{Rectangle, Extent, intersection_of}
use Rattle.kit_trait.specs.Rules.{Rules, doc, shown}
use Rattle.kit_trait.specs.declared.values.Input.{Input}
use Rattle.tile_key.specs.Places.{Place, Scale, is_zoom, same_place}
use Rattle.tile_key.specs.Visible.{visible_keys, tiles_to, whole_part}
use Rattle.tile_key.proofs.GridFacts.{rows_all}
use Rattle.tile_key.proofs.VisibleFacts.{IsSized, zoom_facts}
use Rattle.document_machine.specs.Due.{is_due, is_lacking, has_room, is_out, keys, size_of, touched, version_of, visible}
use Rattle.document_machine.specs.Keys.{is_among}
use Rattle.document_machine.specs.Kept.{IsKept, IsViewKept}
use Rattle.document_machine.specs.Quiet.{IsQuiet, IsRight, AllRight}
use Rattle.document_machine.specs.State.{Shown, View, Document}
use Rattle.document_machine.specs.Step.{IsServed}
use Rattle.document_machine.specs.declared.limits.TheConstants.{MOST_JOBS}
use Rattle.send_window.specs.declared.windows.TheConstants.{MOST_SENT}
use Rattle.document_laws.proofs.Ordered.{both, weaker, all_by, all_ordered, all_among}

-- a place that no input between touched looks the same
abbrev pub Unchanged : {C B : Type 0} → Rules C B → Type 0
Unchanged rules =
    (base : List ℕ) (journal : List Input) (version n : ℕ) (place : Place) → 1 ≤ place.tilewidth
    → 1 ≤ place.tileheight → version ≤ n
    → touched rules base journal version place n ≡ false
    → shown rules (doc rules base journal n) place
    ≡ shown rules (doc rules base journal version) place

-- the place has a point
abbrev pub HasPoint : Place → Type 0
HasPoint key = (1 ≤ key.tilewidth) × (1 ≤ key.tileheight)

-- each key that is seen has a point
pub seen_points : (part : ℕ) (zoom : Scale) (area : Rectangle) (size : Extent) → is_zoom zoom ≡ true
    → AllByRecursion HasPoint (visible_keys part zoom area size)
unfolding visible_keys
seen_points part zoom area size passes =
    let z : IsSized zoom = zoom_facts zoom passes in
    let s : Rectangle = intersection_of area (whole_part size) in
    all_by HasPoint (visible_keys part zoom area size)
    (rows_all HasPoint part zoom (s.x / zoom.twip_w) (tiles_to s.x (s.x + s.w) zoom.twip_w)
    (s.y / zoom.twip_h) (tiles_to s.y (s.y + s.h) zoom.twip_h)
    (λ i j across down. (omega (arith, z.twip_w_low), omega (arith, z.twip_h_low))))

-- a version on a screen is one of those that are applied
pub version_applied : (screen : List Shown) (key : Place) (n version : ℕ)
    → AllByRecursion (λ shown. shown.version ≤ n) screen → version_of screen key ≡ Some version
    → version ≤ n
version_applied [] key n version all e = absurd (cc)
version_applied (shown ∷ screen) key n version all e =
    let go : (b : Bool) → cond b (Some shown.version) (version_of screen key) ≡ Some version
    → version ≤ n = elim [
      | true ↦ λ e. let same : shown.version ≡ version = cc in omega (arith, all.0, same)
      | false ↦ λ e. version_applied screen key n version all.1 e
    ] in
    go (same_place shown.key key) e

module _ {C B S : Type 0} (rules : Rules C B) (d : Document S) (view : View) where
  -- what a screen does not lack it has, and no applied input above its version touched it
  has_version : (key : Place) (o : Option ℕ) → is_lacking rules d key o ≡ false
      → (version : ℕ) × (o ≡ Some version)
      × (touched rules d.base d.journal version key d.applied ≡ false)
  has_version key None e = absurd (cc)
  has_version key (Some version) e = (version, refl, e)

  -- a pair that is seen and not due is right, where all inputs are applied
  pub right_by : (key : Place) → Unchanged rules → IsViewKept rules d view
      → d.applied ≡ length d.journal → HasPoint key → is_among (visible rules d view) key ≡ true
      → is_due rules d view key ≡ false → IsRight rules d view key
  right_by key same kept level point seen not_due =
      let parts =
      or_parts (is_among (visible rules d view) key
      && is_lacking rules d key (version_of view.screen key))
      (is_among view.asked key) not_due in
      let full : is_lacking rules d key (version_of view.screen key) ≡ false = rw seen at parts.0 in
      let has = has_version key (version_of view.screen key) full in
      let le : has.0 ≤ d.applied =
      version_applied view.screen key d.applied has.0 kept.versions has.1 in (
        has.0,
        has.1,
        sym (same d.base d.journal has.0 d.applied key point.0 point.1 le has.2)
            ∙ ap (λ n. shown rules (doc rules d.base d.journal n) key) level,
      )

  -- what is asked for is due
  pub asked_due : (key : Place) → is_among view.asked key ≡ true → is_due rules d view key ≡ true
  asked_due key asked =
      let go : (b : Bool) → (b || true) ≡ true = elim [ true ↦ refl | false ↦ refl ] in
      rw asked (go
      (is_among (visible rules d view) key
      && is_lacking rules d key (version_of view.screen key)))

  -- a pair that isn't right is due, or an input isn't applied
  abbrev pub RightOrDue : Place → Type 0
  RightOrDue key =
      IsRight rules d view key ⊎ ((is_due rules d view key ≡ true) ⊎ (d.applied < length d.journal))

  pub right_or_due : (key : Place) → Unchanged rules → IsViewKept rules d view
      → d.applied ≤ length d.journal → HasPoint key → is_among (visible rules d view) key ≡ true
      → RightOrDue key
  right_or_due key same kept le point seen =
      elim (cases_Bool (is_due rules d view key)) [
        | inl due ↦ inr (inl due)
        | inr not_due ↦ elim (cases_lt d.applied (length d.journal)) [
          | inl more ↦ inr (inr more)
          | inr all ↦ inl (right_by key same kept (omega arith) point seen not_due)
        ]
      ]

  pub view_right_or_due : Unchanged rules → IsViewKept rules d view → d.applied ≤ length d.journal
      → AllByRecursion RightOrDue (keys rules d view)
  view_right_or_due same kept le =
      all_ordered RightOrDue view.asked (visible rules d view)
      (weaker (λ key. is_among view.asked key ≡ true) RightOrDue view.asked
      (λ key asked. inr (inl (asked_due key asked))) (all_among view.asked))
      (both HasPoint (λ key. is_among (visible rules d view) key ≡ true) RightOrDue
      (visible rules d view)
      (λ key point seen. right_or_due key same kept le point seen)
      (seen_points view.part view.zoom view.area (size_of rules d.base view.part) kept.zoom)
      (all_among (visible rules d view)))

  -- where no job is out, no pair of a view with an empty window that is served is due
  pub none_due : (key : Place) → d.jobs ≡ [] → view.window ≡ []
      → ((has_room view && is_due rules d view key) ≡ true
      → (is_out d.jobs key ≡ true) ⊎ (MOST_JOBS ≤ length d.jobs)) → is_due rules d view key ≡ false
  none_due key no_job empty served =
      elim (cases_Bool (is_due rules d view key)) [
        | inl due ↦
            let room : has_room view ≡ true =
            ap (λ window. nat_lt (length window) MOST_SENT) empty in
            let out : is_out d.jobs key ≡ false = ap (λ jobs. is_out jobs key) no_job in
            let few : length d.jobs ≡ 0 = ap length no_job in
            let wanted : (has_room view && is_due rules d view key) ≡ true = rw (room, due) refl in
            elim (served wanted) [
              | inl is ↦ absurd (cc)
              | inr many ↦ absurd (omega arith)
            ]
        | inr not_due ↦ not_due
      ]

  pub all_not_due : d.jobs ≡ [] → IsServed rules d view → view.window ≡ []
      → AllByRecursion (λ key. is_due rules d view key ≡ false) (keys rules d view)
  all_not_due no_job served empty =
      weaker (λ key. (has_room view && is_due rules d view key) ≡ true
      → (is_out d.jobs key ≡ true) ⊎ (MOST_JOBS ≤ length d.jobs))
      (λ key. is_due rules d view key ≡ false) (keys rules d view)
      (λ key is. none_due key no_job empty is) served

  view_right : Unchanged rules → IsViewKept rules d view → d.applied ≡ length d.journal
      → AllByRecursion (λ key. is_due rules d view key ≡ false) (keys rules d view)
      → AllByRecursion (IsRight rules d view) (keys rules d view)
  view_right same kept level not_due =
      let le : d.applied ≤ length d.journal = omega arith in
      both RightOrDue (λ key. is_due rules d view key ≡ false) (IsRight rules d view)
      (keys rules d view)
      (λ key right not. elim right [
        | inl is ↦ is
        | inr other ↦
            elim other [ inl due ↦ absurd (cc) | inr more ↦ absurd (omega arith) ]
      ])
      (view_right_or_due same kept le) not_due

module _ {C B S : Type 0} (rules : Rules C B) (d : Document S) where
  pub all_right_or_due : {cut : C → Place → S} → Unchanged rules → IsKept rules cut d
      → AllByRecursion
      (λ view. AllByRecursion (RightOrDue rules d view) (keys rules d view)) d.views
  all_right_or_due same kept =
      weaker (IsViewKept rules d)
      (λ view. AllByRecursion (RightOrDue rules d view) (keys rules d view)) d.views
      (λ view is. view_right_or_due rules d view same is kept.level) kept.each

  pub quiet_is_right : {cut : C → Place → S} → Unchanged rules → IsKept rules cut d
      → IsQuiet rules d → AllRight rules d
  quiet_is_right same kept quiet =
      both (IsViewKept rules d)
      (λ view. AllByRecursion (λ key. is_due rules d view key ≡ false) (keys rules d view))
      (λ view. AllByRecursion (IsRight rules d view) (keys rules d view)) d.views
      (λ view is not_due. view_right rules d view same is quiet.rests.level not_due) kept.each
      (both (IsServed rules d) (λ view. view.window ≡ [])
      (λ view. AllByRecursion (λ key. is_due rules d view key ≡ false) (keys rules d view))
      d.views
      (λ view served empty. all_not_due rules d view quiet.no_job served empty) quiet.rests.served
      quiet.empty)
