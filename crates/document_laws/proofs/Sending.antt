-- What a present tile changes for the view that it is sent to: its pair is no longer due, and no
-- other pair changes.
use Rattle.std.proofs.Common.{◌≡◌, ℕ, ◌+◌, Bool, true, false, not, ◌&&◌, ◌||◌, cond, List, [], ◌∷◌, ◌++◌, filter, Some, refl, ap, sym, ◌∙◌, inl, inr}
use Rattle.std.specs.Ordering.{is_lt}
use Rattle.std.proofs.lemmas.Bool.{cases_Bool}
use Rattle.kit_trait.specs.Rules.{Rules}
use Rattle.tile_key.specs.Places.{Place, key_order, same_place}
use Rattle.document_machine.proofs.Lists.{same_self, taken_out}
use Rattle.document_machine.specs.Due.{asked_after, is_current, is_due, is_lacking, touched, visible, version_of, with_version, without_version, screen_after, sent}
use Rattle.document_machine.specs.Keys.{is_among}
use Rattle.document_machine.specs.State.{Shown, View, Document}
use Rattle.document_laws.proofs.KeyOrder.{same_is, same_sym}

-- the screen has the version of the key
pub with_same : (screen : List Shown) (key : Place) (version : ℕ)
    → version_of (with_version screen key version) key ≡ Some version
with_same [] key version = rw (same_self key) refl
with_same (shown ∷ screen) key version =
    let go : (a b : Bool) → same_place key shown.key ≡ b
    → version_of
    (cond a (record { key = key; version = version } ∷ (shown ∷ screen))
    (cond b (record { key = key; version = version } ∷ screen)
    (shown ∷ with_version screen key version))) key ≡ Some version = elim [
      | true ↦ λ b e. rw (same_self key) refl
      | false ↦ elim [
        | true ↦ λ e. rw (same_self key) refl
        | false ↦ λ e.
            let away : same_place shown.key key ≡ false = same_sym shown.key key ∙ e in
            rw away (with_same screen key version)
      ]
    ] in
    go (is_lt (key_order key shown.key)) (same_place key shown.key) refl

-- and of another key what it had
with_other : (screen : List Shown) (key : Place) (version : ℕ) (x : Place)
    → same_place key x ≡ false
    → version_of (with_version screen key version) x ≡ version_of screen x
with_other [] key version x away = rw away refl
with_other (shown ∷ screen) key version x away =
    let go : (a b : Bool) → same_place key shown.key ≡ b
    → version_of
    (cond a (record { key = key; version = version } ∷ (shown ∷ screen))
    (cond b (record { key = key; version = version } ∷ screen)
    (shown ∷ with_version screen key version))) x ≡ version_of (shown ∷ screen) x = elim [
      | true ↦ λ b e. rw away refl
      | false ↦ elim [
        | true ↦ λ e.
            let is : key ≡ shown.key = same_is key shown.key e in
            let off : same_place shown.key x ≡ false = ap (λ k. same_place k x) (sym is) ∙ away in
            rw (away, off) refl
        | false ↦ λ e. ap (λ o. cond (same_place shown.key x) (Some shown.version) o)
            (with_other screen key version x away)
      ]
    ] in
    go (is_lt (key_order key shown.key)) (same_place key shown.key) refl

without_other : (screen : List Shown) (key x : Place) → same_place key x ≡ false
    → version_of (without_version screen key) x ≡ version_of screen x
without_other [] key x away = refl
without_other (shown ∷ screen) key x away =
    let go : (b : Bool) → same_place shown.key key ≡ b
    → version_of
    (cond (not b) (shown ∷ without_version screen key) (without_version screen key)) x
    ≡ version_of (shown ∷ screen) x = elim [
      | true ↦ λ e.
          let is : shown.key ≡ key = same_is shown.key key e in
          let off : same_place shown.key x ≡ false = ap (λ k. same_place k x) is ∙ away in
          rw off (without_other screen key x away)
      | false ↦ λ e. ap (λ o. cond (same_place shown.key x) (Some shown.version) o)
          (without_other screen key x away)
    ] in
    go (same_place shown.key key) refl

pub screen_other : (screen : List Shown) (key : Place) (version : ℕ) (wanted : Bool) (x : Place)
    → same_place key x ≡ false
    → version_of (screen_after screen key version wanted) x ≡ version_of screen x
screen_other screen key version true x away = with_other screen key version x away
screen_other screen key version false x away = without_other screen key x away

-- the keys without one of them
abbrev pub without_key : List Place → Place → List Place
without_key asked key = filter (λ other. not (same_place other key)) asked

pub asked_other : (asked : List Place) (key x : Place) → same_place key x ≡ false
    → is_among (without_key asked key) x ≡ is_among asked x
asked_other [] key x away = refl
asked_other (other ∷ others) key x away =
    let go : (b : Bool) → same_place other key ≡ b
    → is_among (cond (not b) (other ∷ without_key others key) (without_key others key)) x
    ≡ is_among (other ∷ others) x = elim [
      | true ↦ λ e.
          let is : other ≡ key = same_is other key e in
          let off : same_place other x ≡ false = ap (λ k. same_place k x) is ∙ away in
          rw off (asked_other others key x away)
      | false ↦ λ e. ap (λ b. same_place other x || b) (asked_other others key x away)
    ] in
    go (same_place other key) refl

-- whether another key is asked for stays, whatever became of the asking
pub asked_after_other : (asked : List Place) (key : Place) (current : Bool) (x : Place)
    → same_place key x ≡ false → is_among (asked_after asked key current) x ≡ is_among asked x
asked_after_other asked key true x away = asked_other asked key x away
asked_after_other asked key false x away = refl

module _ {C B S : Type 0} (rules : Rules C B) (d : Document S) (version : ℕ) (key : Place)
    (view : View) where
  -- another pair is due as before, also where the tile isn't the present one
  pub sent_other : (x : Place) → same_place key x ≡ false
      → is_due rules d (sent rules d version key view) x ≡ is_due rules d view x
  sent_other x away =
      let current : Bool = is_current rules d version key in
      let gone : List Place = asked_after view.asked key current in
      let a : is_among gone x ≡ is_among view.asked x =
      asked_after_other view.asked key current x away in
      let v = screen_other view.screen key version
      (is_among (visible rules d view) key || is_among gone key) x away in
      ap (λ o. (is_among (visible rules d view) x && is_lacking rules d x o) || is_among gone x) v
      ∙ ap (λ b. (is_among (visible rules d view) x
      && is_lacking rules d x (version_of view.screen x)) || b) a

  -- the view after it
  abbrev after : View
  after = record view {
    asked = without_key view.asked key;
    screen = screen_after view.screen key version
        (is_among (visible rules d view) key || is_among (without_key view.asked key) key);
    window = view.window ++ record { wid = view.next_wid; key = key } ∷ [];
    next_wid = view.next_wid + 1;
  }

  sent_is : touched rules d.base d.journal version key d.applied ≡ false
      → sent rules d version key view ≡ after
  sent_is clean = rw clean refl

  after_due_here : touched rules d.base d.journal version key d.applied ≡ false
      → is_due rules d after key ≡ false
  after_due_here clean =
      let gone : is_among (without_key view.asked key) key ≡ false = taken_out view.asked key in
      let here : (b : Bool)
      → (b && is_lacking rules d key
      (version_of (screen_after view.screen key version (b || false)) key)) ≡ false = elim [
        | true ↦ rw (with_same view.screen key version) clean
        | false ↦ refl
      ] in
      rw gone (let e = here (is_among (visible rules d view) key) in rw e refl)

  after_due_other : (x : Place) → same_place key x ≡ false
      → is_due rules d after x ≡ is_due rules d view x
  after_due_other x away =
      let a : is_among (without_key view.asked key) x ≡ is_among view.asked x =
      asked_other view.asked key x away in
      let v = screen_other view.screen key version
      (is_among (visible rules d view) key || is_among (without_key view.asked key) key) x away
      in
      ap (λ o. (is_among (visible rules d view) x && is_lacking rules d x o)
      || is_among (without_key view.asked key) x) v
      ∙ ap (λ b. (is_among (visible rules d view) x
      && is_lacking rules d x (version_of view.screen x)) || b) a

  -- what is due after it was due before, and is another key
  pub sent_due : touched rules d.base d.journal version key d.applied ≡ false → (x : Place)
      → is_due rules d (sent rules d version key view) x
      ≡ (is_due rules d view x && not (same_place key x))
  sent_due clean x =
      let none : (b : Bool) → (b && false) ≡ false = elim [ true ↦ refl | false ↦ refl ] in
      let all : (b : Bool) → (b && true) ≡ b = elim [ true ↦ refl | false ↦ refl ] in
      ap (λ w. is_due rules d w x) (sent_is clean)
      ∙ elim (cases_Bool (same_place key x)) [
        | inl here ↦
            ap (λ k. is_due rules d after k) (sym (same_is key x here)) ∙ after_due_here clean
            ∙ sym (ap (λ b. is_due rules d view x && not b) here ∙ none (is_due rules d view x))
        | inr away ↦
            after_due_other x away
            ∙ sym (ap (λ b. is_due rules d view x && not b) away ∙ all (is_due rules d view x))
      ]
