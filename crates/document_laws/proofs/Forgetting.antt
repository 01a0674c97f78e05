-- A screen that forgets some of its keys takes no step back.
use Rattle.std.proofs.Common.{◌≡◌, ℕ, Bool, true, false, cond, List, [], ◌∷◌, filter, None, Some, refl, ap, sym, ◌∙◌, arith, inl, inr}
use Rattle.std.proofs.lemmas.Bool.{cases_Bool}
use Rattle.tile_key.specs.Places.{Place, same_place}
use Rattle.document_machine.specs.Due.{version_of}
use Rattle.document_machine.specs.State.{Shown, View}
use Rattle.document_laws.specs.Tiles.{IsNoStepBack}
use Rattle.document_laws.proofs.KeyOrder.{same_is}

-- a screen as it was
pub same_screen : (v w : View) → v.screen ≡ w.screen → IsNoStepBack v w
same_screen v w same key had has a b =
    let e : Some had ≡ Some has = sym a ∙ ap (λ s. version_of s key) same ∙ b in
    let is : had ≡ has = cc in
    omega arith

-- a screen that has forgotten some keys
gone : (f : Place → Bool) (screen : List Shown) (key : Place) → f key ≡ false
    → version_of (filter (λ shown. f shown.key) screen) key ≡ None
gone f [] key off = refl
gone f (shown ∷ screen) key off =
    let go : (b : Bool) → f shown.key ≡ b
    → version_of
    (cond b (shown ∷ filter (λ s. f s.key) screen) (filter (λ s. f s.key) screen)) key ≡ None =
    elim [
      | true ↦ λ on.
          let away : same_place shown.key key ≡ false =
          elim (cases_Bool (same_place shown.key key)) [
            | inl same ↦
                absurd (let is : f shown.key ≡ f key = ap f (same_is shown.key key same) in cc)
            | inr apart ↦ apart
          ] in
          rw away (gone f screen key off)
      | false ↦ λ on. gone f screen key off
    ] in
    go (f shown.key) refl

forgotten : (f : Place → Bool) (screen : List Shown) (key : Place) (has : ℕ)
    → version_of (filter (λ shown. f shown.key) screen) key ≡ Some has
    → version_of screen key ≡ Some has
forgotten f [] key has e = e
forgotten f (shown ∷ screen) key has e =
    let go : (a b : Bool) → same_place shown.key key ≡ a → f shown.key ≡ b
    → version_of
    (cond b (shown ∷ filter (λ s. f s.key) screen) (filter (λ s. f s.key) screen)) key
    ≡ Some has → cond a (Some shown.version) (version_of screen key) ≡ Some has = elim [
      | true ↦ elim [
        | true ↦ λ same on e. rw same at e
        | false ↦ λ same off e.
            let is : f key ≡ false = ap f (sym (same_is shown.key key same)) ∙ off in
            let none = gone f screen key is in
            absurd (cc)
      ]
      | false ↦ elim [
        | true ↦ λ apart on e. forgotten f screen key has (rw apart at e)
        | false ↦ λ apart off e. forgotten f screen key has e
      ]
    ] in
    go (same_place shown.key key) (f shown.key) refl refl e

-- forgetting is no step back
pub filtered : (f : Place → Bool) (v w : View) → w.screen ≡ filter (λ shown. f shown.key) v.screen
    → IsNoStepBack v w
filtered f v w is key had has a b =
    let same : version_of v.screen key ≡ Some has =
    forgotten f v.screen key has (ap (λ s. version_of s key) (sym is) ∙ b) in
    let e : Some had ≡ Some has = sym a ∙ same in
    let eq : had ≡ has = cc in
    omega arith
