-- Views in a list, and lists that a view has.
use Rattle.std.proofs.Common.{◌≡◌, ◌≢◌, ℕ, ◌<◌, ◌≤◌, Bool, true, false, not, cond, nat_eq, List, [], ◌∷◌, length, filter, Some, refl, ap, sym, subst, ◌∙◌, inl, inr}
use Rattle.std.specs.Prelude.{slice_get}
use Rattle.std.specs.List.{AllByRecursion}
use Rattle.std.specs.Ordering.{is_lt}
use Rattle.std.proofs.lemmas.Bool.{cases_Bool, eqb-true}
use Rattle.std.proofs.lemmas.Option.{slice_get_cases}
use Rattle.kit_trait.specs.declared.values.Input.{Input}
use Rattle.tile_key.specs.Places.{Place, key_order, same_place}
use Rattle.document_machine.proofs.Lists.{all_filter}
use Rattle.document_machine.specs.Due.{with_version, asked_after, screen_after}
use Rattle.document_machine.specs.Keys.{Pairwise}
use Rattle.document_machine.specs.State.{Shown, View, find_view, with_view}

-- what holds of each view holds of the one with an id
pub found_view : (P : View → Type 0) (views : List View) (id : ℕ) (view : View)
    → AllByRecursion P views → find_view views id ≡ Some view → P view
found_view P [] id view all e = absurd (cc)
found_view P (v ∷ vs) id view all e =
    let go : (b : Bool) → cond b (Some v) (find_view vs id) ≡ Some view → P view = elim [
      | true ↦ λ is. let same : v ≡ view = cc in subst P same all.0
      | false ↦ λ is. found_view P vs id view all.1 is
    ] in
    go (nat_eq v.id id) e

-- the view with an id has it
pub found_id : (views : List View) (id : ℕ) (view : View) → find_view views id ≡ Some view
    → view.id ≡ id
found_id [] id view e = absurd (cc)
found_id (v ∷ vs) id view e =
    let go : (b : Bool) → nat_eq v.id id ≡ b → cond b (Some v) (find_view vs id) ≡ Some view
    → view.id ≡ id = elim [
      | true ↦ λ here is. let same : view ≡ v = cc in ap (λ x. x.id) same ∙ eqb-true v.id id here
      | false ↦ λ away is. found_id vs id view is
    ] in
    go (nat_eq v.id id) refl e

-- an input behind the first n is there
pub some_input : (journal : List Input) (n : ℕ) (input : Input) → slice_get journal n ≡ Some input
    → n < length journal
some_input journal n input is =
    elim ((slice_get_cases journal n).1) [
      | inl (other, lt, some, at) ↦ lt
      | inr (past, none) ↦ absurd (cc)
    ]

-- the view that has changed, and another
pub found_with : (views : List View) (id : ℕ) (change : View → View) (view : View)
    → ((v : View) → (change v).id ≡ v.id) → find_view views id ≡ Some view
    → find_view (with_view views id change) id ≡ Some (change view)
found_with [] id change view same e = absurd (cc)
found_with (v ∷ vs) id change view same e =
    let go : (b : Bool) → nat_eq v.id id ≡ b → cond b (Some v) (find_view vs id) ≡ Some view
    → find_view (cond b (change v ∷ vs) (v ∷ with_view vs id change)) id ≡ Some (change view) =
    elim [
      | true ↦ λ here is.
          let one : v ≡ view = cc in
          let id_is : nat_eq (change v).id id ≡ true = ap (λ n. nat_eq n id) (same v) ∙ here in
          rw id_is (ap (λ w. Some (change w)) one)
      | false ↦ λ away is. rw away (found_with vs id change view same is)
    ] in
    go (nat_eq v.id id) refl e

pub found_other : (views : List View) (id other : ℕ) (change : View → View)
    → ((v : View) → (change v).id ≡ v.id) → other ≢ id
    → find_view (with_view views id change) other ≡ find_view views other
found_other [] id other change same apart = refl
found_other (v ∷ vs) id other change same apart =
    let go : (b : Bool) → nat_eq v.id id ≡ b
    → find_view (cond b (change v ∷ vs) (v ∷ with_view vs id change)) other
    ≡ find_view (v ∷ vs) other = elim [
      | true ↦ λ here.
          let id_is : v.id ≡ id = eqb-true v.id id here in
          let off : nat_eq v.id other ≡ false =
          elim (cases_Bool (nat_eq v.id other))
          [ inl is ↦ absurd (apart (sym (eqb-true v.id other is) ∙ id_is)) | inr away ↦ away ]
          in
          let changed : nat_eq (change v).id other ≡ false =
          ap (λ n. nat_eq n other) (same v) ∙ off in
          rw (changed, off) refl
      | false ↦ λ away. ap (λ o. cond (nat_eq v.id other) (Some v) o)
          (found_other vs id other change same apart)
    ] in
    go (nat_eq v.id id) refl

-- views, one of which is changed in either of two ways that come to the same
pub changed_same : (views : List View) (id : ℕ) (f g : View → View) (view : View)
    → find_view views id ≡ Some view → f view ≡ g view → with_view views id f ≡ with_view views id g
changed_same [] id f g view live same = refl
changed_same (v ∷ vs) id f g view live same =
    let go : (b : Bool) → cond b (Some v) (find_view vs id) ≡ Some view
    → cond b (f v ∷ vs) (v ∷ with_view vs id f) ≡ cond b (g v ∷ vs) (v ∷ with_view vs id g) =
    elim [
      | true ↦ λ is. let one : view ≡ v = cc in ap (λ x. x ∷ vs) (subst (λ w. f w ≡ g w) one same)
      | false ↦ λ is. ap (λ xs. v ∷ xs) (changed_same vs id f g view is same)
    ] in
    go (nat_eq v.id id) live

-- what holds pair by pair holds so in what a filter keeps
pub pairwise_filter : {X : Type 0} (R : X → X → Type 0) (f : X → Bool) (xs : List X) → Pairwise R xs
    → Pairwise R (filter f xs)
pairwise_filter R f [] h = tt
pairwise_filter R f (x ∷ xs) h =
    elim (f x) as (λ b. Pairwise R (cond b (x ∷ filter f xs) (filter f xs))) [
      | true ↦ (all_filter (R x) f xs h.0, pairwise_filter R f xs h.1)
      | false ↦ pairwise_filter R f xs h.1
    ]

with_versions : (n : ℕ) (screen : List Shown) (key : Place) (version : ℕ) → version ≤ n
    → AllByRecursion (λ shown. shown.version ≤ n) screen
    → AllByRecursion (λ shown. shown.version ≤ n) (with_version screen key version)
with_versions n [] key version le all = (le, tt)
with_versions n (shown ∷ screen) key version le all =
    let go : (a b : Bool)
    → AllByRecursion (λ shown. shown.version ≤ n)
    (cond a (record { key = key; version = version } ∷ (shown ∷ screen))
    (cond b (record { key = key; version = version } ∷ screen)
    (shown ∷ with_version screen key version))) = elim [
      | true ↦ λ b. (le, all)
      | false ↦ elim [
        | true ↦ (le, all.1)
        | false ↦ (all.0, with_versions n screen key version le all.1)
      ]
    ] in
    go (is_lt (key_order key shown.key)) (same_place key shown.key)

pub screen_versions : (n : ℕ) (screen : List Shown) (key : Place) (version : ℕ) (wanted : Bool)
    → version ≤ n → AllByRecursion (λ shown. shown.version ≤ n) screen
    → AllByRecursion (λ shown. shown.version ≤ n) (screen_after screen key version wanted)
screen_versions n screen key version true le all = with_versions n screen key version le all
screen_versions n screen key version false le all =
    all_filter (λ shown. shown.version ≤ n) (λ shown. not (same_place shown.key key)) screen all

pub asked_once : (asked : List Place) (key : Place) (current : Bool) → Pairwise (λ p q. p ≢ q) asked
    → Pairwise (λ p q. p ≢ q) (asked_after asked key current)
asked_once asked key true once =
    pairwise_filter (λ p q. p ≢ q) (λ other. not (same_place other key)) asked once
asked_once asked key false once = once
