-- What is kept of the keys of the work that is next.
use Rattle.std.proofs.Common.{◌≡◌, ℕ, zero, suc, Bool, true, false, not, cond, List, [], ◌∷◌, length, Option, None, Some, is_some, refl, ap, sym, subst, ◌∙◌}
use Rattle.std.specs.Prelude.{nat_lt}
use Rattle.std.specs.List.{AllByRecursion}
use Rattle.std.proofs.lemmas.Bool.{and_parts}
use Rattle.kit_trait.specs.Rules.{Rules}
use Rattle.tile_key.specs.Places.{Place, next_place}
use Rattle.document_machine.specs.Due.{is_current, is_out, is_owed}
use Rattle.document_machine.specs.Held.{where_current}
use Rattle.document_machine.specs.Next.{Work, Serve, Apply, Send, Cut, group_at, joins_group, next_pair, pick, right_of, serving, serving_next}
use Rattle.document_machine.specs.Saves.{has_ready_save}
use Rattle.document_machine.specs.State.{Document}

-- nothing is there
none_by : (o : Option ℕ) → not (is_some o) ≡ true → o ≡ None
none_by None e = refl
none_by (Some n) e = absurd (cc)

-- a pair that is there
abbrev a_pair : ℕ → Place → Option (ℕ × Place)
a_pair id key = Some (id, key)

-- what follows of the test holds of all keys to the right that pass it
pub right_each : (P : Place → Type 0) (test : Place → Bool)
    → ((key : Place) → test key ≡ true → P key) → (most : ℕ) (key : Place)
    → AllByRecursion P (right_of most test key)
right_each P test hold zero key = tt
right_each P test hold (suc most) key =
    let next : Place = next_place key in
    let go : (b : Bool) → test next ≡ b
    → AllByRecursion P (cond b (next ∷ right_of most test next) []) = elim [
      | true ↦ λ passes. (hold next passes, right_each P test hold most next)
      | false ↦ λ fails. tt
    ] in
    go (test next) refl

module _ {C B S : Type 0} (rules : Rules C B) (d : Document S) where
  -- a present version is one, and is present
  pub current_some : (key : Place) (o : Option ℕ) (version : ℕ)
      → where_current rules d key o ≡ Some version
      → (o ≡ Some version) × (is_current rules d version key ≡ true)
  current_some key None version e = absurd (cc)
  current_some key (Some had) version e =
      let go : (b : Bool) → is_current rules d had key ≡ b → cond b (Some had) None ≡ Some version
      → (Some had ≡ Some version) × (is_current rules d version key ≡ true) = elim [
        | true ↦ λ current is. let same : had ≡ version =
            cc in (is, ap (λ n. is_current rules d n key) (sym same) ∙ current)
        | false ↦ λ not_current is. absurd (cc)
      ] in
      go (is_current rules d had key) refl e

  pub current_none : (key : Place) (had : ℕ) → where_current rules d key (Some had) ≡ None
      → is_current rules d had key ≡ false
  current_none key had e =
      let go : (b : Bool) → cond b (Some had) None ≡ None → b ≡ false = elim [
        | true ↦ λ is. absurd (cc)
        | false ↦ λ is. refl
      ] in
      go (is_current rules d had key) e

  module _ (kept : Place → Option ℕ) where
    -- nothing is kept of a key that joins a group
    joins_none : (key : Place) → joins_group rules kept d key ≡ true → kept key ≡ None
    joins_none key joins =
        none_by (kept key)
        (and_parts (not (is_some (kept key))) (not (is_out d.jobs key))
        (and_parts (is_owed rules d key) _ joins).1).0

    -- the pair that is sent a tile, and that a job is cut for
    send_serves : (o : Option (ℕ × Place)) (id : ℕ) (key : Place) (version : ℕ)
        → serving_next rules kept d o ≡ Send id key version
        → (o ≡ Some (id, key)) × (kept key ≡ Some version)
    send_serves None id key version e = absurd (cc)
    send_serves (Some (view, k)) id key version e =
        let go : (o : Option ℕ) → kept k ≡ o
        → serving view k (group_at rules kept d k) o ≡ Send id key version
        → (a_pair view k ≡ a_pair id key) × (kept key ≡ Some version) = elim [
          | None ↦ λ none is. absurd (cc)
          | Some had ↦ λ some is.
              let view_is : view ≡ id = cc in
              let same : k ≡ key = cc in
              let version_is : had ≡ version = cc in (
                ap (λ v. a_pair v k) view_is ∙ ap (λ x. a_pair id x) same,
                subst (λ x. kept x ≡ Some version) same (some ∙ ap Some version_is),
              )
        ] in
        go (kept k) refl e

    cut_serves : (o : Option (ℕ × Place)) (id : ℕ) (keys : List Place)
        → serving_next rules kept d o ≡ Cut id keys
        → (key : Place) × (o ≡ Some (id, key)) × (kept key ≡ None)
        × (group_at rules kept d key ≡ keys)
    cut_serves None id keys e = absurd (cc)
    cut_serves (Some (view, k)) id keys e =
        let go : (o : Option ℕ) → kept k ≡ o
        → serving view k (group_at rules kept d k) o ≡ Cut id keys
        → (key : Place) × (a_pair view k ≡ a_pair id key) × (kept key ≡ None)
        × (group_at rules kept d key ≡ keys) = elim [
          | None ↦ λ none is.
              let view_is : view ≡ id = cc in
              let same : group_at rules kept d k ≡ keys = cc in
              (k, ap (λ v. a_pair v k) view_is, none, same)
          | Some had ↦ λ some is. absurd (cc)
        ] in
        go (kept k) refl e

    not_served : (o : Option (ℕ × Place))
        → (serving_next rules kept d o ≡ Serve → ⊥) × (serving_next rules kept d o ≡ Apply → ⊥)
    not_served None = ((λ is. absurd (cc)), λ is. absurd (cc))
    not_served (Some (view, k)) =
        let go : (o : Option ℕ)
        → (serving view k (group_at rules kept d k) o ≡ Serve → ⊥)
        × (serving view k (group_at rules kept d k) o ≡ Apply → ⊥) = elim [
          | None ↦ ((λ is. absurd (cc)), λ is. absurd (cc))
          | Some had ↦ ((λ is. absurd (cc)), λ is. absurd (cc))
        ] in
        go (kept k)

    -- where ready saves are served there are some
    pub serve_ready : pick rules kept d ≡ Serve → has_ready_save d ≡ true
    serve_ready e =
        let none = not_served (next_pair rules kept d) in
        let go : (a b : Bool)
        → cond a Serve (cond b Apply (serving_next rules kept d (next_pair rules kept d)))
        ≡ Serve → a ≡ true = elim [
          | true ↦ λ b is. refl
          | false ↦ elim [
            | true ↦ λ is. absurd (cc)
            | false ↦ λ is. absurd (none.0 is)
          ]
        ] in
        go (has_ready_save d) (nat_lt d.applied (length d.journal)) e

    -- where an input is applied no save is ready, and there is one
    pub apply_behind : pick rules kept d ≡ Apply
        → (has_ready_save d ≡ false) × (nat_lt d.applied (length d.journal) ≡ true)
    apply_behind e =
        let none = not_served (next_pair rules kept d) in
        let go : (a b : Bool)
        → cond a Serve (cond b Apply (serving_next rules kept d (next_pair rules kept d)))
        ≡ Apply → (a ≡ false) × (b ≡ true) = elim [
          | true ↦ λ b is. absurd (cc)
          | false ↦ elim [
            | true ↦ λ is. (refl, refl)
            | false ↦ λ is. absurd (none.1 is)
          ]
        ] in
        go (has_ready_save d) (nat_lt d.applied (length d.journal)) e

    -- a work that serves a pair serves the one that is next, where no save is ready and all inputs
    -- are applied
    pub pick_serves : (work : Work) → pick rules kept d ≡ work → (work ≡ Serve → ⊥)
        → (work ≡ Apply → ⊥)
        → (has_ready_save d ≡ false) × (nat_lt d.applied (length d.journal) ≡ false)
        × (serving_next rules kept d (next_pair rules kept d) ≡ work)
    pick_serves work e not_serve not_apply =
        let go : (a b : Bool)
        → cond a Serve (cond b Apply (serving_next rules kept d (next_pair rules kept d)))
        ≡ work → (a ≡ false) × (b ≡ false)
        × (serving_next rules kept d (next_pair rules kept d) ≡ work) = elim [
          | true ↦ λ b is. absurd (not_serve (sym is))
          | false ↦ elim [
            | true ↦ λ is. absurd (not_apply (sym is))
            | false ↦ λ is. (refl, refl, is)
          ]
        ] in
        go (has_ready_save d) (nat_lt d.applied (length d.journal)) e

    -- what is sent is kept, for the pair that is next
    pub sends_next : (id : ℕ) (key : Place) (version : ℕ) → pick rules kept d ≡ Send id key version
        → (has_ready_save d ≡ false) × (nat_lt d.applied (length d.journal) ≡ false)
        × (next_pair rules kept d ≡ Some (id, key)) × (kept key ≡ Some version)
    sends_next id key version e =
        let is = pick_serves (Send id key version) e (λ is. absurd (cc)) (λ is. absurd (cc)) in
        let serves = send_serves (next_pair rules kept d) id key version is.2 in
        (is.0, is.1, serves.0, serves.1)

    -- a job is cut for the group of the pair that is next, of which nothing is kept
    pub cuts_next : (id : ℕ) (keys : List Place) → pick rules kept d ≡ Cut id keys
        → (key : Place) × (has_ready_save d ≡ false) × (nat_lt d.applied (length d.journal) ≡ false)
        × (next_pair rules kept d ≡ Some (id, key)) × (kept key ≡ None)
        × (group_at rules kept d key ≡ keys)
    cuts_next id keys e =
        let is = pick_serves (Cut id keys) e (λ is. absurd (cc)) (λ is. absurd (cc)) in
        let serves = cut_serves (next_pair rules kept d) id keys is.2 in
        (serves.0, is.0, is.1, serves.1, serves.2, serves.3)

    -- so nothing is kept of any of its keys
    pub cuts_unkept : (id : ℕ) (keys : List Place) → pick rules kept d ≡ Cut id keys
        → AllByRecursion (λ k. kept k ≡ None) keys
    cuts_unkept id keys e =
        let is = cuts_next id keys e in
        subst (AllByRecursion (λ x. kept x ≡ None)) is.5
        (is.4, right_each (λ x. kept x ≡ None) (joins_group rules kept d) joins_none 7 is.0)
