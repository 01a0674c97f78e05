-- The machine's search for the pair that is served next, and the members' own.
use Rattle.std.proofs.Common.{◌≡◌, ℕ, zero, suc, ◌<◌, ◌≤◌, Bool, true, false, not, ◌&&◌, ◌||◌, cond, List, [], ◌∷◌, length, map, find, Option, Some, None, is_some, refl, sym, ap, subst, ◌∙◌, arith, nat_eq}
use Rattle.std.specs.Prelude.{option_map, nat_lt, IsSome}
use Rattle.std.specs.List.{list_any, AllByRecursion}
use Rattle.std.proofs.lemmas.Bool.{and_parts, eqb-true}
use Rattle.std.proofs.lemmas.Bool.Decides.{nat_tests}
use Rattle.kit_trait.specs.Rules.{Rules}
use Rattle.tile_cache.specs.Cached.{Cached, current_tile}
use Rattle.tile_cache.specs.Calls.{is_out as cache_is_out}
use Rattle.tile_cache.specs.declared.outs.Out.{Out}
use Rattle.tile_cache.specs.declared.tiles.Tile.{Tile}
use Rattle.tile_key.specs.Places.{Place, next_place, same_place}
use Rattle.document_machine.specs.Due.{is_due, is_owed, has_room, is_out, keys}
use Rattle.document_machine.specs.Held.{Held, current_version}
use Rattle.document_machine.specs.Keys.{Pairwise}
use Rattle.document_machine.specs.Next.{can_serve, is_free, joins_group, group_at, next_among, next_key, next_pair, or_later, right_of}
use Rattle.document_machine.specs.State.{Document, View, find_view}
use Rattle.document_machine.specs.declared.limits.TheConstants.{MOST_JOBS}
use Rattle.view_session.specs.Viewing as viewing
use Rattle.broker_core.specs.Caching.{IsCacheOf}
use Rattle.broker_core.specs.Choosing as choosing
use Rattle.broker_core.specs.Choosing.{next_member, next_served}
use Rattle.broker_core.specs.Held.{Holds, IsTracked}
use Rattle.broker_core.specs.Members.{view_of, views_of}
use Rattle.broker_core.specs.declared.members.Member.{Member}
use Rattle.broker_core.proofs.Caches.{current_same, out_same}
use Rattle.broker_core.proofs.Words.{keys_same, due_same}

-- tests that agree find the same
pub find_same : {X : Type 0} (p q : X → Bool) → ((x : X) → p x ≡ q x) → (xs : List X) → find p xs ≡ find q xs
find_same p q same [] = refl
find_same p q same (x ∷ xs) =
    ap (λ b. cond b (Some x) (find p xs)) (same x) ∙ ap (λ o. cond (q x) (Some x) o) (find_same p q same xs)

-- tests that agree take the same keys to the right
right_same : (n : ℕ) (p q : Place → Bool) → ((key : Place) → p key ≡ q key) → (key : Place) → right_of n p key ≡ right_of n q key
right_same zero p q same key = refl
right_same (suc n) p q same key =
    ap (λ b. cond b (next_place key ∷ right_of n p (next_place key)) []) (same (next_place key))
    ∙ ap (λ ks. cond (q (next_place key)) (next_place key ∷ ks) []) (right_same n p q same (next_place key))

is_some_map : {X Y : Type 0} (f : X → Y) (o : Option X) → is_some (option_map f o) ≡ is_some o
is_some_map f None = refl
is_some_map f (Some x) = refl

-- what the test says of an option
pub some_is : (o : Option ℕ) → is_some o ≡ true → IsSome o
some_is None e = absurd (cc)
some_is (Some n) e = refl

pub none_is : (o : Option ℕ) → is_some o ≡ false → o ≡ None
none_is None e = refl
none_is (Some n) e = absurd (cc)

-- some view is owed the key exactly where some member is due it
owed_same : {C B S : Type 0} (rules : Rules C B) (d : Document S) (members : List Member) (key : Place) → AllByRecursion (IsTracked rules d.base d.journal d.applied) members → list_any (λ view. is_due rules d view key) (views_of members) ≡ choosing.is_owed members key
owed_same rules d [] key all = refl
owed_same rules d (member ∷ members) key all =
    ap (λ b. b || list_any (λ view. is_due rules d view key) (views_of members)) (due_same rules d member key all.0)
    ∙ ap (λ b. viewing.is_due member.view key || b) (owed_same rules d members key all.1)

module _ {C B S : Type 0} (rules : Rules C B) (cut : C → Place → S) (IsSound : C → Type 0) (contents : C) (members : List Member) (cache : Cached) (held : Held S) (h : Holds rules cut IsSound contents members cache held) where
  -- a present tile is kept exactly where the cache has a current one
  pub some_same : (key : Place) → is_some (current_version rules held key) ≡ is_some (current_tile cache key)
  some_same key = ap is_some (current_same rules held cache key h.kept_are h.cached.tiles) ∙ is_some_map (λ (tile : Tile). tile.number) (current_tile cache key)

  -- a job of the key is out
  pub outs_same : (key : Place) → is_out held.document.jobs key ≡ cache_is_out cache key
  outs_same key =
      let d = held.document in
      sym (ap (λ (outs : List Out). list_any (λ out. same_place out.key key) outs) h.cached.outs ∙ out_same rules d.base d.journal d.applied d.jobs key)

  serves_same : (key : Place) → can_serve (current_version rules held) held.document.jobs key ≡ choosing.can_serve cache (nat_lt (length held.document.jobs) MOST_JOBS) key
  serves_same key =
      ap (λ b. b || (nat_lt (length held.document.jobs) MOST_JOBS && not (is_out held.document.jobs key))) (some_same key)
      ∙ ap (λ b. is_some (current_tile cache key) || (nat_lt (length held.document.jobs) MOST_JOBS && not b)) (outs_same key)

  key_same : (member : Member) → IsTracked rules held.document.base held.document.journal held.document.applied member → next_key rules (current_version rules held) held.document (view_of member) ≡ next_served cache (nat_lt (length held.document.jobs) MOST_JOBS) member.view
  key_same member s =
      let d = held.document in
      let more : Bool = nat_lt (length d.jobs) MOST_JOBS in
      let p : Place → Bool = λ key. can_serve (current_version rules held) d.jobs key && is_due rules d (view_of member) key in
      let q : Place → Bool = λ key. choosing.can_serve cache more key && viewing.is_due member.view key in
      let same : (key : Place) → p key ≡ q key = λ key. ap (λ b. b && is_due rules d (view_of member) key) (serves_same key) ∙ ap (λ b. choosing.can_serve cache more key && b) (due_same rules d member key s) in
      ap (λ o. cond (has_room (view_of member)) o None) (find_same p q same (keys rules d (view_of member)) ∙ ap (λ ks. find q ks) (keys_same rules d member s))

  among_same : (list : List Member) → AllByRecursion (IsTracked rules held.document.base held.document.journal held.document.applied) list → next_among rules (current_version rules held) held.document (views_of list) ≡ next_member cache (nat_lt (length held.document.jobs) MOST_JOBS) list
  among_same [] all = refl
  among_same (member ∷ list) all =
      ap (λ o. or_later member.id o (next_among rules (current_version rules held) held.document (views_of list))) (key_same member all.0)
      ∙ ap (λ o. or_later member.id (next_served cache (nat_lt (length held.document.jobs) MOST_JOBS) member.view) o) (among_same list all.1)

  -- the machine's next pair is the one that the members' search finds
  pub pair_same : next_pair rules (current_version rules held) held.document ≡ next_member cache (nat_lt (length held.document.jobs) MOST_JOBS) members
  pair_same = ap (λ vs. next_among rules (current_version rules held) held.document vs) h.views_are ∙ among_same members h.tracked

  joins_same : (key : Place) → joins_group rules (current_version rules held) held.document key ≡ choosing.joins_group cache members key
  joins_same key =
      let d = held.document in
      ap (λ vs. list_any (λ view. is_due rules d view key) vs && is_free (current_version rules held) d.jobs key) h.views_are
      ∙ ap (λ b. b && is_free (current_version rules held) d.jobs key) (owed_same rules d members key h.tracked)
      ∙ ap (λ b. choosing.is_owed members key && (not b && not (is_out d.jobs key))) (some_same key)
      ∙ ap (λ b. choosing.is_owed members key && (not (is_some (current_tile cache key)) && not b)) (outs_same key)

  -- the keys that one job is cut for
  pub group_same : (key : Place) → group_at rules (current_version rules held) held.document key ≡ choosing.group_at cache members key
  group_same key = ap (λ ks. key ∷ ks) (right_same 7 (joins_group rules (current_version rules held) held.document) (choosing.joins_group cache members) joins_same key)

-- the view of the pair that is next
pub record IsNextView {C B S : Type 0} (rules : Rules C B) (kept : Place → Option ℕ) (d : Document S) (id : ℕ) (key : Place) (view : View) : Type 0 where
  pub named : view.id ≡ id
  pub room : has_room view ≡ true
  pub due : is_due rules d view key ≡ true
  pub serves : can_serve kept d.jobs key ≡ true

-- what is found passes the test
pub find_passes : {X : Type 0} (p : X → Bool) (xs : List X) (x : X) → find p xs ≡ Some x → p x ≡ true
find_passes p [] x e = absurd (cc)
find_passes p (y ∷ ys) x e =
    let go : (b : Bool) → p y ≡ b → cond b (Some y) (find p ys) ≡ Some x → p x ≡ true = elim [
      | true ↦ λ passes found. let same : y ≡ x = cc in ap p (sym same) ∙ passes
      | false ↦ λ fails found. find_passes p ys x found
    ] in
    go (p y) refl e

self_same : (n : ℕ) → nat_eq n n ≡ true
self_same n = grind (arith, nat_tests)

not_same : (m n : ℕ) → m < n → nat_eq m n ≡ false
not_same m n lt =
    let go : (b : Bool) → nat_eq m n ≡ b → b ≡ false = elim [
      | true ↦ λ e. let same : m ≡ n = eqb-true m n e in absurd (omega arith)
      | false ↦ λ e. refl
    ] in
    go (nat_eq m n) refl

-- an id that is above others is none of theirs
above_all : (views : List View) (id : ℕ) (view : View) (low : ℕ) → AllByRecursion (λ (w : View). low < w.id) views → find_view views id ≡ Some view → low < id
above_all [] id view low all e = absurd (cc)
above_all (v ∷ views) id view low all e =
    let go : (b : Bool) → nat_eq v.id id ≡ b → cond b (Some v) (find_view views id) ≡ Some view → low < id = elim [
      | true ↦ λ same found. let is : v.id ≡ id = eqb-true v.id id same in let lt : low < v.id = all.0 in omega arith
      | false ↦ λ other found. above_all views id view low all.1 found
    ] in
    go (nat_eq v.id id) refl e

module _ {C B S : Type 0} (rules : Rules C B) (kept : Place → Option ℕ) (d : Document S) where
  key_found : (view : View) (key : Place) → next_key rules kept d view ≡ Some key → IsNextView rules kept d view.id key view
  key_found view key e =
      let p : Place → Bool = λ k. can_serve kept d.jobs k && is_due rules d view k in
      let go : (b : Bool) → has_room view ≡ b → cond b (find p (keys rules d view)) None ≡ Some key → IsNextView rules kept d view.id key view = elim [
        | true ↦ λ room found.
            let both = and_parts (can_serve kept d.jobs key) (is_due rules d view key) (find_passes p (keys rules d view) key found) in
            record { named = refl; room = room; due = both.1; serves = both.0 }
        | false ↦ λ room found. absurd (cc)
      ] in
      go (has_room view) refl e

  among_found : (views : List View) (id : ℕ) (key : Place) → Pairwise (λ (v w : View). v.id < w.id) views → next_among rules kept d views ≡ Some (id, key) → (view : View) × (find_view views id ≡ Some view) × IsNextView rules kept d id key view
  among_found [] id key ids e = absurd (cc)
  among_found (view ∷ views) id key ids e =
      let go : (o : Option Place) → next_key rules kept d view ≡ o → or_later view.id o (next_among rules kept d views) ≡ Some (id, key) → (v : View) × (find_view (view ∷ views) id ≡ Some v) × IsNextView rules kept d id key v = elim [
        | Some k ↦ λ is found.
            let here : (ℕ × Place) = (view.id, k) in
            let told : (ℕ × Place) = (id, key) in
            let same : here ≡ told = cc in
            let name : view.id ≡ id = ap (λ (p : ℕ × Place). p.0) same in
            let key_is : k ≡ key = ap (λ (p : ℕ × Place). p.1) same in
            let next : IsNextView rules kept d view.id key view = key_found view key (is ∙ ap Some key_is) in
            (view, subst (λ n. cond (nat_eq view.id n) (Some view) (find_view views n) ≡ Some view) name (ap (λ b. cond b (Some view) (find_view views view.id)) (self_same view.id)), subst (λ n. IsNextView rules kept d n key view) name next)
        | None ↦ λ is found.
            let later = among_found views id key ids.1 found in
            let low : view.id < id = above_all views id later.0 view.id ids.0 later.1 in
            (later.0, ap (λ b. cond b (Some view) (find_view views id)) (not_same view.id id low) ∙ later.1, later.2)
      ] in
      go (next_key rules kept d view) refl e

  -- the pair that is next is of a view that is there, has room and is due the key
  pub pair_found : (id : ℕ) (key : Place) → Pairwise (λ (v w : View). v.id < w.id) d.views → next_pair rules kept d ≡ Some (id, key) → (view : View) × (find_view d.views id ≡ Some view) × IsNextView rules kept d id key view
  pair_found id key ids e = among_found d.views id key ids e
