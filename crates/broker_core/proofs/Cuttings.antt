-- A job is cut for the group of the pair that is next.
use Rattle.std.proofs.Common.{◌≡◌, ℕ, zero, suc, ◌+◌, ◌/◌, ◌<◌, ◌≤◌, Bool, true, false, not, ◌&&◌, ◌||◌, cond, List, [], ◌∷◌, ◌++◌, length, map, All, Option, Some, None, is_some, refl, sym, ap, subst, ◌∙◌, inl, inr, arith, nat_eq, append_assoc, append-nil}
use Rattle.std.specs.Prelude.{nat_lt, option_map}
use Rattle.std.specs.List.{list_any, flat_map, AllByRecursion}
use Rattle.std.proofs.lemmas.List.Elements.{All-cons, All-nil}
use Rattle.std.proofs.lemmas.Bool.{and_parts}
use Rattle.std.proofs.lemmas.Bool.Decides.{nat_tests}
use Rattle.cool_base.specs.Points.{Rectangle, Extent, intersection_of}
use Rattle.kit_trait.specs.Rules.{Rules, doc}
use Rattle.tile_cache.specs.Cached.{Cached, current_tile}
use Rattle.tile_cache.specs.Calls.{IsFree, begun, going, is_out as cache_is_out}
use Rattle.tile_cache.specs.declared.outs.Out.{Out}
use Rattle.tile_cache.specs.declared.tiles.Tile.{Tile}
use Rattle.tile_key.specs.Places.{Place, Scale, IsArea, IsGroup, IsKey, next_place, place_of_keys, same_place}
use Rattle.tile_key.specs.Visible.{visible_keys, rows_of, row_of, tile_in, tiles_to, whole_part}
use Rattle.document_machine.specs.Due.{parts_of, is_current, is_due, is_lacking, is_owed, is_out, is_wanted, has_room, touched, version_of, visible}
use Rattle.document_machine.specs.Event.{Turned}
use Rattle.document_machine.specs.Goes.{DoesNext, next_work}
use Rattle.document_machine.specs.Held.{Held, current_version, kept_by}
use Rattle.document_machine.specs.Keys.{is_among}
use Rattle.document_machine.specs.Kept.{IsKept, IsViewKept}
use Rattle.document_machine.specs.Next.{Work, Cut, can_serve, group_at, joins_group, next_pair, right_of, serving}
use Rattle.document_machine.specs.Saves.{has_ready_save}
use Rattle.document_machine.specs.State.{Document, Job, View, find_view}
use Rattle.document_machine.specs.Step.{Cuts, Does, given}
use Rattle.document_machine.specs.declared.limits.TheConstants.{MOST_JOBS}
use Rattle.document_machine.specs.declared.outs.Outs.{Outs}
use Rattle.document_machine.specs.declared.outs.Turned.TheVariants.{Worked}
use Rattle.document_machine.proofs.Groups.{group_is}
use Rattle.document_machine.proofs.Lists.{all_push, holds_among}
use Rattle.document_machine.proofs.Present.{untouched}
use Rattle.view_session.proofs.OrderFacts.{same_is}
use Rattle.broker_core.specs.Caching.{IsTileOf, kept_tiles, out_of, outs_of}
use Rattle.broker_core.specs.Held.{Holds}
use Rattle.broker_core.specs.declared.members.Member.{Member}
use Rattle.document_laws.proofs.Moving.{moves_keep}
use Rattle.broker_core.proofs.Caches.{current_same}
use Rattle.broker_core.proofs.Pairs.{IsNextView, outs_same, pair_found}
use Rattle.broker_core.proofs.Sendings.{level_is, view_has, work_is}

-- the keys that a view sees are of its part
all_append : {X : Type 0} (P : X → Type 0) (xs ys : List X) → AllByRecursion P xs → AllByRecursion P ys → AllByRecursion P (xs ++ ys)
all_append P [] ys a b = b
all_append P (x ∷ xs) ys a b = (a.0, all_append P xs ys a.1 b)

row_part : (part : ℕ) (zoom : Scale) (first row n : ℕ) → AllByRecursion (λ (key : Place). key.part ≡ part) (row_of part zoom first row n)
unfolding row_of
row_part part zoom first row zero = tt
row_part part zoom first row (suc n) = all_push (λ (key : Place). key.part ≡ part) (row_of part zoom first row n) (tile_in part zoom (first + n) row) (row_part part zoom first row n) refl

rows_part : (part : ℕ) (zoom : Scale) (first columns top n : ℕ) → AllByRecursion (λ (key : Place). key.part ≡ part) (rows_of part zoom first columns top n)
unfolding rows_of
rows_part part zoom first columns top zero = tt
rows_part part zoom first columns top (suc n) =
    all_append (λ (key : Place). key.part ≡ part) (rows_of part zoom first columns top n) (row_of part zoom first (top + n) columns)
    (rows_part part zoom first columns top n) (row_part part zoom first (top + n) columns)

visible_part : (part : ℕ) (zoom : Scale) (area : Rectangle) (size : Extent) → AllByRecursion (λ (key : Place). key.part ≡ part) (visible_keys part zoom area size)
unfolding visible_keys
visible_part part zoom area size =
    let seen : Rectangle = intersection_of area (whole_part size) in
    rows_part part zoom (seen.x / zoom.twip_w) (tiles_to seen.x (seen.x + seen.w) zoom.twip_w) (seen.y / zoom.twip_h) (tiles_to seen.y (seen.y + seen.h) zoom.twip_h)

-- a key that a view is due is of one of the document's parts
due_part : {C B S : Type 0} (rules : Rules C B) (d : Document S) (view : View) (key : Place) → IsViewKept rules d view → is_due rules d view key ≡ true → key.part < parts_of rules d.base
due_part rules d view key kept due =
    let go : (a b : Bool) → is_among (visible rules d view) key ≡ a → is_among view.asked key ≡ b → ((a && is_lacking rules d key (version_of view.screen key)) || b) ≡ true → key.part < parts_of rules d.base = elim [
      | true ↦ λ b sees asks some.
          let part : key.part ≡ view.part = holds_among (λ (k : Place). k.part ≡ view.part) (visible rules d view) key (λ p q same is. ap (λ (k : Place). k.part) (sym (same_is p q same)) ∙ is) (visible_part view.part view.zoom view.area _) sees in
          let low : view.part < parts_of rules d.base = kept.part in
          omega arith
      | false ↦ elim [
        | true ↦ λ sees asks some. (holds_among (λ (k : Place). IsKey k × (k.part < parts_of rules d.base)) view.asked key (λ p q same is. subst (λ (k : Place). IsKey k × (k.part < parts_of rules d.base)) (same_is p q same) is) kept.asked asks).1
        | false ↦ λ sees asks some. absurd (cc)
      ]
    ] in
    go (is_among (visible rules d view) key) (is_among view.asked key) refl refl due

-- what each key that passes the test is holds of all that are taken to the right
right_all : (P : Place → Type 0) (n : ℕ) (test : Place → Bool) → ((key : Place) → test key ≡ true → P key) → (key : Place) → AllByRecursion P (right_of n test key)
right_all P zero test f key = tt
right_all P (suc n) test f key =
    let go : (b : Bool) → test (next_place key) ≡ b → AllByRecursion P (cond b (next_place key ∷ right_of n test (next_place key)) []) = elim [
      | true ↦ λ passes. (f (next_place key) passes, right_all P n test f (next_place key))
      | false ↦ λ fails. tt
    ] in
    go (test (next_place key)) refl

not_true : (b : Bool) → not b ≡ true → b ≡ false
not_true true e = absurd (cc)
not_true false e = refl

not_some : {X : Type 0} (o : Option X) → not (is_some o) ≡ true → o ≡ None
not_some None e = refl
not_some (Some x) e = absurd (cc)

none_map : {X Y : Type 0} (f : X → Y) (o : Option X) → option_map f o ≡ None → o ≡ None
none_map f None e = refl
none_map f (Some x) e = absurd (cc)

less_is : (m n : ℕ) → nat_lt m n ≡ true → m < n
less_is m n less = grind (arith, nat_tests)

-- a view that is there, found by its id, is one of them
any_found : (p : View → Bool) (views : List View) (id : ℕ) (view : View) → find_view views id ≡ Some view → p view ≡ true → list_any p views ≡ true
any_found p [] id view e passes = absurd (cc)
any_found p (v ∷ views) id view e passes =
    let go : (b : Bool) → cond b (Some v) (find_view views id) ≡ Some view → (p v || list_any p views) ≡ true = elim [
      | true ↦ λ found. let same : v ≡ view = cc in rw (ap p same ∙ passes) refl
      | false ↦ λ found. rw (any_found p views id view found passes) (or_true (p v))
    ] in
    go (nat_eq v.id id) e
  where
    or_true : (b : Bool) → (b || true) ≡ true
    or_true true = refl
    or_true false = refl

-- what holds of each element, by its place
all_of : {X : Type 0} (P : X → Type 0) (xs : List X) → AllByRecursion P xs → All P xs
all_of P [] all = All-nil P
all_of P (x ∷ xs) all = All-cons P x xs all.0 (all_of P xs all.1)

-- what is kept with these jobs out
abbrev pub held_jobs : {S : Type 0} → Held S → List (Job S) → Cached → Held S
held_jobs held jobs cache = record {
  document = record (held.document) { jobs = jobs; next_ticket = cache.next };
  kept = kept_tiles cache.tiles;
}

-- what is kept once the job is out
abbrev pub held_cut : {S : Type 0} → Held S → Job S → Cached → Held S
held_cut held job cache = held_jobs held (held.document.jobs ++ job ∷ []) cache

module _ {C B S : Type 0} (rules : Rules C B) (cut : C → Place → S) (IsSound : C → Type 0) (contents : C) (members : List Member) (cache : Cached) (held : Held S) (h : Holds rules cut IsSound contents members cache held)
    (id : ℕ) (key : Place) (no_save : has_ready_save held.document ≡ false) (level : nat_lt held.document.applied (length held.document.journal) ≡ false) (next : next_pair rules (current_version rules held) held.document ≡ Some (id, key))
    (none : current_version rules held key ≡ None) where
  -- the keys that the job is cut for
  abbrev pub group : List Place
  group = group_at rules (current_version rules held) held.document key

  -- the view that is next, which is there
  found : (view : View) × (find_view held.document.views id ≡ Some view) × IsNextView rules (current_version rules held) held.document id key view
  found = pair_found rules (current_version rules held) held.document id key h.kept.document.ids next

  -- no tile of the key is kept, so a job may be cut for it
  serves : (nat_lt (length held.document.jobs) MOST_JOBS && not (is_out held.document.jobs key)) ≡ true
  serves = sym (ap (λ o. is_some o || (nat_lt (length held.document.jobs) MOST_JOBS && not (is_out held.document.jobs key))) none) ∙ found.2.serves

  -- the key is of one of the kit's parts
  pub part_is : key.part < rules.parts (rules.body contents)
  part_is =
      let d = held.document in
      let kept : IsViewKept rules d found.0 = view_has (IsViewKept rules d) d.views id found.0 h.kept.document.each found.1 in
      let low : key.part < parts_of rules d.base = due_part rules d found.0 key kept found.2.due in
      let parts : rules.parts (rules.body contents) ≡ parts_of rules d.base = h.parts_are in
      omega arith

  -- each key is free in the machine
  free_keys : AllByRecursion (λ k. (current_version rules held k ≡ None) × (is_out held.document.jobs k ≡ false)) group
  free_keys =
      let d = held.document in
      let kept : Place → Option ℕ = current_version rules held in
      let first : is_out d.jobs key ≡ false = not_true (is_out d.jobs key) (and_parts (nat_lt (length d.jobs) MOST_JOBS) (not (is_out d.jobs key)) serves).1 in (
        (none, first),
        right_all (λ k. (kept k ≡ None) × (is_out d.jobs k ≡ false)) 7 (joins_group rules kept d)
            (λ k joins.
            let free = and_parts (not (is_some (kept k))) (not (is_out d.jobs k)) (and_parts (is_owed rules d k) _ joins).1 in
            (not_some (kept k) free.0, not_true (is_out d.jobs k) free.1)) key,
      )

  -- and in the cache, so a job of the group may begin
  cache_free : (keys : List Place) → AllByRecursion (λ k. (current_version rules held k ≡ None) × (is_out held.document.jobs k ≡ false)) keys → AllByRecursion (IsFree cache) keys
  cache_free [] all = tt
  cache_free (k ∷ keys) all = (
    (
      none_map (λ (tile : Tile). tile.number) (current_tile cache k) (sym (current_same rules held cache k h.kept_are h.cached.tiles) ∙ all.0.0),
      sym (outs_same rules cut IsSound contents members cache held h k) ∙ all.0.1,
    ),
    cache_free keys all.1,
  )

  pub begins : All (IsFree cache) group
  begins = all_of (IsFree cache) group (cache_free group free_keys)

  owed_keys : AllByRecursion (λ k. is_owed rules held.document k ≡ true) group
  owed_keys =
      let d = held.document in (
        any_found (λ view. is_due rules d view key) d.views id found.0 found.1 found.2.due,
        right_all (λ k. is_owed rules d k ≡ true) 7 (joins_group rules (current_version rules held) d) (λ k joins. (and_parts (is_owed rules d k) _ joins).0) key,
      )

  wanted_key : is_wanted rules held.document key ≡ true
  wanted_key =
      let d = held.document in
      any_found (λ view. has_room view && is_due rules d view key) d.views id found.0 found.1 (ap (λ b. b && is_due rules d found.0 key) found.2.room ∙ found.2.due)

  module _ (job : Job S) (now : Cached) (outs : Outs S)
      (now_is : now ≡ begun group held.document.applied cache)
      (job_is : job ≡ record { ticket = cache.next; number = held.document.applied; keys = group; area = place_of_keys group; scene = cut contents (place_of_keys group) })
      (outs_are : outs ≡ record { frames = []; jobs = given job ∷ []; errands = [] }) where
    -- the turn cuts it
    cuts_by : Cuts rules cut held.document outs (held_cut held job now).document
    cuts_by =
        let d = held.document in
        let it : Job S = record { ticket = cache.next; number = d.applied; keys = group; area = place_of_keys group; scene = cut contents (place_of_keys group) } in
        let same : it ≡ job = sym job_is in
        record {
          job = job;
          no_save = no_save;
          level = level_is d.applied (length d.journal) level h.kept.document.level;
          few = less_is (length d.jobs) MOST_JOBS (and_parts (nat_lt (length d.jobs) MOST_JOBS) (not (is_out d.jobs key)) serves).0;
          ticket_is = ap (λ (j : Job S). j.ticket) job_is ∙ sym h.ticket_is;
          number_is = ap (λ (j : Job S). j.number) job_is;
          group = subst (λ (j : Job S). IsGroup j.keys) same (group_is rules (current_version rules held) d key);
          area_is = subst (λ (j : Job S). j.area ≡ place_of_keys j.keys) same refl;
          free = subst (λ (j : Job S). AllByRecursion (λ k. is_out d.jobs k ≡ false) j.keys) same (all_second group free_keys);
          owed = subst (λ (j : Job S). AllByRecursion (λ k. is_owed rules d k ≡ true) j.keys) same owed_keys;
          wanted = subst (λ (j : Job S). list_any (is_wanted rules d) j.keys ≡ true) same (ap (λ b. b || list_any (is_wanted rules d) (right_of 7 (joins_group rules (current_version rules held) d) key)) wanted_key);
          scene_is = subst (λ (j : Job S). j.scene ≡ cut (doc rules d.base d.journal d.applied) j.area) same (ap (λ c. cut c (place_of_keys group)) h.contents_are);
          outs_are = outs_are;
          new_is = ap (λ n. record d { jobs = d.jobs ++ job ∷ []; next_ticket = n }) (ap (λ (c : Cached). c.next) now_is ∙ ap (λ n. n + 1) (sym h.ticket_is));
        }
      where
        all_second : (keys : List Place) → AllByRecursion (λ k. (current_version rules held k ≡ None) × (is_out held.document.jobs k ≡ false)) keys → AllByRecursion (λ k. is_out held.document.jobs k ≡ false) keys
        all_second [] all = tt
        all_second (k ∷ keys) all = (all.0.1, all_second keys all.1)

    -- it is the work that is next
    pub cuts_next : DoesNext rules cut held (Worked outs) (held_cut held job now)
    unfolding cuts_by
    cuts_next =
        let d = held.document in
        let new : Held S = held_cut held job now in
        let work : next_work rules held ≡ Cut id group = work_is rules held id key no_save level next ∙ ap (serving id key group) none in
        let does : Does rules cut d (Cut id group) (Worked outs) new.document = (cuts_by, ap (λ (j : Job S). j.keys) job_is) in
        let kept : new.kept ≡ held.kept = ap (λ (c : Cached). kept_tiles c.tiles) now_is ∙ sym h.kept_are in
        (subst (λ (w : Work). Does rules cut d w (Worked outs) new.document) (sym work) does, kept ∙ ap (kept_by held.kept) (sym work))

    -- the keys of the job that begins are not met by any damage
    going_same : (keys : List Place) → map (going cache.next held.document.applied) keys ≡ map (out_of rules held.document.base held.document.journal held.document.applied job) keys
    going_same [] = refl
    going_same (k ∷ keys) =
        let d = held.document in
        let here : going cache.next d.applied k ≡ out_of rules d.base d.journal d.applied job k =
        ap (λ met. record { ticket = cache.next; number = d.applied; key = k; is_met = met }) (sym (untouched rules d.base d.journal d.applied k d.applied (omega arith)))
        ∙ ap (λ (j : Job S). out_of rules d.base d.journal d.applied j k) (sym job_is) in
        ap (λ (out : Out). out ∷ map (going cache.next d.applied) keys) here ∙ ap (λ outs. out_of rules d.base d.journal d.applied job k ∷ outs) (going_same keys)

    flat_more : {X Y : Type 0} (f : X → List Y) (xs : List X) (x : X) → flat_map f xs ++ f x ≡ flat_map f (xs ++ x ∷ [])
    flat_more f [] x = sym (append-nil (f x))
    flat_more f (y ∷ xs) x = append_assoc (f y) (flat_map f xs) (f x) ∙ ap (λ ys. f y ++ ys) (flat_more f xs x)

    -- what a broker keeps, once it was cut
    pub holds_cut : ((base : List ℕ) → 0 < parts_of rules base) → (after : C) → after ≡ contents → IsArea job.area → Holds rules cut IsSound after members now (held_cut held job now)
    holds_cut some_part after after_is form =
        let d = held.document in
        let new : Held S = held_cut held job now in
        let keys_are : job.keys ≡ group = ap (λ (j : Job S). j.keys) job_is in
        record {
          kept = moves_keep rules cut some_part held new Turned outs (Worked outs, cuts_next, refl) h.kept;
          views_are = h.views_are;
          contents_are = after_is ∙ h.contents_are;
          sound = subst IsSound (sym after_is) h.sound;
          parts_are = ap (λ c. rules.parts (rules.body c)) after_is ∙ h.parts_are;
          sizes_are = λ part. ap (λ c. rules.size (rules.body c) part) after_is ∙ h.sizes_are part;
          some_part = h.some_part;
          tracked = h.tracked;
          forms = all_push (λ (j : Job S). IsArea j.area) d.jobs job h.forms form;
          ticket_is = refl;
          kept_are = refl;
          cached = record {
            tiles = subst (λ (c : Cached). AllByRecursion (IsTileOf rules d.base d.journal d.applied) c.tiles) (sym now_is) h.cached.tiles;
            outs = ap (λ (c : Cached). c.outs) now_is
                ∙ ap (λ outs. outs ++ map (going cache.next d.applied) group) h.cached.outs
                ∙ ap (λ outs. outs_of rules d.base d.journal d.applied d.jobs ++ outs) (going_same group ∙ ap (λ ks. map (out_of rules d.base d.journal d.applied job) ks) (sym keys_are))
                ∙ flat_more (λ (j : Job S). map (out_of rules d.base d.journal d.applied j) j.keys) d.jobs job;
          };
        }
