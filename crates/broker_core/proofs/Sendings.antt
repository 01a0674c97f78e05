-- A present tile that is kept is sent to the view that is next.
use Rattle.std.proofs.Common.{◌≡◌, ◌≢◌, ℕ, zero, suc, ◌<◌, ◌≤◌, Bool, true, false, not, cond, List, [], ◌∷◌, length, set, get_or, Option, Some, None, is_some, refl, sym, ap, subst, ◌∙◌, arith, nat_eq}
use Rattle.std.specs.Prelude.{option_map, nat_lt, nat_le, IfOk, IsSome}
use Rattle.std.specs.List.{AllByRecursion}
use Rattle.std.specs.Map.{lookup, remove_entry}
use Rattle.std.proofs.lemmas.Bool.Decides.{nat_tests}
use Rattle.cool_base.specs.declared.ids.ViewId.{ViewId}
use Rattle.cool_frame.specs.declared.frame.Frame.{Frame}
use Rattle.cool_frame.specs.declared.frame.Frame.TheVariants.{Tile as TileFrame}
use Rattle.kit_trait.specs.Rules.{Rules, doc, shown}
use Rattle.tile_cache.specs.Cached.{Cached, unmet, current_tile}
use Rattle.tile_cache.specs.Calls.{keep, used}
use Rattle.tile_cache.specs.declared.tiles.Tile.{Tile}
use Rattle.tile_key.specs.Places.{Place, same_place}
use Rattle.document_machine.specs.Due.{parts_of, touched, is_current, is_due, has_room, is_not_back, sent, tile_frame, version_of}
use Rattle.document_machine.specs.Event.{Turned}
use Rattle.document_machine.specs.Goes.{DoesNext, next_work}
use Rattle.document_machine.specs.Keys.{Pairwise}
use Rattle.document_machine.specs.Held.{Held, KeptTile, current_version, kept_by, kept_version, where_current, with_kept}
use Rattle.document_machine.specs.Kept.{IsHeld, IsKept, IsPresentKept, IsTileKept}
use Rattle.document_machine.specs.Next.{Work, Serve, Apply, Send, Cut, Rest, group_at, next_pair, pick, serving, serving_next}
use Rattle.document_machine.specs.Outputs.{frames_only, named}
use Rattle.document_machine.specs.Saves.{has_ready_save}
use Rattle.document_machine.specs.State.{Document, Shown, View, find_view, with_view}
use Rattle.document_machine.specs.Step.{Does, Sends}
use Rattle.document_machine.specs.declared.outs.Outs.{Outs}
use Rattle.document_machine.specs.declared.outs.Turned.TheVariants.{Worked, Idle}
use Rattle.view_session.specs.Viewing as viewing
use Rattle.view_session.proofs.OrderFacts.{same_is}
use Rattle.broker_core.specs.Caching.{IsTileOf, kept_tile, kept_tiles}
use Rattle.broker_core.specs.Held.{Holds, IsTracked}
use Rattle.broker_core.specs.Members.{view_of, views_of}
use Rattle.broker_core.specs.Places.{IsPlace}
use Rattle.broker_core.specs.Sending.{member_sent, sent_frame}
use Rattle.broker_core.specs.declared.members.Member.{Member}
use Rattle.broker_core.specs.declared.sending.Ready.{Ready}
use Rattle.broker_core.proofs.Caches.{current_same, found_mark, kept_same}
use Rattle.broker_core.proofs.Pairs.{IsNextView, pair_found, some_same}
use Rattle.document_laws.proofs.Idle.{idle_by}
use Rattle.document_laws.proofs.Moving.{moves_keep}
use Rattle.broker_core.proofs.Lists.{all_set}
use Rattle.broker_core.proofs.Trackings.{tracked_sent}
use Rattle.broker_core.proofs.Places.{place_finds, place_changes}
use Rattle.broker_core.specs.Serving as serving
use Rattle.broker_core.proofs.Words.{due_same, sent_same}

-- a list is level where no input is behind it
pub level_is : (applied count : ℕ) → nat_lt applied count ≡ false → applied ≤ count → applied ≡ count
level_is applied count not_less le = grind (arith, nat_tests)

-- the work that is next, where no save is ready and all inputs are applied
pub work_is : {C B S : Type 0} (rules : Rules C B) (held : Held S) (id : ℕ) (key : Place) → has_ready_save held.document ≡ false → nat_lt held.document.applied (length held.document.journal) ≡ false → next_pair rules (current_version rules held) held.document ≡ Some (id, key) → next_work rules held ≡ serving id key (group_at rules (current_version rules held) held.document key) (current_version rules held key)
work_is rules held id key no_save level next =
    let d = held.document in
    let kept : Place → Option ℕ = current_version rules held in
    ap (λ b. cond b Serve (cond (nat_lt d.applied (length d.journal)) Apply (serving_next rules kept d (next_pair rules kept d)))) no_save
    ∙ ap (λ b. cond b Apply (serving_next rules kept d (next_pair rules kept d))) level
    ∙ ap (serving_next rules kept d) next

-- where no pair is next a turn is Idle
pub idles : {C B S : Type 0} (rules : Rules C B) (cut : C → Place → S) (held : Held S) → has_ready_save held.document ≡ false → nat_lt held.document.applied (length held.document.journal) ≡ false → held.document.applied ≤ length held.document.journal → next_pair rules (current_version rules held) held.document ≡ None → DoesNext rules cut held Idle held
idles rules cut held no_save level within next =
    let d = held.document in
    let kept : Place → Option ℕ = current_version rules held in
    let work : next_work rules held ≡ Rest =
    ap (λ b. cond b Serve (cond (nat_lt d.applied (length d.journal)) Apply (serving_next rules kept d (next_pair rules kept d)))) no_save
    ∙ ap (λ b. cond b Apply (serving_next rules kept d (next_pair rules kept d))) level
    ∙ ap (serving_next rules kept d) next in
    (subst (λ (w : Work). Does rules cut d w Idle d) (sym work) (idle_by rules kept d within work, refl), ap (kept_by held.kept) (sym work))

-- what holds of all kept tiles holds of the one that is found
kept_has : (P : KeptTile → Type 0) (tiles : List KeptTile) (key : Place) (version : ℕ) → AllByRecursion P tiles → kept_version tiles key ≡ Some version → P (record { key = key; version = version })
kept_has P [] key version all e = absurd (cc)
kept_has P (tile ∷ tiles) key version all e =
    let go : (b : Bool) → same_place tile.key key ≡ b → cond b (Some tile.version) (kept_version tiles key) ≡ Some version → P (record { key = key; version = version }) = elim [
      | true ↦ λ same found.
          let name : tile.key ≡ key = same_is tile.key key same in
          let number : tile.version ≡ version = cc in
          subst (λ n. P (record { key = key; version = n })) number (subst (λ (k : Place). P (record { key = k; version = tile.version })) name all.0)
      | false ↦ λ other found. kept_has P tiles key version all.1 found
    ] in
    go (same_place tile.key key) refl e

-- a version that is kept and present is both
pub kept_current : {C B S : Type 0} (rules : Rules C B) (held : Held S) (key : Place) (version : ℕ) → current_version rules held key ≡ Some version → (kept_version held.kept key ≡ Some version) × (is_current rules held.document version key ≡ true)
kept_current rules held key version e =
    let d = held.document in
    let go : (o : Option ℕ) → kept_version held.kept key ≡ o → where_current rules d key o ≡ Some version → (kept_version held.kept key ≡ Some version) × (is_current rules d version key ≡ true) = elim [
      | None ↦ λ is found. absurd (cc)
      | Some had ↦ λ is found.
          let inner : (b : Bool) → is_current rules d had key ≡ b → cond b (Some had) None ≡ Some version → (kept_version held.kept key ≡ Some version) × (is_current rules d version key ≡ true) = elim [
            | true ↦ λ current same.
                let number : had ≡ version = cc in
                (is ∙ ap Some number, ap (λ n. is_current rules d n key) (sym number) ∙ current)
            | false ↦ λ current none. absurd (cc)
          ] in
          inner (is_current rules d had key) refl found
    ] in
    go (kept_version held.kept key) refl e

le_true : (m n : ℕ) → m ≤ n → nat_le m n ≡ true
le_true m n le = grind (arith, nat_tests)

-- no screen goes back where none has a later version of the key
not_back_by : (screen : List Shown) (key : Place) (version : ℕ) → AllByRecursion (λ (shown : Shown). shown.key ≡ key → shown.version ≤ version) screen → is_not_back (version_of screen key) version ≡ true
not_back_by [] key version all = refl
not_back_by (shown ∷ screen) key version all =
    let go : (b : Bool) → same_place shown.key key ≡ b → is_not_back (cond b (Some shown.version) (version_of screen key)) version ≡ true = elim [
      | true ↦ λ same. le_true shown.version version (all.0 (same_is shown.key key same))
      | false ↦ λ other. not_back_by screen key version all.1
    ] in
    go (same_place shown.key key) refl

-- what holds of all views holds of the one that is found
pub view_has : (P : View → Type 0) (views : List View) (id : ℕ) (view : View) → AllByRecursion P views → find_view views id ≡ Some view → P view
view_has P [] id view all e = absurd (cc)
view_has P (v ∷ views) id view all e =
    let go : (b : Bool) → cond b (Some v) (find_view views id) ≡ Some view → P view = elim [
      | true ↦ λ found. let same : v ≡ view = cc in subst P same all.0
      | false ↦ λ found. view_has P views id view all.1 found
    ] in
    go (nat_eq v.id id) e

-- the tile that the cache tells as current is not met
pub tile_found : (o : Option Tile) (number : ℕ) (rgba : List ℕ) → option_map {U = ℕ × List ℕ} (λ (tile : Tile). (tile.number, tile.rgba)) (unmet o) ≡ Some (number, rgba) → unmet o ≡ Some (record { number = number; rgba = rgba; is_met = false })
tile_found None number rgba e = absurd (cc)
tile_found (Some had) number rgba e =
    let go : (b : Bool) → had.is_met ≡ b → option_map {U = ℕ × List ℕ} (λ (tile : Tile). (tile.number, tile.rgba)) (cond b None (Some had)) ≡ Some (number, rgba) → cond b None (Some had) ≡ Some (record { number = number; rgba = rgba; is_met = false }) = elim [
      | true ↦ λ met none. absurd (cc)
      | false ↦ λ unmet some.
          let pair : (ℕ × List ℕ) = (had.number, had.rgba) in
          let told : (ℕ × List ℕ) = (number, rgba) in
          let same : pair ≡ told = cc in
          ap Some (λ i. record { number = (ap (λ (p : ℕ × List ℕ). p.0) same) i; rgba = (ap (λ (p : ℕ × List ℕ). p.1) same) i; is_met = unmet i })
    ] in
    go had.is_met refl e

-- what is kept with these members
abbrev pub held_with : {S : Type 0} → Held S → List Member → Cached → Held S
held_with held members cache = record {
  document = record (held.document) { views = views_of members; next_ticket = cache.next };
  kept = kept_tiles cache.tiles;
}

-- what is kept once a tile that is kept was sent to the member at the place
abbrev pub held_sent : {S : Type 0} → Held S → List Member → (i version : ℕ) → Ready → Member → Cached → Held S
held_sent held members i version ready member cache = held_with held (set members i (member_sent version ready member)) cache

-- where the machine keeps a present tile the cache has one
both_there : {X : Type 0} (f : Tile → X) (kept : Option ℕ) (tile : Option Tile) → is_some kept ≡ is_some tile → IsSome kept → option_map f tile ≡ None → ⊥
both_there f None None same some none = cc
both_there f None (Some t) same some none = cc
both_there f (Some n) None same some none = cc
both_there f (Some n) (Some t) same some none = cc

pub never_lost : {X C B S : Type 0} (f : Tile → X) (rules : Rules C B) (cut : C → Place → S) (IsSound : C → Type 0) (contents : C) (members : List Member) (cache : Cached) (held : Held S) → Holds rules cut IsSound contents members cache held → (key : Place) → IsSome (current_version rules held key) → option_map f (current_tile cache key) ≡ None → ⊥
never_lost f rules cut IsSound contents members cache held h key some none =
    both_there f (current_version rules held key) (current_tile cache key) (some_same rules cut IsSound contents members cache held h key) some none

-- the view of the pair that is next is there
pub never_gone : {C B S : Type 0} (rules : Rules C B) (cut : C → Place → S) (IsSound : C → Type 0) (contents : C) (members : List Member) (cache : Cached) (held : Held S) → Holds rules cut IsSound contents members cache held → (id : ℕ) (key : Place) → next_pair rules (current_version rules held) held.document ≡ Some (id, key) → find_view (views_of members) id ≡ None → ⊥
never_gone rules cut IsSound contents members cache held h id key next none =
    let found = pair_found rules (current_version rules held) held.document id key h.kept.document.ids next in
    let there : find_view (views_of members) id ≡ Some found.0 = ap (λ vs. find_view vs id) (sym h.views_are) ∙ found.1 in
    let both : None ≡ Some found.0 = sym none ∙ there in
    cc

-- the tile that the cache has of a key as one that is there
abbrev pub ready_of : Place → Tile → Ready
ready_of key tile = record { key = key; current = true; rgba = tile.rgba }

module _ {C B S : Type 0} (rules : Rules C B) (cut : C → Place → S) (IsSound : C → Type 0) (contents : C) (members : List Member) (cache now : Cached) (held : Held S) (h : Holds rules cut IsSound contents members cache held)
    (id : ℕ) (key : Place) (no_save : has_ready_save held.document ≡ false) (level : nat_lt held.document.applied (length held.document.journal) ≡ false) (next : next_pair rules (current_version rules held) held.document ≡ Some (id, key))
    (tile : Tile) (current : current_tile cache key ≡ Some tile) (now_is : now ≡ used key cache (Some tile))
    (i : ℕ) (member : Member) (place : IsPlace members id i) (here : get_or members i member ≡ member) where
  version_is : current_version rules held key ≡ Some tile.number
  version_is = current_same rules held cache key h.kept_are h.cached.tiles ∙ ap (option_map (λ (t : Tile). t.number)) current

  -- the tile of the cache shows the picture of its version
  tile_of : (o : Option Tile) → lookup (same_place key) cache.tiles ≡ o → unmet o ≡ Some tile → IsTileOf rules held.document.base held.document.journal held.document.applied (key, tile)
  tile_of None is e = absurd (cc)
  tile_of (Some had) is e =
      let go : (b : Bool) → cond b None (Some had) ≡ Some tile → IsTileOf rules held.document.base held.document.journal held.document.applied (key, tile) = elim [
        | true ↦ λ none. absurd (cc)
        | false ↦ λ some.
            let same : had ≡ tile = cc in
            found_mark rules held.document.base held.document.journal held.document.applied cache.tiles key tile h.cached.tiles (is ∙ ap Some same)
      ] in
      go had.is_met e

  -- the member at the place is tracked
  tracked_at : (list : List Member) (j : ℕ) → j < length list → get_or list j member ≡ member → AllByRecursion (IsTracked rules held.document.base held.document.journal held.document.applied) list → IsTracked rules held.document.base held.document.journal held.document.applied member
  tracked_at [] j within is all = absurd (omega arith)
  tracked_at (m ∷ list) zero within is all = subst (IsTracked rules held.document.base held.document.journal held.document.applied) is all.0
  tracked_at (m ∷ list) (suc j) within is all = tracked_at list j (omega arith) is all.1

  -- the view that is next is the one at the place
  next_view : IsNextView rules (current_version rules held) held.document id key (view_of member)
  next_view =
      let d = held.document in
      let found = pair_found rules (current_version rules held) d id key h.kept.document.ids next in
      let there : find_view d.views id ≡ Some (view_of member) = ap (λ vs. find_view vs id) h.views_are ∙ place_finds members id i member place here in
      let same : found.0 ≡ view_of member = let both : Some found.0 ≡ Some (view_of member) = sym found.1 ∙ there in cc in
      subst (IsNextView rules (current_version rules held) d id key) same found.2

  -- it has room, and is due the key
  pub member_room : serving.has_room member.view ≡ true
  member_room = next_view.room

  pub member_due : viewing.is_due member.view key ≡ true
  member_due = sym (due_same rules held.document member key (tracked_at members i place.within here h.tracked)) ∙ next_view.due

  -- the turn sends it
  pub sends_by : Sends rules held.document (frames_only (sent_frame tile.number (ready_of key tile) member ∷ [])) (held_sent held members i tile.number (ready_of key tile) member now).document
  sends_by =
      let d = held.document in
      let view : View = view_of member in
      let n : IsNextView rules (current_version rules held) d id key view = next_view in
      let both = kept_current rules held key tile.number version_is in
      let shows : IsTileOf rules d.base d.journal d.applied (key, tile) = tile_of (lookup (same_place key) cache.tiles) refl current in
      let tracked : IsTracked rules d.base d.journal d.applied member = tracked_at members i place.within here h.tracked in
      let there : find_view d.views id ≡ Some view = ap (λ vs. find_view vs id) h.views_are ∙ place_finds members id i member place here in
      let kept : IsTileKept rules d (record { key = key; version = tile.number }) = kept_has (IsTileKept rules d) held.kept key tile.number h.kept.kept_each both.0 in
      let present : IsPresentKept d (record { key = key; version = tile.number }) = kept_has (λ t. is_current rules d t.version t.key ≡ true → IsPresentKept d t) held.kept key tile.number h.kept.kept_present both.0 both.1 in
      let screen : AllByRecursion (λ (shown : Shown). shown.key ≡ key → shown.version ≤ tile.number) view.screen = view_has (λ (v : View). AllByRecursion (λ (shown : Shown). shown.key ≡ key → shown.version ≤ tile.number) v.screen) d.views id view present.not_ahead there in
      let change : view_of (member_sent tile.number (ready_of key tile) member) ≡ sent rules d tile.number key view = sym (sent_same rules d tile.number key true member both.1 tracked) in
      record {
        view = view;
        key = key;
        version = tile.number;
        no_save = no_save;
        level = level_is d.applied (length d.journal) level h.kept.document.level;
        live = ap (find_view d.views) n.named ∙ there;
        room = n.room;
        due = n.due;
        past = kept.version;
        current = both.1;
        not_back = not_back_by view.screen key tile.number screen;
        outs_are = ap (λ (rgba : List ℕ). frames_only ((named member.id, TileFrame key tile.number (record { 0 = member.view.next_wid }) rgba) ∷ [])) shows.shows;
        new_is = ap (λ n. record d { views = views_of (set members i (member_sent tile.number (ready_of key tile) member)); next_ticket = n }) (ap (λ (c : Cached). c.next) now_is ∙ sym h.ticket_is)
            ∙ ap (λ (vs : List View). record d { views = vs })
            (place_changes members id i member (member_sent tile.number (ready_of key tile) member) (sent rules d tile.number key) place here change
            ∙ ap (λ (vs : List View). with_view vs id (sent rules d tile.number key)) (sym h.views_are)
            ∙ ap (λ n. with_view d.views n (sent rules d tile.number key)) (sym n.named));
      }

  -- it is the work that is next
  pub sends_next : DoesNext rules cut held (Worked (frames_only (sent_frame tile.number (ready_of key tile) member ∷ []))) (held_sent held members i tile.number (ready_of key tile) member now)
  unfolding sends_by
  sends_next =
      let d = held.document in
      let work : next_work rules held ≡ Send id key tile.number = work_is rules held id key no_save level next ∙ ap (serving id key (group_at rules (current_version rules held) d key)) version_is in
      let new : Held S = held_sent held members i tile.number (ready_of key tile) member now in
      let does : Does rules cut d (Send id key tile.number) (Worked (frames_only (sent_frame tile.number (ready_of key tile) member ∷ []))) new.document = (sends_by, next_view.named, refl, refl) in
      let kept : new.kept ≡ with_kept held.kept key tile.number =
      ap (λ (c : Cached). kept_tiles c.tiles) now_is
      ∙ kept_same key tile cache.tiles (subst (λ ts. Pairwise (λ (a b : KeptTile). a.key ≢ b.key) ts) h.kept_are h.kept.kept_once)
      ∙ ap (λ ts. with_kept ts key tile.number) (sym h.kept_are) in (
        subst (λ (w : Work). Does rules cut d w (Worked (frames_only (sent_frame tile.number (ready_of key tile) member ∷ []))) new.document) (sym work) does,
        kept ∙ ap (kept_by held.kept) (sym work),
      )

  not_true : (b : Bool) → not b ≡ true → b ≡ false
  not_true true e = absurd (cc)
  not_true false e = refl

  -- what holds of each tile holds of those that stay, with the one that was used first
  tiles_used : (P : Place × Tile → Type 0) (tiles : List (Place × Tile)) → AllByRecursion P tiles → P (key, tile) → AllByRecursion P (keep (key, tile) tiles)
  tiles_used P tiles all one = (one, stay tiles all)
    where
      stay : (list : List (Place × Tile)) → AllByRecursion P list → AllByRecursion P (remove_entry (same_place key) list)
      stay [] all = tt
      stay (entry ∷ list) all = elim (same_place key entry.0) as (λ b. AllByRecursion P (cond b list (entry ∷ remove_entry (same_place key) list))) [
        | true ↦ all.1
        | false ↦ (all.0, stay list all.1)
      ]

  -- what a broker keeps, once it was sent
  pub holds_sent : ((base : List ℕ) → 0 < parts_of rules base) → Holds rules cut IsSound contents (set members i (member_sent tile.number (ready_of key tile) member)) now (held_sent held members i tile.number (ready_of key tile) member now)
  holds_sent some_part =
      let d = held.document in
      let new : Held S = held_sent held members i tile.number (ready_of key tile) member now in
      let outs : Outs S = frames_only (sent_frame tile.number (ready_of key tile) member ∷ []) in
      let both = kept_current rules held key tile.number version_is in
      let untouched : touched rules d.base d.journal tile.number key d.applied ≡ false = not_true (touched rules d.base d.journal tile.number key d.applied) both.1 in
      let tracked : IsTracked rules d.base d.journal d.applied member = tracked_at members i place.within here h.tracked in
      record {
        kept = moves_keep rules cut some_part held new Turned outs (Worked outs, sends_next, refl) h.kept;
        views_are = refl;
        contents_are = h.contents_are;
        sound = h.sound;
        parts_are = h.parts_are;
        sizes_are = h.sizes_are;
        some_part = h.some_part;
        tracked = all_set (IsTracked rules d.base d.journal d.applied) members i (member_sent tile.number (ready_of key tile) member) h.tracked
            (tracked_sent rules d.base d.journal d.applied tile.number (ready_of key tile) member (sym untouched) tracked);
        forms = h.forms;
        ticket_is = refl;
        kept_are = refl;
        cached = record {
          tiles = subst (λ (c : Cached). AllByRecursion (IsTileOf rules d.base d.journal d.applied) c.tiles) (sym now_is)
              (tiles_used (IsTileOf rules d.base d.journal d.applied) cache.tiles h.cached.tiles (tile_of (lookup (same_place key) cache.tiles) refl current));
          outs = ap (λ (c : Cached). c.outs) now_is ∙ h.cached.outs;
        };
      }
