-- A document once a view joined or left.
use Rattle.std.proofs.Common.{◌≡◌, ◌≢◌, ◌∙◌, ℕ, suc, ◌<◌, ◌≤◌, ◌+◌, ◌&&◌, Bool, true, false, cond, Option, Some, None, not, List, [], ◌∷◌, ◌++◌, length, get_or, refl, sym, ap, subst, arith, nat_eq}
use Rattle.std.specs.Prelude.{nat_lt, remove, is_some}
use Rattle.std.specs.List.{AllByRecursion}
use Rattle.std.proofs.lemmas.List.{map-append}
use Rattle.std.proofs.lemmas.Bool.Decides.{nat_tests}
use Rattle.cool_base.specs.Points.{Extent}
use Rattle.cool_base.specs.declared.ids.ViewId.{ViewId}
use Rattle.cool_frame.specs.declared.frame.Frame.{Frame}
use Rattle.cool_frame.specs.declared.frame.Frame.TheVariants.{Status}
use Rattle.kit_trait.specs.Rules.{Rules}
use Rattle.save_core.specs.Saving.{Saving, final_waits, has_mark, last_stored}
use Rattle.tile_cache.specs.Cached.{Cached}
use Rattle.tile_key.specs.Places.{Place}
use Rattle.document_machine.specs.Due.{parts_of}
use Rattle.document_machine.specs.Event.{Joined, Left}
use Rattle.document_machine.specs.Goes.{Moves}
use Rattle.document_machine.specs.Held.{Held}
use Rattle.document_machine.specs.Outputs.{named, nothing, frames_only, one_frame}
use Rattle.document_machine.specs.Saves.{is_last_view, needs_final_save, saving_left}
use Rattle.document_machine.specs.State.{View, Document, find_view, is_live, opening_view, without_view}
use Rattle.document_machine.specs.Step.{Joins, JoinsWhere, Leaves, status}
use Rattle.document_machine.specs.declared.limits.TheConstants.{MOST_VIEWS}
use Rattle.document_machine.specs.declared.outs.Outs.{Outs}
use Rattle.document_machine.specs.declared.rights.Rights.{Rights}
use Rattle.document_machine.proofs.Lists.{all_push}
use Rattle.view_session.specs.Viewing.{opening}
use Rattle.broker_core.specs.Held.{IsFull, IsTracked, Holds}
use Rattle.broker_core.specs.Members.{view_of, views_of}
use Rattle.broker_core.specs.Places.{IsPlace}
use Rattle.broker_core.specs.declared.members.Member.{Member}
use Rattle.document_laws.proofs.Moving.{moves_keep}
use Rattle.broker_core.proofs.Lists.{all_remove}
use Rattle.broker_core.proofs.Places.{place_finds, place_leaves}

-- as many views as members
views_length : (members : List Member) → length (views_of members) ≡ length members
views_length [] = refl
views_length (member ∷ members) = ap suc (views_length members)

-- a broker is full where its document has as many views as it may have, and no spent one is
pub full_by : {S : Type 0} (broker : Option (Held S)) (held : Held S) → broker ≡ Some held → MOST_VIEWS ≤ length held.document.views → IsFull broker
full_by {S} broker held is many = subst (λ (b : Option (Held S)). IsFull b) (sym is) many

pub not_full_by : {S : Type 0} (broker : Option (Held S)) (held : Held S) → broker ≡ Some held → length held.document.views < MOST_VIEWS → IsFull broker → ⊥
not_full_by {S} broker held is few full =
    let many : MOST_VIEWS ≤ length held.document.views = subst (λ (b : Option (Held S)). IsFull b) is full in
    omega (arith, few, many)

pub spent_not_full : {S : Type 0} (broker : Option (Held S)) → broker ≡ None → IsFull broker → ⊥
spent_not_full {S} broker is full = subst (λ (b : Option (Held S)). IsFull b) is full

-- one frame alone
pub outs_by : {S : Type 0} (outs : Outs S) (frames : List (ViewId × Frame)) (id : ℕ) (frame told : Frame) → outs ≡ frames_only frames → frames ≡ (named id, frame) ∷ [] → frame ≡ told → outs ≡ one_frame id told
outs_by outs frames id frame told outs_are frames_are frame_is =
    outs_are ∙ ap (λ (fs : List (ViewId × Frame)). frames_only fs) (frames_are ∙ ap (λ (f : Frame). (named id, f) ∷ []) frame_is)

-- a document with a view that joined, and without one that left
abbrev pub joined_once : {S : Type 0} → Held S → List Member → Held S
joined_once held members = record held { document = record (held.document) { views = views_of members; next_view = held.document.next_view + 1 } }

abbrev pub left_once : {S : Type 0} → Held S → List Member → Saving → Held S
left_once held members saving = record held { document = record (held.document) { views = views_of members; saving = saving } }

-- the member that joins
abbrev pub newcomer : (id : ℕ) → Rights → Extent → Member
newcomer id rights size = record { id = id; view = opening rights size }

-- what is known of the saves once a view left a document of so many inputs, where it was the last one or not
abbrev pub saved_last : (is_last : Bool) → (count : ℕ) → Saving → Saving
saved_last is_last count s =
    cond (is_last && (not (nat_eq (last_stored s) count) && not (has_mark count s))) (final_waits count s) s

-- where the content stored last lacks inputs, and no save will store them all, there is room for a final save
pub room_by : {C B S : Type 0} (rules : Rules C B) (cut : C → Place → S) (IsSound : C → Type 0) (contents : C) (members : List Member) (cache : Cached) (held : Held S) (count : ℕ) → Holds rules cut IsSound contents members cache held → count ≡ length held.document.journal
    → last_stored held.document.saving ≢ count → has_mark count held.document.saving ≡ false → held.document.saving.has_room ≡ true
room_by rules cut IsSound contents members cache held count h count_is =
    subst (λ (n : ℕ). last_stored held.document.saving ≢ n → has_mark n held.document.saving ≡ false → held.document.saving.has_room ≡ true) (sym count_is) h.kept.document.saving.room

module _ {C B S : Type 0} (rules : Rules C B) (cut : C → Place → S) (IsSound : C → Type 0) (contents : C) (members : List Member) (cache : Cached) (held : Held S) (h : Holds rules cut IsSound contents members cache held) where
  -- a view joined
  pub joins_by : (rights : Rights) (size : Extent) (outs : Outs S) → length held.document.views < MOST_VIEWS
      → outs ≡ one_frame held.document.next_view (Status rules.name (rules.parts (rules.body contents)) (rules.size (rules.body contents) 0) (named held.document.next_view) (not rights.can_write))
      → Moves rules cut held (Joined rights) outs (joined_once held (members ++ newcomer held.document.next_view rights size ∷ []))
  joins_by rights size outs few outs_are =
      let d : Document S = held.document in
      let new : Held S = joined_once held (members ++ newcomer d.next_view rights size ∷ []) in
      let views_are : views_of (members ++ newcomer d.next_view rights size ∷ []) ≡ d.views ++ opening_view d.next_view rights ∷ [] = map-append view_of members (newcomer d.next_view rights size ∷ []) ∙ ap (λ vs. vs ++ opening_view d.next_view rights ∷ []) (sym h.views_are) in
      let new_is : new.document ≡ record d { views = d.views ++ opening_view d.next_view rights ∷ []; next_view = d.next_view + 1 } =
      ap (λ (vs : List View). record d { views = vs; next_view = d.next_view + 1 }) views_are in
      let told : outs ≡ one_frame d.next_view (status rules d d.next_view rights) = outs_are
      ∙ ap (λ n. one_frame d.next_view (Status rules.name n (rules.size (rules.body contents) 0) (named d.next_view) (not rights.can_write))) h.parts_are
      ∙ ap (λ (s : Extent). one_frame d.next_view (Status rules.name (parts_of rules d.base) s (named d.next_view) (not rights.can_write))) (h.sizes_are 0) in
      let yes : nat_lt (length d.views) MOST_VIEWS ≡ true = grind (arith, nat_tests) in
      let joins : Joins rules d rights outs new.document = subst (λ b. JoinsWhere b rules d rights outs new.document) (sym yes) (told, new_is) in
      (joins, refl)

  pub holds_joined : ((base : List ℕ) → 0 < parts_of rules base) → (rights : Rights) (size : Extent) → length held.document.views < MOST_VIEWS → size ≡ rules.size (rules.body contents) 0
      → Holds rules cut IsSound contents (members ++ newcomer held.document.next_view rights size ∷ []) cache (joined_once held (members ++ newcomer held.document.next_view rights size ∷ []))
  holds_joined some_part rights size few size_is =
      let d : Document S = held.document in
      let new : Held S = joined_once held (members ++ newcomer d.next_view rights size ∷ []) in
      let frame : Frame = Status rules.name (rules.parts (rules.body contents)) (rules.size (rules.body contents) 0) (named d.next_view) (not rights.can_write) in
      let joins : Moves rules cut held (Joined rights) (one_frame d.next_view frame) new = joins_by rights size (one_frame d.next_view frame) few refl in
      let tracked : IsTracked rules d.base d.journal d.applied (newcomer d.next_view rights size) = record {
        seen = ap (λ (s : Extent). (opening rights s).visible) (size_is ∙ h.sizes_are 0);
        marks = tt;
      } in
      record {
        kept = moves_keep rules cut some_part held new (Joined rights) (one_frame d.next_view frame) joins h.kept;
        views_are = refl;
        contents_are = h.contents_are;
        sound = h.sound;
        parts_are = h.parts_are;
        sizes_are = h.sizes_are;
        some_part = h.some_part;
        tracked = all_push (IsTracked rules d.base d.journal d.applied) members (newcomer d.next_view rights size) h.tracked tracked;
        forms = h.forms;
        ticket_is = h.ticket_is;
        kept_are = h.kept_are;
        cached = record { tiles = h.cached.tiles; outs = h.cached.outs };
      }

  -- a view left
  pub leaves_by : (id i count : ℕ) (member : Member) (is_last : Bool) (saving : Saving) → IsPlace members id i → get_or members i member ≡ member → count ≡ length held.document.journal → is_last ≡ nat_eq (length members) 1 → saving ≡ saved_last is_last count held.document.saving
      → Moves rules cut held (Left id) nothing (left_once held (remove members i) saving)
  leaves_by id i count member is_last saving place is count_is last_is saving_is =
      let d : Document S = held.document in
      let live : is_live d.views id ≡ true = ap (λ vs. is_live vs id) h.views_are ∙ ap (λ (o : Option View). is_some o) (place_finds members id i member place is) in
      let as_many : length members ≡ length d.views = sym (ap length h.views_are ∙ views_length members) in
      let last : is_last ≡ is_last_view d.views id = last_is ∙ ap (λ n. nat_eq n 1) as_many ∙ sym (ap (λ b. b && nat_eq (length d.views) 1) live) in
      let saved : saving ≡ saving_left d id = saving_is
      ∙ ap (λ n. saved_last is_last n d.saving) count_is
      ∙ ap (λ b. saved_last b (length d.journal) d.saving) last in
      let views_are : views_of (remove members i) ≡ without_view d.views id = place_leaves members id i member place is ∙ ap (λ vs. without_view vs id) (sym h.views_are) in
      let leaves : Leaves d id nothing ((left_once held (remove members i) saving).document) = (refl, λ j. record d { views = views_are j; saving = saved j }) in
      (leaves, refl)

  pub holds_left : ((base : List ℕ) → 0 < parts_of rules base) → (id i count : ℕ) (member : Member) (is_last : Bool) (saving : Saving) → IsPlace members id i → get_or members i member ≡ member → count ≡ length held.document.journal → is_last ≡ nat_eq (length members) 1 → saving ≡ saved_last is_last count held.document.saving
      → Holds rules cut IsSound contents (remove members i) cache (left_once held (remove members i) saving)
  holds_left some_part id i count member is_last saving place is count_is last_is saving_is =
      let d : Document S = held.document in
      record {
        kept = moves_keep rules cut some_part held (left_once held (remove members i) saving) (Left id) nothing (leaves_by id i count member is_last saving place is count_is last_is saving_is) h.kept;
        views_are = refl;
        contents_are = h.contents_are;
        sound = h.sound;
        parts_are = h.parts_are;
        sizes_are = h.sizes_are;
        some_part = h.some_part;
        tracked = all_remove (IsTracked rules d.base d.journal d.applied) members i h.tracked;
        forms = h.forms;
        ticket_is = h.ticket_is;
        kept_are = h.kept_are;
        cached = record { tiles = h.cached.tiles; outs = h.cached.outs };
      }
