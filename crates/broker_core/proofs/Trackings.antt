-- What is kept of the members once tiles were sent to them.
use Rattle.std.proofs.Common.{◌≡◌, ℕ, zero, suc, ◌<◌, ◌≤◌, Bool, true, false, not, ◌||◌, cond, List, [], ◌∷◌, length, map, refl, sym, ap, subst, ◌∙◌}
use Rattle.std.specs.List.{AllByRecursion}
use Rattle.std.specs.Ordering.{is_lt}
use Rattle.kit_trait.specs.Rules.{Rules}
use Rattle.kit_trait.specs.declared.values.Input.{Input}
use Rattle.tile_key.specs.Places.{Place, key_order, same_place}
use Rattle.document_machine.specs.Due.{touched, asked_after}
use Rattle.document_machine.specs.Keys.{is_among}
use Rattle.view_session.specs.Viewing.{Viewing, Entry, with_entry, screen_after}
use Rattle.broker_core.specs.Held.{IsTracked}
use Rattle.broker_core.specs.Sending.{member_sent, offered, all_offered}
use Rattle.broker_core.specs.Serving.{takes}
use Rattle.broker_core.specs.declared.members.Member.{Member}
use Rattle.broker_core.specs.declared.sending.Ready.{Ready}
use Rattle.broker_core.proofs.Lists.{all_kept}

-- what holds of all entries and of the new one holds of the screen with it
all_with : (P : Entry → Type 0) (screen : List Entry) (key : Place) (version : ℕ) (stale : Bool) → AllByRecursion P screen → P (record { key = key; version = version; stale = stale }) → AllByRecursion P (with_entry screen key version stale)
all_with P [] key version stale all here = (here, tt)
all_with P (entry ∷ screen) key version stale all here =
    elim (is_lt (key_order key entry.key)) as (λ a. AllByRecursion P (cond a (record { key = key; version = version; stale = stale } ∷ (entry ∷ screen)) (cond (same_place key entry.key) (record { key = key; version = version; stale = stale } ∷ screen) (entry ∷ with_entry screen key version stale)))) [
      | true ↦ (here, all)
      | false ↦ elim (same_place key entry.key) as (λ b. AllByRecursion P (cond b (record { key = key; version = version; stale = stale } ∷ screen) (entry ∷ with_entry screen key version stale))) [
        | true ↦ (here, all.1)
        | false ↦ (all.0, all_with P screen key version stale all.1 here)
      ]
    ]

all_after : (P : Entry → Type 0) (screen : List Entry) (key : Place) (version : ℕ) (stale wanted : Bool) → AllByRecursion P screen → P (record { key = key; version = version; stale = stale }) → AllByRecursion P (screen_after screen key version stale wanted)
all_after P screen key version stale true all here = all_with P screen key version stale all here
all_after P screen key version stale false all here = all_kept P (λ entry. not (same_place entry.key key)) screen all

module _ {C B : Type 0} (rules : Rules C B) (base : List ℕ) (journal : List Input) (applied : ℕ) where
  -- a tile is marked as the present one exactly where no applied input above its version damaged it
  abbrev pub IsMarked : (version : ℕ) → Ready → Type 0
  IsMarked version tile = not tile.current ≡ touched rules base journal version tile.key applied

  -- a member to which a tile was sent
  pub tracked_sent : (version : ℕ) (tile : Ready) (member : Member) → IsMarked version tile → IsTracked rules base journal applied member → IsTracked rules base journal applied (member_sent version tile member)
  tracked_sent version tile member marked s =
      let v : Viewing = member.view in
      let wanted : Bool = is_among v.visible tile.key || is_among (asked_after v.asked tile.key tile.current) tile.key in
      record {
        seen = s.seen;
        marks = all_after (λ (e : Entry). e.stale ≡ touched rules base journal e.version e.key applied) v.screen tile.key version (not tile.current) wanted s.marks marked;
      }

  -- a member to which a tile was offered
  tracked_offered : (version : ℕ) (tile : Ready) (member : Member) → IsMarked version tile → IsTracked rules base journal applied member → IsTracked rules base journal applied (offered version tile member)
  tracked_offered version tile member marked s =
      let go : (b : Bool) → IsTracked rules base journal applied (cond b (member_sent version tile member) member) = elim [
        | true ↦ tracked_sent version tile member marked s
        | false ↦ s
      ] in
      go (takes tile.key version member.view)

  pub tracked_map : (version : ℕ) (tile : Ready) (members : List Member) → IsMarked version tile → AllByRecursion (IsTracked rules base journal applied) members → AllByRecursion (IsTracked rules base journal applied) (map (offered version tile) members)
  tracked_map version tile [] marked all = tt
  tracked_map version tile (member ∷ members) marked all = (tracked_offered version tile member marked all.0, tracked_map version tile members marked all.1)

  -- the members to which all of these tiles were offered
  pub tracked_all : (version : ℕ) (tiles : List Ready) (members : List Member) → AllByRecursion (IsMarked version) tiles → AllByRecursion (IsTracked rules base journal applied) members → AllByRecursion (IsTracked rules base journal applied) (all_offered version tiles members)
  tracked_all version [] members marked all = all
  tracked_all version (tile ∷ tiles) members marked all = tracked_all version tiles (map (offered version tile) members) marked.1 (tracked_map version tile members marked.0 all)
