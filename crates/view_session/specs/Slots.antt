-- How a view keeps what it sees, what it asks for and what is on its screen: one slot for each key, in key
-- order.
use Rattle.std.specs.Prelude.{◌≡◌, ℕ, suc, Bool, true, ◌&&◌, ◌||◌, List, [], ◌∷◌, map, Option, None, Some, if◌then◌else◌}
use Rattle.std.specs.List.{AllByRecursion}
use Rattle.tile_key.specs.Places.{Place}
use Rattle.tile_key.specs.Visible.{IsBefore}
use Rattle.document_machine.specs.Keys.{is_among, Pairwise}
use Rattle.view_session.specs.Viewing.{Entry}
use Rattle.view_session.specs.declared.slots.OnScreen.{OnScreen}
use Rattle.view_session.specs.declared.slots.Slot.{Slot}

-- the keys of the slots
abbrev pub keys_in : List Slot → List Place
keys_in slots = map (λ slot. slot.key) slots

-- those of them that the view sees
abbrev pub seen_in : List Slot → List Place
seen_in [] = []
seen_in (slot ∷ slots) = if slot.visible then slot.key ∷ seen_in slots else seen_in slots

-- entries, with one of the key before them where it is shown
abbrev pub with_shown : Place → Option OnScreen → List Entry → List Entry
with_shown key None screen = screen
with_shown key (Some shown) screen = record { key = key; version = shown.version; stale = shown.stale } ∷ screen

-- the screen that the slots are
abbrev pub screen_in : List Slot → List Entry
screen_in [] = []
screen_in (slot ∷ slots) = with_shown slot.key slot.shown (screen_in slots)

-- what a slot lacks: nothing of its key is shown, or what is shown is stale
abbrev pub lacks : Option OnScreen → Bool
lacks None = true
lacks (Some shown) = shown.stale

-- the key of a slot is due
abbrev pub slot_due : Slot → Bool
slot_due slot = (slot.visible && lacks slot.shown) || slot.asked

-- how many slots come before the first that is due; where none is due, how many there are
abbrev pub due_place : List Slot → ℕ
due_place [] = 0
due_place (slot ∷ slots) = if slot_due slot then 0 else suc (due_place slots)

-- the slots are in key order, each once; the view sees or asks for each of them; each is marked as asked for
-- exactly where its key is among the asked ones, and each asked key has its slot
pub record IsSlotted (slots : List Slot) (asked : List Place) : Type 0 where
  pub order : Pairwise (λ a b. IsBefore a.key b.key) slots
  pub needed : AllByRecursion (λ slot. (slot.visible || slot.asked) ≡ true) slots
  pub marks : AllByRecursion (λ slot. slot.asked ≡ is_among asked slot.key) slots
  pub held : AllByRecursion (λ key. is_among (keys_in slots) key ≡ true) asked
