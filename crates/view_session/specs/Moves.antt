-- Where a key stands in a list of slots, and what changes there.
use Rattle.std.specs.Prelude.{◌≡◌, ℕ, ◌<◌, ◌≤◌, Bool, true, false, not, ◌&&◌, ◌||◌, nat_eq, List, [], ◌∷◌, length, take, drop, slice_index_or, Option, None, Some, option_map, if◌then◌else◌}
use Rattle.std.specs.List.{AllByRecursion}
use Rattle.cool_base.specs.Points.{Rectangle, do_meet}
use Rattle.tile_key.specs.Places.{Place, rect_of_place, same_place}
use Rattle.tile_key.specs.Visible.{IsBefore}
use Rattle.document_machine.specs.Message.{asked_with}
use Rattle.view_session.specs.Viewing.{is_behind}
use Rattle.view_session.specs.Slots.{seen_in, screen_in, IsSlotted}
use Rattle.view_session.specs.declared.slots.OnScreen.{OnScreen}
use Rattle.view_session.specs.declared.slots.Slot.{Slot}

-- the key's slot is the one at this index
pub record IsAt (slots : List Slot) (key : Place) (i : ℕ) : Type 0 where
  pub within : i < length slots
  pub here : (slot : Slot) → (slice_index_or slots i slot).key ≡ key

-- the key has no slot, and this is where it would go
pub record IsGap (slots : List Slot) (key : Place) (i : ℕ) : Type 0 where
  pub within : i ≤ length slots
  pub before : AllByRecursion (λ slot. IsBefore slot.key key) (take i slots)
  pub after : AllByRecursion (λ slot. IsBefore key slot.key) (drop i slots)

-- so many slots come before those behind the key
pub record IsBehindFrom (slots : List Slot) (before : Option Place) (i : ℕ) : Type 0 where
  pub within : i ≤ length slots
  pub front : AllByRecursion (λ slot. is_behind before slot.key ≡ false) (take i slots)
  pub back : AllByRecursion (λ slot. is_behind before slot.key ≡ true) (drop i slots)

-- a key that is seen, with nothing on the screen
abbrev pub seen_slot : Place → Slot
seen_slot key = record { key = key; visible = true; asked = false; shown = None }

-- a key that is asked for and not seen, with nothing on the screen
abbrev pub asked_slot : Place → Slot
asked_slot key = record { key = key; visible = false; asked = true; shown = None }

-- the key is asked for, once; what the view sees and what is on its screen stays
pub record IsAsked (slots : List Slot) (asked : List Place) (key : Place) (slots_after : List Slot) (asked_after : List Place) : Type 0 where
  pub asked_is : asked_after ≡ asked_with asked key
  pub slotted : IsSlotted slots_after asked_after
  pub seen : seen_in slots_after ≡ seen_in slots
  pub screen : screen_in slots_after ≡ screen_in slots

-- a slot with this on the screen before others, where the view needs it once the asking ended or not
abbrev pub show_slot : Slot → OnScreen → (ends : Bool) → List Slot → List Slot
show_slot slot shown ends slots =
    if slot.visible || (slot.asked && not ends) then record slot { asked = slot.asked && not ends; shown = Some shown } ∷ slots
    else slots

-- the slots with this of the key on the screen, where it has a slot
abbrev pub shown_in : List Slot → Place → OnScreen → (ends : Bool) → List Slot
shown_in [] key shown ends = []
shown_in (slot ∷ slots) key shown ends =
    if same_place slot.key key then show_slot slot shown ends slots else slot ∷ shown_in slots key shown ends

-- the slots with what was on the screen of the key, where it was and the key has a slot
abbrev pub shown_again : List Slot → Place → Option OnScreen → List Slot
shown_again slots key None = slots
shown_again slots key (Some shown) = shown_in slots key shown false

-- what is shown of a key once a rectangle of a part was damaged
abbrev pub hit_shown : (part : ℕ) → Rectangle → Place → OnScreen → OnScreen
hit_shown part rect key shown = record shown { stale = shown.stale || (nat_eq part key.part && do_meet rect (rect_of_place key)) }

abbrev pub hit_slot : (part : ℕ) → Rectangle → Slot → Slot
hit_slot part rect slot = record slot { shown = option_map (hit_shown part rect slot.key) slot.shown }
