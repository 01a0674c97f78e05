-- What a view says of a key, by the key's slot.
use Rattle.std.proofs.Common.{◌≡◌, ℕ, zero, arith, ◌<◌, Bool, true, false, ◌&&◌, ◌||◌, cond, List, [], ◌∷◌, length, take, drop, filter, find, get_or, Option, Some, None, suc, refl, ap, subst}
use Rattle.std.specs.Prelude.{option_map}
use Rattle.std.specs.List.{list_any, AllByRecursion}
use Rattle.tile_key.specs.Places.{Place}
use Rattle.document_machine.specs.Keys.{is_among}
use Rattle.view_session.specs.Viewing.{Entry, Viewing, version_on, wants, is_lacking, is_due}
use Rattle.view_session.specs.Slots.{keys_in, seen_in, screen_in, lacks, slot_due, IsSlotted}
use Rattle.view_session.specs.Moves.{IsAt, IsGap}
use Rattle.view_session.specs.declared.slots.OnScreen.{OnScreen}
use Rattle.view_session.specs.declared.slots.Slot.{Slot}
use Rattle.view_session.proofs.SlotFacts.{Tells, TellsNone, entry_at, tells, tells_none, at_split, gap_others, each_slot}

-- the lists of a view that are its slots
pub record IsOf (v : Viewing) (slots : List Slot) : Type 0 where
  pub visible : v.visible ≡ seen_in slots
  pub screen : v.screen ≡ screen_in slots
  pub slotted : IsSlotted slots v.asked

versions : (o : Option OnScreen) (key : Place) → option_map (λ (e : Entry). e.version) (option_map (entry_at key) o) ≡ option_map (λ shown. shown.version) o
versions None key = refl
versions (Some shown) key = refl

lacking : (o : Option OnScreen) (key : Place) → is_lacking (option_map (entry_at key) o) ≡ lacks o
lacking None key = refl
lacking (Some shown) key = refl

pub tells_version : (v : Viewing) (slots : List Slot) (key : Place) (slot : Slot) → IsOf v slots → Tells slots v.asked key slot → version_on v key ≡ option_map (λ shown. shown.version) slot.shown
tells_version v slots key slot o t = rw (o.screen, t.screen) (versions slot.shown slot.key)

pub tells_asked : (v : Viewing) (slots : List Slot) (key : Place) (slot : Slot) → IsOf v slots → Tells slots v.asked key slot → is_among v.asked key ≡ slot.asked
tells_asked v slots key slot o t = t.asking

pub tells_wants : (v : Viewing) (slots : List Slot) (key : Place) (slot : Slot) → IsOf v slots → Tells slots v.asked key slot → wants v key ≡ true
tells_wants v slots key slot o t = rw (o.visible, t.seen, t.asking) t.needed

pub tells_due : (v : Viewing) (slots : List Slot) (key : Place) (slot : Slot) → IsOf v slots → Tells slots v.asked key slot → is_due v key ≡ slot_due slot
tells_due v slots key slot o t = rw (o.visible, o.screen, t.seen, t.screen, t.asking, lacking slot.shown slot.key) refl

-- of a key without a slot
pub record IsNone (v : Viewing) (key : Place) : Type 0 where
  pub version : version_on v key ≡ None
  pub asked : is_among v.asked key ≡ false
  pub wants : wants v key ≡ false
  pub due : is_due v key ≡ false

pub none_of : (v : Viewing) (slots : List Slot) (key : Place) → IsOf v slots → TellsNone slots v.asked key → IsNone v key
none_of v slots key o t = record {
  version = rw (o.screen, t.screen) refl;
  asked = t.asking;
  wants = rw (o.visible, t.seen, t.asking) refl;
  due = rw (o.visible, t.seen, t.asking) refl;
}

-- at an index, and in a gap
pub at_tells : (v : Viewing) (slots now : List Slot) (key : Place) (i : ℕ) (slot : Slot) → IsOf v slots → now ≡ slots → IsAt now key i → slot ≡ get_or slots i slot → Tells slots v.asked key slot
at_tells v slots now key i slot o same at e =
    let here : IsAt slots key i = subst (λ (x : List Slot). IsAt x key i) same at in
    tells slots v.asked key (take i slots) slot (drop (suc i) slots) o.slotted (at_split slots key i slot o.slotted.order here e)

pub gap_none : (v : Viewing) (slots now : List Slot) (key : Place) (i : ℕ) → IsOf v slots → now ≡ slots → IsGap now key i → IsNone v key
gap_none v slots now key i o same gap =
    none_of v slots key o (tells_none slots v.asked key o.slotted (gap_others slots key i (subst (λ (x : List Slot). IsGap x key i) same gap)))

some_at : {X : Type 0} (xs : List X) (i : ℕ) → i < length xs → (x : X) × (x ≡ get_or xs i x)
some_at [] i h = absurd (omega arith)
some_at (x ∷ xs) zero h = (x, refl)
some_at (x ∷ xs) (suc i) h = some_at xs i (omega arith)

-- a key with a slot is wanted
pub at_wanted : (v : Viewing) (slots now : List Slot) (key : Place) (i : ℕ) → IsOf v slots → now ≡ slots → IsAt now key i → wants v key ≡ true
at_wanted v slots now key i o same at =
    let within : i < length slots = subst (λ (x : List Slot). i < length x) same at.within in
    let one = some_at slots i within in
    tells_wants v slots key one.0 o (at_tells v slots now key i one.0 o same at one.1)

-- each key of a slot is due exactly where its slot says so
pub all_due : (v : Viewing) (slots : List Slot) → IsOf v slots → AllByRecursion (λ slot. is_due v slot.key ≡ slot_due slot) slots
all_due v slots o = each_slot (λ slot. is_due v slot.key ≡ slot_due slot) slots v.asked o.slotted (λ slot t. tells_due v slots slot.key slot o t)

module _ (t : Place → Bool) (p : Slot → Bool) where
  -- a test of keys that is a test of slots
  pub find_keys : (slots : List Slot) → AllByRecursion (λ slot. t slot.key ≡ p slot) slots → find t (keys_in slots) ≡ option_map (λ slot. slot.key) (find p slots)
  find_keys [] a = refl
  find_keys (slot ∷ slots) a =
      let go : (b : Bool) → cond b (Some slot.key) (find t (keys_in slots)) ≡ option_map (λ (s : Slot). s.key) (cond b (Some slot) (find p slots)) = elim [
        | true ↦ refl
        | false ↦ find_keys slots a.1
      ] in
      rw a.0 (go (p slot))

  pub filter_keys : (slots : List Slot) → AllByRecursion (λ slot. t slot.key ≡ p slot) slots → filter t (keys_in slots) ≡ keys_in (filter p slots)
  filter_keys [] a = refl
  filter_keys (slot ∷ slots) a =
      let go : (b : Bool) → cond b (slot.key ∷ filter t (keys_in slots)) (filter t (keys_in slots)) ≡ keys_in (cond b (slot ∷ filter p slots) (filter p slots)) = elim [
        | true ↦ ap (λ ks. slot.key ∷ ks) (filter_keys slots a.1)
        | false ↦ filter_keys slots a.1
      ] in
      rw a.0 (go (p slot))

  pub any_seen : (slots : List Slot) → AllByRecursion (λ slot. t slot.key ≡ p slot) slots → list_any t (seen_in slots) ≡ list_any (λ slot. slot.visible && p slot) slots
  any_seen [] a = refl
  any_seen (slot ∷ slots) a =
      elim slot.visible as (λ b. list_any t (cond b (slot.key ∷ seen_in slots) (seen_in slots)) ≡ ((b && p slot) || list_any (λ s. s.visible && p s) slots)) [
        | true ↦ rw (a.0, any_seen slots a.1) refl
        | false ↦ any_seen slots a.1
      ]
