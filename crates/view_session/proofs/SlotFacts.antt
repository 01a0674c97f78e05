-- What a list of slots says of a key, by the key's own slot.
use Rattle.std.proofs.Common.{◌≡◌, ℕ, zero, suc, ◌<◌, Bool, true, false, ◌||◌, cond, List, [], ◌∷◌, ◌++◌, length, take, drop, get_or, Some, None, refl, ap, sym, subst, ◌∙◌, arith, inl, inr}
use Rattle.std.specs.Prelude.{◌⊎◌, option_map}
use Rattle.std.specs.List.{AllByRecursion}
use Rattle.std.proofs.lemmas.List.{take-append-drop}
use Rattle.tile_key.specs.Places.{Place, same_place}
use Rattle.tile_key.specs.Visible.{IsBefore}
use Rattle.document_machine.specs.Keys.{is_among, Pairwise}
use Rattle.document_machine.proofs.Lists.{same_self, holds_among}
use Rattle.view_session.specs.Viewing.{Entry, entry_of}
use Rattle.view_session.specs.Slots.{keys_in, seen_in, with_shown, screen_in, IsSlotted}
use Rattle.view_session.specs.Moves.{IsAt, IsGap}
use Rattle.view_session.specs.declared.slots.OnScreen.{OnScreen}
use Rattle.view_session.specs.declared.slots.Slot.{Slot}
use Rattle.view_session.proofs.ListFacts.{all_join, all_from, all_mid, all_places, pairs_before, pairs_after}
use Rattle.view_session.proofs.OrderFacts.{apart, apart_back, same_is}
use Rattle.view_session.proofs.FindFacts.{Comes}

-- none of the slots is the key's
abbrev pub Others : Place → List Slot → Type 0
Others key slots = AllByRecursion (λ slot. same_place slot.key key ≡ false) slots

-- the slots are these before the key's slot, that one, and these behind it
pub record IsSplit (slots : List Slot) (key : Place) (front : List Slot) (slot : Slot) (back : List Slot) : Type 0 where
  pub is : slots ≡ front ++ slot ∷ back
  pub here : slot.key ≡ key
  pub before : AllByRecursion (λ other. IsBefore other.key key) front
  pub after : AllByRecursion (λ other. IsBefore key other.key) back

pub others_before : (key : Place) (slots : List Slot) → AllByRecursion (λ other. IsBefore other.key key) slots → Others key slots
others_before key slots a = all_from (λ other. IsBefore other.key key) (λ other. same_place other.key key ≡ false) slots (λ other h. apart other.key key h) a

pub others_after : (key : Place) (slots : List Slot) → AllByRecursion (λ other. IsBefore key other.key) slots → Others key slots
others_after key slots a = all_from (λ other. IsBefore key other.key) (λ other. same_place other.key key ≡ false) slots (λ other h. apart_back key other.key h) a

-- slots in order around one of them
pub split_around : (front : List Slot) (slot : Slot) (back : List Slot) (slots : List Slot) → Pairwise Comes slots → slots ≡ front ++ slot ∷ back → IsSplit slots slot.key front slot back
split_around front slot back slots order e =
    let o : Pairwise Comes (front ++ slot ∷ back) = subst (λ (s : List Slot). Pairwise Comes s) e order in
    record { is = e; here = refl; before = pairs_before Comes front slot back o; after = pairs_after Comes front slot back o }

split_key : (slots : List Slot) (key other : Place) (front : List Slot) (slot : Slot) (back : List Slot) → other ≡ key → IsSplit slots other front slot back → IsSplit slots key front slot back
split_key slots key other front slot back e s = subst (λ (k : Place). IsSplit slots k front slot back) e s

pub cut_at : (slots : List Slot) (i : ℕ) (slot : Slot) → i < length slots → slot ≡ get_or slots i slot → slots ≡ take i slots ++ slot ∷ drop (suc i) slots
cut_at [] i slot h e = absurd (omega arith)
cut_at (s ∷ slots) zero slot h e = ap (λ t. t ∷ slots) (sym e)
cut_at (s ∷ slots) (suc i) slot h e = ap (λ ss. s ∷ ss) (cut_at slots i slot (omega arith) e)

-- the key's slot is at an index
pub at_split : (slots : List Slot) (key : Place) (i : ℕ) (slot : Slot) → Pairwise Comes slots → IsAt slots key i → slot ≡ get_or slots i slot → IsSplit slots key (take i slots) slot (drop (suc i) slots)
at_split slots key i slot order at e =
    let here : slot.key ≡ key = ap (λ (s : Slot). s.key) e ∙ at.here slot in
    split_key slots key slot.key (take i slots) slot (drop (suc i) slots) here (split_around (take i slots) slot (drop (suc i) slots) slots order (cut_at slots i slot at.within e))

-- a gap has the key's slot on neither side
pub gap_others : (slots : List Slot) (key : Place) (i : ℕ) → IsGap slots key i → Others key slots
gap_others slots key i gap =
    subst (λ (s : List Slot). Others key s) (take-append-drop i slots)
    (all_join (λ slot. same_place slot.key key ≡ false) (take i slots) (drop i slots) (others_before key (take i slots) gap.before) (others_after key (drop i slots) gap.after))

module _ (key : Place) (rest : List Slot) where
  -- slots of other keys don't count
  pub keys_skip : (slots : List Slot) → Others key slots → is_among (keys_in (slots ++ rest)) key ≡ is_among (keys_in rest) key
  keys_skip [] a = refl
  keys_skip (slot ∷ slots) a = rw a.0 (keys_skip slots a.1)

  pub seen_skip : (slots : List Slot) → Others key slots → is_among (seen_in (slots ++ rest)) key ≡ is_among (seen_in rest) key
  seen_skip [] a = refl
  seen_skip (slot ∷ slots) a =
      elim slot.visible as (λ b. is_among (cond b (slot.key ∷ seen_in (slots ++ rest)) (seen_in (slots ++ rest))) key ≡ is_among (seen_in rest) key) [
        | true ↦ rw a.0 (seen_skip slots a.1)
        | false ↦ seen_skip slots a.1
      ]

  pub screen_skip : (slots : List Slot) → Others key slots → entry_of (screen_in (slots ++ rest)) key ≡ entry_of (screen_in rest) key
  screen_skip [] a = refl
  screen_skip (slot ∷ slots) a =
      elim slot.shown as (λ o. entry_of (with_shown slot.key o (screen_in (slots ++ rest))) key ≡ entry_of (screen_in rest) key) [
        | None ↦ screen_skip slots a.1
        | Some shown ↦ rw a.0 (screen_skip slots a.1)
      ]

module _ (key : Place) where
  keys_none : (slots : List Slot) → Others key slots → is_among (keys_in slots) key ≡ false
  keys_none [] a = refl
  keys_none (slot ∷ slots) a = rw a.0 (keys_none slots a.1)

  seen_none : (slots : List Slot) → Others key slots → is_among (seen_in slots) key ≡ false
  seen_none [] a = refl
  seen_none (slot ∷ slots) a =
      elim slot.visible as (λ b. is_among (cond b (slot.key ∷ seen_in slots) (seen_in slots)) key ≡ false) [
        | true ↦ rw a.0 (seen_none slots a.1)
        | false ↦ seen_none slots a.1
      ]

  screen_none : (slots : List Slot) → Others key slots → entry_of (screen_in slots) key ≡ None
  screen_none [] a = refl
  screen_none (slot ∷ slots) a =
      elim slot.shown as (λ o. entry_of (with_shown slot.key o (screen_in slots)) key ≡ None) [
        | None ↦ screen_none slots a.1
        | Some shown ↦ rw a.0 (screen_none slots a.1)
      ]

-- the entry of what is shown of a key
abbrev pub entry_at : Place → OnScreen → Entry
entry_at key shown = record { key = key; version = shown.version; stale = shown.stale }

-- what holds of the keys of slots holds of those on the screen
pub all_shown : (P : Place → Type 0) (slots : List Slot) → AllByRecursion (λ slot. P slot.key) slots → AllByRecursion (λ entry. P entry.key) (screen_in slots)
all_shown P [] a = tt
all_shown P (slot ∷ slots) a =
    elim slot.shown as (λ o. AllByRecursion (λ entry. P entry.key) (with_shown slot.key o (screen_in slots))) [
      | None ↦ all_shown P slots a.1
      | Some shown ↦ (a.0, all_shown P slots a.1)
    ]

-- what the lists say of the key of a slot
pub record Tells (slots : List Slot) (asked : List Place) (key : Place) (slot : Slot) : Type 0 where
  pub keys : is_among (keys_in slots) key ≡ true
  pub seen : is_among (seen_in slots) key ≡ slot.visible
  pub screen : entry_of (screen_in slots) key ≡ option_map (entry_at slot.key) slot.shown
  pub asking : is_among asked key ≡ slot.asked
  pub needed : (slot.visible || slot.asked) ≡ true

-- what they say of a key without a slot
pub record TellsNone (slots : List Slot) (asked : List Place) (key : Place) : Type 0 where
  pub keys : is_among (keys_in slots) key ≡ false
  pub seen : is_among (seen_in slots) key ≡ false
  pub screen : entry_of (screen_in slots) key ≡ None
  pub asking : is_among asked key ≡ false

keys_here : (slot : Slot) (back : List Slot) → is_among (keys_in (slot ∷ back)) slot.key ≡ true
keys_here slot back = rw (same_self slot.key) refl

seen_here : (slot : Slot) (back : List Slot) → Others slot.key back → is_among (seen_in (slot ∷ back)) slot.key ≡ slot.visible
seen_here slot back a =
    elim slot.visible as (λ b. is_among (cond b (slot.key ∷ seen_in back) (seen_in back)) slot.key ≡ b) [
      | true ↦ rw (same_self slot.key) refl
      | false ↦ seen_none slot.key back a
    ]

screen_here : (slot : Slot) (back : List Slot) → Others slot.key back → entry_of (screen_in (slot ∷ back)) slot.key ≡ option_map (entry_at slot.key) slot.shown
screen_here slot back a =
    elim slot.shown as (λ o. entry_of (with_shown slot.key o (screen_in back)) slot.key ≡ option_map (entry_at slot.key) o) [
      | None ↦ screen_none slot.key back a
      | Some shown ↦ rw (same_self slot.key) refl
    ]

seen_split_front : (front : List Slot) (slot : Slot) (back slots : List Slot) → IsSplit slots slot.key front slot back → is_among (seen_in slots) slot.key ≡ slot.visible
seen_split_front front slot back slots s =
    rw s.is (seen_skip slot.key (slot ∷ back) front (others_before slot.key front s.before) ∙ seen_here slot back (others_after slot.key back s.after))

-- whether the key of a slot is seen
pub seen_of_split : (slots : List Slot) (key : Place) (front : List Slot) (slot : Slot) (back : List Slot) → IsSplit slots key front slot back → is_among (seen_in slots) key ≡ slot.visible
seen_of_split slots key front slot back s =
    let mine : IsSplit slots slot.key front slot back = subst (λ (p : Place). IsSplit slots p front slot back) (sym s.here) s in
    subst (λ (p : Place). is_among (seen_in slots) p ≡ slot.visible) s.here (seen_split_front front slot back slots mine)

pub seen_of_others : (slots : List Slot) (key : Place) → Others key slots → is_among (seen_in slots) key ≡ false
seen_of_others slots key off = seen_none key slots off

tells_front : (front : List Slot) (slot : Slot) (back : List Slot) (slots : List Slot) (asked : List Place) → IsSlotted slots asked → IsSplit slots slot.key front slot back → Tells slots asked slot.key slot
tells_front front slot back slots asked k s =
    let front_off : Others slot.key front = others_before slot.key front s.before in
    let back_off : Others slot.key back = others_after slot.key back s.after in
    record {
      keys = rw s.is (keys_skip slot.key (slot ∷ back) front front_off ∙ keys_here slot back);
      seen = rw s.is (seen_skip slot.key (slot ∷ back) front front_off ∙ seen_here slot back back_off);
      screen = rw s.is (screen_skip slot.key (slot ∷ back) front front_off ∙ screen_here slot back back_off);
      asking = sym (all_mid (λ other. other.asked ≡ is_among asked other.key) front slot back (subst (λ (x : List Slot). AllByRecursion (λ other. other.asked ≡ is_among asked other.key) x) s.is k.marks));
      needed = all_mid (λ other. (other.visible || other.asked) ≡ true) front slot back (subst (λ (x : List Slot). AllByRecursion (λ other. (other.visible || other.asked) ≡ true) x) s.is k.needed);
    }

-- what the slot of a key tells of it
pub tells : (slots : List Slot) (asked : List Place) (key : Place) (front : List Slot) (slot : Slot) (back : List Slot) → IsSlotted slots asked → IsSplit slots key front slot back → Tells slots asked key slot
tells slots asked key front slot back k s =
    let mine : IsSplit slots slot.key front slot back = subst (λ (p : Place). IsSplit slots p front slot back) (sym s.here) s in
    subst (λ (p : Place). Tells slots asked p slot) s.here (tells_front front slot back slots asked k mine)

-- a key that is asked for has a slot
pub tells_none : (slots : List Slot) (asked : List Place) (key : Place) → IsSlotted slots asked → Others key slots → TellsNone slots asked key
tells_none slots asked key k off =
    let none : is_among (keys_in slots) key ≡ false = keys_none key slots off in
    let go : (b : Bool) → is_among asked key ≡ b → b ≡ false = elim [
      | true ↦ λ e. let there : is_among (keys_in slots) key ≡ true = holds_among (λ p. is_among (keys_in slots) p ≡ true) asked key (λ p q same h. subst (λ (r : Place). is_among (keys_in slots) r ≡ true) (same_is p q same) h) k.held e in absurd (cc)
      | false ↦ λ e. refl
    ] in
    record { keys = none; seen = seen_none key slots off; screen = screen_none key slots off; asking = go (is_among asked key) refl }

-- a key has a slot or none
pub record Place_in (slots : List Slot) (key : Place) : Type 0 where
  pub front : List Slot
  pub slot : Slot
  pub back : List Slot
  pub split : IsSplit slots key front slot back

pub where_is : (slots : List Slot) (key : Place) → Pairwise Comes slots → Place_in slots key ⊎ Others key slots
where_is [] key order = inr tt
where_is (s ∷ slots) key order =
    let go : (b : Bool) → same_place s.key key ≡ b → Place_in (s ∷ slots) key ⊎ Others key (s ∷ slots) = elim [
      | true ↦ λ e. inl (record { front = []; slot = s; back = slots; split = split_key (s ∷ slots) key s.key [] s slots (same_is s.key key e) (split_around [] s slots (s ∷ slots) order refl) })
      | false ↦ λ e. elim (where_is slots key order.1) [
        | inl p ↦ inl (record {
          front = s ∷ p.front;
          slot = p.slot;
          back = p.back;
          split = split_key (s ∷ slots) key p.slot.key (s ∷ p.front) p.slot p.back p.split.here (split_around (s ∷ p.front) p.slot p.back (s ∷ slots) order (ap (λ ss. s ∷ ss) p.split.is));
        })
        | inr off ↦ inr (e, off)
      ]
    ] in
    go (same_place s.key key) refl

-- what holds of each slot by what the lists tell of it
pub each_slot : (P : Slot → Type 0) (slots : List Slot) (asked : List Place) → IsSlotted slots asked → ((slot : Slot) → Tells slots asked slot.key slot → P slot) → AllByRecursion P slots
each_slot P slots asked k f =
    all_places P [] slots (λ front slot back e. f slot (tells slots asked slot.key front slot back k (split_around front slot back slots k.order e)))
