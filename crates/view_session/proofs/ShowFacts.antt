-- What changes in a list of slots where something of a key is on the screen from now on.
use Rattle.std.proofs.Common.{◌≡◌, ℕ, zero, suc, ◌<◌, Bool, true, false, not, ◌&&◌, ◌||◌, cond, List, [], ◌∷◌, ◌++◌, length, take, drop, filter, set, get_or, Option, Some, None, refl, ap, sym, subst, ◌∙◌, arith, inl, inr}
use Rattle.std.specs.List.{AllByRecursion, remove}
use Rattle.std.specs.Ordering.{is_lt}
use Rattle.tile_key.specs.Places.{Place, same_place}
use Rattle.tile_key.specs.Visible.{IsBefore}
use Rattle.document_machine.specs.Due.{asked_after}
use Rattle.document_machine.specs.Keys.{is_among, Pairwise}
use Rattle.document_machine.proofs.Lists.{same_self, taken_out}
use Rattle.view_session.specs.Viewing.{Entry, with_entry, without_entry, screen_after}
use Rattle.view_session.specs.Slots.{keys_in, seen_in, with_shown, screen_in, IsSlotted}
use Rattle.view_session.specs.Moves.{IsAt, IsGap, show_slot, shown_in}
use Rattle.view_session.specs.declared.slots.OnScreen.{OnScreen}
use Rattle.view_session.specs.declared.slots.Slot.{Slot}
use Rattle.view_session.proofs.ListFacts.{all_join, all_left, all_right, all_swap, all_out, all_keep, all_kept, all_both, all_from, pairs_swap, pairs_out}
use Rattle.view_session.proofs.OrderFacts.{same_is, same_swap, not_back, not_self, apart_back}
use Rattle.view_session.proofs.FindFacts.{Comes}
use Rattle.view_session.proofs.SlotFacts.{all_shown, IsSplit, Others, Tells, TellsNone, entry_at, others_before, others_after, at_split, gap_others, tells, tells_none, where_is}

-- a slot with this on the screen
abbrev pub showing : Slot → OnScreen → (ends : Bool) → Slot
showing slot shown ends = record slot { asked = slot.asked && not ends; shown = Some shown }

pub shown_split : (front : List Slot) (slot : Slot) (back : List Slot) (key : Place) (shown : OnScreen) (ends : Bool) → Others key front → slot.key ≡ key → shown_in (front ++ slot ∷ back) key shown ends ≡ front ++ show_slot slot shown ends back
shown_split [] slot back key shown ends off here =
    let one : same_place slot.key key ≡ true = subst (λ (p : Place). same_place slot.key p ≡ true) here (same_self slot.key) in
    rw one refl
shown_split (s ∷ front) slot back key shown ends off here = rw off.0 (ap (λ ss. s ∷ ss) (shown_split front slot back key shown ends off.1 here))

pub shown_none : (slots : List Slot) (key : Place) (shown : OnScreen) (ends : Bool) → Others key slots → shown_in slots key shown ends ≡ slots
shown_none [] key shown ends off = refl
shown_none (s ∷ slots) key shown ends off = rw off.0 (ap (λ ss. s ∷ ss) (shown_none slots key shown ends off.1))

pub set_cut : {X : Type 0} (xs : List X) (i : ℕ) (x : X) → i < length xs → set xs i x ≡ take i xs ++ x ∷ drop (suc i) xs
set_cut [] i x h = absurd (omega arith)
set_cut (y ∷ xs) zero x h = refl
set_cut (y ∷ xs) (suc i) x h = ap (λ ys. y ∷ ys) (set_cut xs i x (omega arith))

shown_at : (slots : List Slot) (key : Place) (i : ℕ) (slot : Slot) (shown : OnScreen) (ends : Bool) → Pairwise Comes slots → IsAt slots key i → slot ≡ get_or slots i slot → shown_in slots key shown ends ≡ take i slots ++ show_slot slot shown ends (drop (suc i) slots)
shown_at slots key i slot shown ends order at e =
    let s : IsSplit slots key (take i slots) slot (drop (suc i) slots) = at_split slots key i slot order at e in
    ap (λ (x : List Slot). shown_in x key shown ends) s.is
    ∙ shown_split (take i slots) slot (drop (suc i) slots) key shown ends (others_before key (take i slots) s.before) s.here

-- the code's two ways: the slot is written, or it goes
pub show_stays : (slots now : List Slot) (key : Place) (i : ℕ) (slot after : Slot) (shown : OnScreen) (ends : Bool) → Pairwise Comes slots → now ≡ slots → IsAt now key i → slot ≡ get_or slots i slot → after ≡ showing slot shown ends → (after.visible || after.asked) ≡ true → set slots i after ≡ shown_in slots key shown ends
show_stays slots now key i slot after shown ends order same at e is needed =
    let here : IsAt slots key i = subst (λ (x : List Slot). IsAt x key i) same at in
    let stays : (slot.visible || (slot.asked && not ends)) ≡ true = subst (λ (s : Slot). (s.visible || s.asked) ≡ true) is needed in
    let kept : show_slot slot shown ends (drop (suc i) slots) ≡ showing slot shown ends ∷ drop (suc i) slots = rw stays refl in
    set_cut slots i after here.within
    ∙ ap (λ (s : Slot). take i slots ++ s ∷ drop (suc i) slots) is
    ∙ ap (λ (x : List Slot). take i slots ++ x) (sym kept)
    ∙ sym (shown_at slots key i slot shown ends order here e)

pub show_goes : (slots now new : List Slot) (key : Place) (i : ℕ) (slot after : Slot) (shown : OnScreen) (ends : Bool) → Pairwise Comes slots → now ≡ slots → IsAt now key i → slot ≡ get_or slots i slot → after ≡ showing slot shown ends → (after.visible || after.asked) ≡ false → new ≡ remove slots i → new ≡ shown_in slots key shown ends
show_goes slots now new key i slot after shown ends order same at e is needed gone =
    let here : IsAt slots key i = subst (λ (x : List Slot). IsAt x key i) same at in
    let goes : (slot.visible || (slot.asked && not ends)) ≡ false = subst (λ (s : Slot). (s.visible || s.asked) ≡ false) is needed in
    let left : show_slot slot shown ends (drop (suc i) slots) ≡ drop (suc i) slots = rw goes refl in
    gone
    ∙ ap (λ (x : List Slot). take i slots ++ x) (sym left)
    ∙ sym (shown_at slots key i slot shown ends order here e)

pub show_none : (slots now : List Slot) (key : Place) (i : ℕ) (shown : OnScreen) (ends : Bool) → now ≡ slots → IsGap now key i → slots ≡ shown_in slots key shown ends
show_none slots now key i shown ends same gap =
    sym (shown_none slots key shown ends (gap_others slots key i (subst (λ (x : List Slot). IsGap x key i) same gap)))

-- ---- what the lists are then

module _ (slot : Slot) (marked : Bool) (o : Option OnScreen) (back : List Slot) where
  -- the slot with other marks
  abbrev pub other : Slot
  other = record slot { asked = marked; shown = o }

  pub keys_mid : (front : List Slot) → keys_in (front ++ record slot { asked = marked; shown = o } ∷ back) ≡ keys_in (front ++ slot ∷ back)
  keys_mid [] = refl
  keys_mid (s ∷ front) = ap (λ ks. s.key ∷ ks) (keys_mid front)

  pub seen_mid : (front : List Slot) → seen_in (front ++ record slot { asked = marked; shown = o } ∷ back) ≡ seen_in (front ++ slot ∷ back)
  seen_mid [] = refl
  seen_mid (s ∷ front) = ap (λ ks. cond s.visible (s.key ∷ ks) ks) (seen_mid front)

-- an entry goes before those that come after it
first_entry : (entries : List Entry) (key : Place) (version : ℕ) (stale : Bool) → AllByRecursion (λ entry. IsBefore key entry.key) entries → with_entry entries key version stale ≡ record { key = key; version = version; stale = stale } ∷ entries
first_entry [] key version stale a = refl
first_entry (e ∷ entries) key version stale a = rw (ap is_lt a.0) refl

-- the screen then has the entry
pub screen_put : (front : List Slot) (slot : Slot) (back : List Slot) (marked : Bool) (shown : OnScreen) → AllByRecursion (λ s. IsBefore s.key slot.key) front → AllByRecursion (λ s. IsBefore slot.key s.key) back
    → screen_in (front ++ record slot { asked = marked; shown = Some shown } ∷ back) ≡ with_entry (screen_in (front ++ slot ∷ back)) slot.key shown.version shown.stale
screen_put [] slot back marked shown before after =
    elim slot.shown as (λ o. entry_at slot.key shown ∷ screen_in back ≡ with_entry (with_shown slot.key o (screen_in back)) slot.key shown.version shown.stale) [
      | None ↦ sym (first_entry (screen_in back) slot.key shown.version shown.stale (all_shown (IsBefore slot.key) back after))
      | Some had ↦ rw (not_self slot.key, same_self slot.key) refl
    ]
screen_put (s ∷ front) slot back marked shown before after =
    let rest : screen_in (front ++ record slot { asked = marked; shown = Some shown } ∷ back) ≡ with_entry (screen_in (front ++ slot ∷ back)) slot.key shown.version shown.stale = screen_put front slot back marked shown before.1 after in
    elim s.shown as (λ o. with_shown s.key o (screen_in (front ++ record slot { asked = marked; shown = Some shown } ∷ back)) ≡ with_entry (with_shown s.key o (screen_in (front ++ slot ∷ back))) slot.key shown.version shown.stale) [
      | None ↦ rest
      | Some had ↦ rw (not_back s.key slot.key before.0, apart_back s.key slot.key before.0) (ap (λ es. entry_at s.key had ∷ es) rest)
    ]

others_stay : (key : Place) (slots : List Slot) → Others key slots → without_entry (screen_in slots) key ≡ screen_in slots
others_stay key [] off = refl
others_stay key (s ∷ slots) off =
    elim s.shown as (λ o. without_entry (with_shown s.key o (screen_in slots)) key ≡ with_shown s.key o (screen_in slots)) [
      | None ↦ others_stay key slots off.1
      | Some had ↦ rw off.0 (ap (λ es. entry_at s.key had ∷ es) (others_stay key slots off.1))
    ]

-- the screen then has no entry of the key
pub screen_out : (front : List Slot) (slot : Slot) (back : List Slot) → Others slot.key front → Others slot.key back → screen_in (front ++ back) ≡ without_entry (screen_in (front ++ slot ∷ back)) slot.key
screen_out [] slot back off behind =
    elim slot.shown as (λ o. screen_in back ≡ without_entry (with_shown slot.key o (screen_in back)) slot.key) [
      | None ↦ sym (others_stay slot.key back behind)
      | Some had ↦ rw (same_self slot.key) (sym (others_stay slot.key back behind))
    ]
screen_out (s ∷ front) slot back off behind =
    let rest : screen_in (front ++ back) ≡ without_entry (screen_in (front ++ slot ∷ back)) slot.key = screen_out front slot back off.1 behind in
    elim s.shown as (λ o. with_shown s.key o (screen_in (front ++ back)) ≡ without_entry (with_shown s.key o (screen_in (front ++ slot ∷ back))) slot.key) [
      | None ↦ rest
      | Some had ↦ rw off.0 (ap (λ es. entry_at s.key had ∷ es) rest)
    ]

seen_out : (front : List Slot) (slot : Slot) (back : List Slot) → slot.visible ≡ false → seen_in (front ++ back) ≡ seen_in (front ++ slot ∷ back)
seen_out [] slot back unseen = rw unseen refl
seen_out (s ∷ front) slot back unseen = ap (λ ks. cond s.visible (s.key ∷ ks) ks) (seen_out front slot back unseen)

keys_out : (front : List Slot) (slot : Slot) (back : List Slot) (key : Place) → same_place slot.key key ≡ false → is_among (keys_in (front ++ slot ∷ back)) key ≡ true → is_among (keys_in (front ++ back)) key ≡ true
keys_out [] slot back key off h = rw off at h
keys_out (s ∷ front) slot back key off h =
    let go : (b : Bool) → (b || is_among (keys_in (front ++ slot ∷ back)) key) ≡ true → (b || is_among (keys_in (front ++ back)) key) ≡ true = elim [
      | true ↦ λ e. refl
      | false ↦ λ e. keys_out front slot back key off e
    ] in
    go (same_place s.key key) h

-- ---- the asked keys without one

other_stays : (asked : List Place) (key other : Place) → same_place other key ≡ false → is_among (filter (λ k. not (same_place k key)) asked) other ≡ is_among asked other
other_stays [] key other off = refl
other_stays (k ∷ asked) key other off =
    let go : (b : Bool) → same_place k key ≡ b → is_among (cond (not b) (k ∷ filter (λ x. not (same_place x key)) asked) (filter (λ x. not (same_place x key)) asked)) other ≡ (same_place k other || is_among asked other) = elim [
      | true ↦ λ e. let differs : same_place k other ≡ false = subst (λ (p : Place). same_place p other ≡ false) (sym (same_is k key e)) (same_swap key other ∙ off) in rw differs (other_stays asked key other off)
      | false ↦ λ e. ap (λ t. same_place k other || t) (other_stays asked key other off)
    ] in
    go (same_place k key) refl

pub marks_stay : (asked : List Place) (key : Place) (slots : List Slot) → Others key slots → AllByRecursion (λ s. s.asked ≡ is_among asked s.key) slots → AllByRecursion (λ s. s.asked ≡ is_among (filter (λ k. not (same_place k key)) asked) s.key) slots
marks_stay asked key slots off marks =
    all_both (λ s. same_place s.key key ≡ false) (λ s. s.asked ≡ is_among asked s.key) (λ s. s.asked ≡ is_among (filter (λ k. not (same_place k key)) asked) s.key) slots
    (λ s o m. m ∙ sym (other_stays asked key s.key o)) off marks

passed_off : (k key : Place) → not (same_place k key) ≡ true → same_place key k ≡ false
passed_off k key h =
    let go : (b : Bool) → same_place k key ≡ b → not b ≡ true → b ≡ false = elim [
      | true ↦ λ e n. absurd (cc)
      | false ↦ λ e n. refl
    ] in
    same_swap key k ∙ go (same_place k key) refl h

and_false : (b : Bool) → (b && false) ≡ false
and_false true = refl
and_false false = refl

and_true : (b : Bool) → (b && true) ≡ b
and_true true = refl
and_true false = refl

-- ---- the slots then

module _ (front : List Slot) (slot : Slot) (back : List Slot) (asked : List Place) (shown : OnScreen) (k : IsSlotted (front ++ slot ∷ back) asked) (before : AllByRecursion (λ s. IsBefore s.key slot.key) front) (after : AllByRecursion (λ s. IsBefore slot.key s.key) back) where
  marks_front : AllByRecursion (λ s. s.asked ≡ is_among asked s.key) front
  marks_front = all_left (λ s. s.asked ≡ is_among asked s.key) front (slot ∷ back) k.marks

  marks_back : AllByRecursion (λ s. s.asked ≡ is_among asked s.key) (slot ∷ back)
  marks_back = all_right (λ s. s.asked ≡ is_among asked s.key) front (slot ∷ back) k.marks

  -- it stays asked for, or not, as it was
  pub slotted_stays : IsSlotted (front ++ record slot { asked = slot.asked; shown = Some shown } ∷ back) asked
  slotted_stays = record {
    order = pairs_swap Comes front slot (record slot { asked = slot.asked; shown = Some shown }) back (λ z h. h) (λ z h. h) k.order;
    needed = all_swap (λ s. (s.visible || s.asked) ≡ true) front slot (record slot { asked = slot.asked; shown = Some shown }) back (λ h. h) k.needed;
    marks = all_swap (λ s. s.asked ≡ is_among asked s.key) front slot (record slot { asked = slot.asked; shown = Some shown }) back (λ h. h) k.marks;
    held = rw (keys_mid slot slot.asked (Some shown) back front) k.held;
  }

  -- the asking ends, and it is seen
  pub slotted_seen : slot.visible ≡ true → IsSlotted (front ++ record slot { asked = false; shown = Some shown } ∷ back) (filter (λ x. not (same_place x slot.key)) asked)
  slotted_seen seen = record {
    order = pairs_swap Comes front slot (record slot { asked = false; shown = Some shown }) back (λ z h. h) (λ z h. h) k.order;
    needed = all_swap (λ s. (s.visible || s.asked) ≡ true) front slot (record slot { asked = false; shown = Some shown }) back (λ h. rw seen refl) k.needed;
    marks = all_join (λ s. s.asked ≡ is_among (filter (λ x. not (same_place x slot.key)) asked) s.key) front (record slot { asked = false; shown = Some shown } ∷ back)
        (marks_stay asked slot.key front (others_before slot.key front before) marks_front)
        (sym (taken_out asked slot.key), marks_stay asked slot.key back (others_after slot.key back after) marks_back.1);
    held = rw (keys_mid slot false (Some shown) back front) (all_keep (λ key. is_among (keys_in (front ++ slot ∷ back)) key ≡ true) (λ x. not (same_place x slot.key)) asked k.held);
  }

  -- the asking ends, and its slot goes
  pub slotted_gone : IsSlotted (front ++ back) (filter (λ x. not (same_place x slot.key)) asked)
  slotted_gone = record {
    order = pairs_out Comes front slot back k.order;
    needed = all_out (λ s. (s.visible || s.asked) ≡ true) front slot back k.needed;
    marks = all_join (λ s. s.asked ≡ is_among (filter (λ x. not (same_place x slot.key)) asked) s.key) front back
        (marks_stay asked slot.key front (others_before slot.key front before) marks_front)
        (marks_stay asked slot.key back (others_after slot.key back after) marks_back.1);
    held = all_kept (λ key. is_among (keys_in (front ++ back)) key ≡ true) (λ x. not (same_place x slot.key)) asked
        (all_from (λ key. is_among (keys_in (front ++ slot ∷ back)) key ≡ true) (λ key. not (same_place key slot.key) ≡ true → is_among (keys_in (front ++ back)) key ≡ true) asked
        (λ key h passed. keys_out front slot back key (passed_off key slot.key passed) h) k.held);
  }

-- what the change says
pub record IsShown (slots new : List Slot) (asked asked_new : List Place) (key : Place) (shown : OnScreen) : Type 0 where
  pub slotted : IsSlotted new asked_new
  pub seen : seen_in new ≡ seen_in slots
  pub screen : screen_in new ≡ screen_after (screen_in slots) key shown.version shown.stale (is_among (seen_in slots) key || is_among asked_new key)

or_cases : (a b : Bool) → (a || b) ≡ false → a ≡ false
or_cases true b h = absurd (cc)
or_cases false b h = refl

or_false : (b : Bool) → (b || false) ≡ b
or_false true = refl
or_false false = refl

module _ (front : List Slot) (slot : Slot) (back : List Slot) (asked : List Place) (shown : OnScreen) (k : IsSlotted (front ++ slot ∷ back) asked) (before : AllByRecursion (λ s. IsBefore s.key slot.key) front) (after : AllByRecursion (λ s. IsBefore slot.key s.key) back) (t : Tells (front ++ slot ∷ back) asked slot.key slot) where
  -- a tile that isn't the present one
  shown_old : IsShown (front ++ slot ∷ back) (front ++ show_slot slot shown false back) asked asked slot.key shown
  shown_old =
      let stays : (slot.visible || (slot.asked && true)) ≡ true = rw (and_true slot.asked) t.needed in
      let e : show_slot slot shown false back ≡ record slot { asked = slot.asked; shown = Some shown } ∷ back = rw stays (ap (λ b. record slot { asked = b; shown = Some shown } ∷ back) (and_true slot.asked)) in
      rw e (record {
        slotted = slotted_stays front slot back asked shown k before after;
        seen = seen_mid slot slot.asked (Some shown) back front;
        screen = rw (t.seen, t.asking, t.needed) (screen_put front slot back slot.asked shown before after);
      })

  -- the present one
  shown_now : IsShown (front ++ slot ∷ back) (front ++ show_slot slot shown true back) asked (filter (λ x. not (same_place x slot.key)) asked) slot.key shown
  shown_now =
      let go : (b : Bool) → slot.visible ≡ b → IsShown (front ++ slot ∷ back) (front ++ cond (b || (slot.asked && false)) (record slot { asked = slot.asked && false; shown = Some shown } ∷ back) back) asked (filter (λ x. not (same_place x slot.key)) asked) slot.key shown = elim [
        | true ↦ λ seen. rw (and_false slot.asked) (record {
          slotted = slotted_seen front slot back asked shown k before after seen;
          seen = seen_mid slot false (Some shown) back front;
          screen = rw (t.seen ∙ seen) (screen_put front slot back false shown before after);
        })
        | false ↦ λ unseen. rw (and_false slot.asked) (record {
          slotted = slotted_gone front slot back asked shown k before after;
          seen = seen_out front slot back unseen;
          screen = rw (t.seen ∙ unseen, taken_out asked slot.key) (screen_out front slot back (others_before slot.key front before) (others_after slot.key back after));
        })
      ] in
      go slot.visible refl

  shown_both : (ends : Bool) → IsShown (front ++ slot ∷ back) (front ++ show_slot slot shown ends back) asked (asked_after asked slot.key ends) slot.key shown
  shown_both true = shown_now
  shown_both false = shown_old

shown_here : (front : List Slot) (slot : Slot) (back slots : List Slot) (asked : List Place) (shown : OnScreen) (ends : Bool) → IsSlotted slots asked → IsSplit slots slot.key front slot back → IsShown slots (shown_in slots slot.key shown ends) asked (asked_after asked slot.key ends) slot.key shown
shown_here front slot back slots asked shown ends k s =
    let mine : IsSlotted (front ++ slot ∷ back) asked = subst (λ (x : List Slot). IsSlotted x asked) s.is k in
    let again : IsSplit (front ++ slot ∷ back) slot.key front slot back = record { is = refl; here = refl; before = s.before; after = s.after } in
    let told : Tells (front ++ slot ∷ back) asked slot.key slot = tells (front ++ slot ∷ back) asked slot.key front slot back mine again in
    let e : shown_in (front ++ slot ∷ back) slot.key shown ends ≡ front ++ show_slot slot shown ends back = shown_split front slot back slot.key shown ends (others_before slot.key front s.before) refl in
    let done : IsShown (front ++ slot ∷ back) (shown_in (front ++ slot ∷ back) slot.key shown ends) asked (asked_after asked slot.key ends) slot.key shown =
    subst (λ (x : List Slot). IsShown (front ++ slot ∷ back) x asked (asked_after asked slot.key ends) slot.key shown) (sym e) (shown_both front slot back asked shown mine s.before s.after told ends) in
    subst (λ (x : List Slot). IsShown x (shown_in x slot.key shown ends) asked (asked_after asked slot.key ends) slot.key shown) (sym s.is) done

at_split_shown : (slots : List Slot) (asked : List Place) (key : Place) (shown : OnScreen) (ends : Bool) (front : List Slot) (slot : Slot) (back : List Slot) → IsSlotted slots asked → IsSplit slots key front slot back → IsShown slots (shown_in slots key shown ends) asked (asked_after asked key ends) key shown
at_split_shown slots asked key shown ends front slot back k s =
    let mine : IsSplit slots slot.key front slot back = subst (λ (p : Place). IsSplit slots p front slot back) (sym s.here) s in
    subst (λ (p : Place). IsShown slots (shown_in slots p shown ends) asked (asked_after asked p ends) p shown) s.here (shown_here front slot back slots asked shown ends k mine)

-- a tile of a key that is wanted is sent
pub shown_by : (slots new : List Slot) (asked asked_new : List Place) (key : Place) (shown : OnScreen) (ends : Bool) → IsSlotted slots asked → (is_among (seen_in slots) key || is_among asked key) ≡ true → new ≡ shown_in slots key shown ends → asked_new ≡ asked_after asked key ends → IsShown slots new asked asked_new key shown
shown_by slots new asked asked_new key shown ends k wanted is is_asked =
    elim (where_is slots key k.order) [
      | inl p ↦ rw (is, is_asked) (at_split_shown slots asked key shown ends p.front p.slot p.back k p.split)
      | inr off ↦ let t : TellsNone slots asked key = tells_none slots asked key k off in let none : (is_among (seen_in slots) key || is_among asked key) ≡ false = rw (t.seen, t.asking) refl in absurd (cc)
    ]
