-- What a view keeps, from its slots, and what small changes leave of it.
use Rattle.std.proofs.Common.{◌≡◌, ◌≢◌, ℕ, suc, ◌+◌, ◌<◌, ◌≤◌, ◌^◌, Bool, true, false, not, ◌&&◌, ◌||◌, cond, List, [], ◌∷◌, ◌++◌, length, map, filter, find, Some, None, refl, ap, sym, subst, ◌∙◌, nat_eq, arith}
use Rattle.std.specs.Prelude.{option_map}
use Rattle.std.specs.List.{list_any, AllByRecursion}
use Rattle.cool_base.specs.Points.{Rectangle}
use Rattle.tile_key.specs.Places.{Place, Scale, IsKey, is_zoom, same_place}
use Rattle.tile_key.specs.Visible.{IsBefore}
use Rattle.document_machine.specs.Due.{asked_after}
use Rattle.document_machine.specs.Keys.{is_among, Pairwise}
use Rattle.document_machine.specs.declared.limits.TheConstants.{MOST_ASKED}
use Rattle.send_window.specs.Tiles.{Sent}
use Rattle.send_window.specs.declared.windows.TheConstants.{MOST_SENT}
use Rattle.document_machine.specs.declared.rights.Rights.{Rights}
use Rattle.send_window.proofs.Closing.{filter_le}
use Rattle.view_session.specs.Viewing.{Entry, Viewing, wants, is_due, hit, damaged, keys, uncurrent, cancels, sent, screen_after}
use Rattle.view_session.specs.Keeps.{IsViewing}
use Rattle.view_session.specs.Slots.{keys_in, seen_in, with_shown, screen_in, slot_due, IsSlotted}
use Rattle.view_session.specs.Moves.{hit_shown, hit_slot}
use Rattle.view_session.specs.Held.{IsHeld}
use Rattle.view_session.specs.declared.slots.Slot.{Slot}
use Rattle.view_session.proofs.ListFacts.{all_keep, all_join, all_from, pairs_keep, pairs_push}
use Rattle.view_session.proofs.FindFacts.{Comes}
use Rattle.view_session.proofs.SlotFacts.{all_shown, entry_at, each_slot}
use Rattle.view_session.proofs.DueFacts.{IsOf, tells_wants, all_due, find_keys, filter_keys, any_seen}
use Rattle.view_session.proofs.KeysFacts.{rising_seen, keys_are}

pub screen_order : (slots : List Slot) → Pairwise Comes slots → Pairwise (λ p q. IsBefore p.key q.key) (screen_in slots)
screen_order [] p = tt
screen_order (slot ∷ slots) p =
    elim slot.shown as (λ o. Pairwise (λ p q. IsBefore p.key q.key) (with_shown slot.key o (screen_in slots))) [
      | None ↦ screen_order slots p.1
      | Some shown ↦ (all_shown (IsBefore slot.key) slots p.0, screen_order slots p.1)
    ]

few_kept : {X : Type 0} (p : X → Bool) (xs : List X) (n : ℕ) → length xs ≤ n → length (filter p xs) ≤ n
few_kept p xs n le = let less : length (filter p xs) ≤ length xs = filter_le p xs in omega arith

-- what every view keeps
pub viewing_by : (v : Viewing) (slots : List Slot) → IsOf v slots → IsHeld v.zoom slots v.asked v.window v.next_wid → is_zoom v.zoom ≡ true → length v.window ≤ MOST_SENT → v.next_wid < 2 ^ 64 → IsViewing v
viewing_by v slots o h zoom few numbers = record {
  zoom = zoom;
  visible = rw o.visible (rising_seen slots h.slotted.order);
  seen = rw o.visible h.seen;
  keys = rw o.visible h.seen_keys;
  asked = h.asked_keys;
  asked_once = h.asked_once;
  asked_few = h.asked_few;
  screen = rw o.screen (screen_order slots h.slotted.order);
  wanted = rw o.screen (all_shown (λ key. wants v key ≡ true) slots (each_slot (λ slot. wants v slot.key ≡ true) slots v.asked o.slotted (λ slot t. tells_wants v slots slot.key slot o t)));
  window_few = few;
  wids = h.wids;
  wids_below = h.wids_below;
  numbers = numbers;
}

pub held_processed : (zoom : Scale) (slots : List Slot) (asked : List Place) (old new : List Sent) (next wid : ℕ) → IsHeld zoom slots asked old next → new ≡ filter (λ tile. not (nat_eq tile.wid wid)) old → IsHeld zoom slots asked new next
held_processed zoom slots asked old new next wid h e =
    rw e (record {
      slotted = h.slotted;
      seen = h.seen;
      seen_keys = h.seen_keys;
      asked_keys = h.asked_keys;
      asked_once = h.asked_once;
      asked_few = h.asked_few;
      wids = pairs_keep (λ (a b : Sent). a.wid < b.wid) (λ tile. not (nat_eq tile.wid wid)) old h.wids;
      wids_below = all_keep (λ (tile : Sent). tile.wid < next) (λ tile. not (nat_eq tile.wid wid)) old h.wids_below;
    })

module _ (part : ℕ) (rect : Rectangle) where
  pub seen_hit : (slots : List Slot) → seen_in (map (hit_slot part rect) slots) ≡ seen_in slots
  seen_hit [] = refl
  seen_hit (slot ∷ slots) = ap (λ ks. cond slot.visible (slot.key ∷ ks) ks) (seen_hit slots)

  pub screen_hit : (slots : List Slot) → screen_in (map (hit_slot part rect) slots) ≡ map (hit part rect) (screen_in slots)
  screen_hit [] = refl
  screen_hit (slot ∷ slots) =
      elim slot.shown as (λ o. with_shown slot.key (option_map (hit_shown part rect slot.key) o) (screen_in (map (hit_slot part rect) slots)) ≡ map (hit part rect) (with_shown slot.key o (screen_in slots))) [
        | None ↦ screen_hit slots
        | Some shown ↦ ap (λ es. hit part rect (entry_at slot.key shown) ∷ es) (screen_hit slots)
      ]

  keys_hit : (slots : List Slot) → keys_in (map (hit_slot part rect) slots) ≡ keys_in slots
  keys_hit [] = refl
  keys_hit (slot ∷ slots) = ap (λ ks. slot.key ∷ ks) (keys_hit slots)

  all_hit : (P : Place → Bool → Bool → Type 0) (slots : List Slot) → AllByRecursion (λ slot. P slot.key slot.visible slot.asked) slots → AllByRecursion (λ slot. P slot.key slot.visible slot.asked) (map (hit_slot part rect) slots)
  all_hit P [] a = tt
  all_hit P (slot ∷ slots) a = (a.0, all_hit P slots a.1)

  order_hit : (slots : List Slot) → Pairwise Comes slots → Pairwise Comes (map (hit_slot part rect) slots)
  order_hit [] p = tt
  order_hit (slot ∷ slots) p = (all_hit (λ key visible asked. IsBefore slot.key key) slots p.0, order_hit slots p.1)

  slotted_hit : (slots : List Slot) (asked : List Place) → IsSlotted slots asked → IsSlotted (map (hit_slot part rect) slots) asked
  slotted_hit slots asked k = record {
    order = order_hit slots k.order;
    needed = all_hit (λ key visible asked. (visible || asked) ≡ true) slots k.needed;
    marks = all_hit (λ key visible marked. marked ≡ is_among asked key) slots k.marks;
    held = rw (keys_hit slots) k.held;
  }

  pub held_hit : (zoom : Scale) (old new : List Slot) (asked : List Place) (window : List Sent) (next : ℕ) → IsHeld zoom old asked window next → new ≡ map (hit_slot part rect) old → IsHeld zoom new asked window next
  held_hit zoom old new asked window next h e =
      rw e (record { slotted = slotted_hit old asked h.slotted; seen = rw (seen_hit old) h.seen; seen_keys = rw (seen_hit old) h.seen_keys; asked_keys = h.asked_keys; asked_once = h.asked_once; asked_few = h.asked_few; wids = h.wids; wids_below = h.wids_below })

-- the keys of a view, the due ones, and the first of these
pub keys_of : (v : Viewing) (slots : List Slot) → IsOf v slots → keys v ≡ keys_in slots
keys_of v slots o = rw o.visible (keys_are slots v.asked o.slotted)

pub uncurrent_of : (v : Viewing) (slots : List Slot) → IsOf v slots → uncurrent v ≡ keys_in (filter slot_due slots)
uncurrent_of v slots o = ap (filter (is_due v)) (keys_of v slots o) ∙ filter_keys (is_due v) slot_due slots (all_due v slots o)

pub first_of : (v : Viewing) (slots : List Slot) → IsOf v slots → find (is_due v) (keys v) ≡ option_map (λ slot. slot.key) (find slot_due slots)
first_of v slots o = ap (find (is_due v)) (keys_of v slots o) ∙ find_keys (is_due v) slot_due slots (all_due v slots o)

pub still_of : (v : Viewing) (slots : List Slot) → IsOf v slots → list_any (is_due v) v.visible ≡ list_any (λ slot. slot.visible && slot_due slot) slots
still_of v slots o = ap (list_any (is_due v)) o.visible ∙ any_seen (is_due v) slot_due slots (all_due v slots o)

pub hit_length : (part : ℕ) (rect : Rectangle) (old new : List Slot) → new ≡ map (hit_slot part rect) old → length new ≡ length old
hit_length part rect old new e = ap length e ∙ count old
  where
    count : (slots : List Slot) → length (map (hit_slot part rect) slots) ≡ length slots
    count [] = refl
    count (slot ∷ slots) = ap suc (count slots)

and_true : (b : Bool) → b ≡ (b && true)
and_true true = refl
and_true false = refl

-- the view that its parts are
abbrev pub whole : Rights → ℕ → Scale → Rectangle → List Slot → List Place → List Sent → ℕ → Viewing
whole rights part zoom area slots asked window next = record {
  rights = rights;
  part = part;
  zoom = zoom;
  area = area;
  visible = seen_in slots;
  asked = asked;
  screen = screen_in slots;
  window = window;
  next_wid = next;
}

module _ (rights : Rights) (part : ℕ) (zoom : Scale) (area : Rectangle) (slots : List Slot) (asked : List Place) (window : List Sent) (next : ℕ) (v : Viewing) (is : whole rights part zoom area slots asked window next ≡ v) where
  pub whole_of : IsSlotted slots asked → IsOf v slots
  whole_of k = subst (λ (w : Viewing). IsOf w slots) is (record { visible = refl; screen = refl; slotted = k })

  pub whole_kept : IsHeld zoom slots asked window next → is_zoom zoom ≡ true → length window ≤ MOST_SENT → next < 2 ^ 64 → IsViewing v
  whole_kept h sized few numbers =
      subst IsViewing is
      (viewing_by (whole rights part zoom area slots asked window next) slots (record { visible = refl; screen = refl; slotted = h.slotted }) h sized few numbers)

  pub whole_keys : IsSlotted slots asked → keys v ≡ keys_in slots
  whole_keys k = keys_of v slots (whole_of k)

  pub whole_uncurrent : IsSlotted slots asked → uncurrent v ≡ keys_in (filter slot_due slots)
  whole_uncurrent k = uncurrent_of v slots (whole_of k)

  pub whole_first : IsSlotted slots asked → find (is_due v) (keys v) ≡ option_map (λ slot. slot.key) (find slot_due slots)
  whole_first k = first_of v slots (whole_of k)

  pub whole_still : IsSlotted slots asked → length asked ≡ 0 → not (list_any (λ slot. slot.visible && slot_due slot) slots) ≡ (not (list_any (is_due v) v.visible) && nat_eq (length v.asked) 0)
  whole_still k none =
      let e : list_any (is_due v) v.visible ≡ list_any (λ slot. slot.visible && slot_due slot) slots = still_of v slots (whole_of k) in
      let n : length v.asked ≡ 0 = ap (λ (w : Viewing). length w.asked) (sym is) ∙ none in
      rw (e, n) (and_true (not (list_any (λ (slot : Slot). slot.visible && slot_due slot) slots)))

  pub whole_cancelled : (new : List Slot) (kept : List Place) → seen_in new ≡ seen_in slots → kept ≡ filter (is_among (seen_in slots)) asked → screen_in new ≡ filter (λ entry. is_among (seen_in slots) entry.key || is_among kept entry.key) (screen_in slots) → whole rights part zoom area new kept window next ≡ cancels v
  whole_cancelled new kept seen kept_is screen =
      let old : Viewing = whole rights part zoom area slots asked window next in
      let step : whole rights part zoom area new kept window next ≡ cancels old =
      λ i. record old { visible = seen i; asked = kept_is i; screen = (screen ∙ ap (λ (ks : List Place). filter (λ (entry : Entry). is_among (seen_in slots) entry.key || is_among ks entry.key) (screen_in slots)) kept_is) i } in
      step ∙ ap cancels is

  pub whole_sent : (key : Place) (version : ℕ) (current : Bool) (new : List Slot) (now : List Place) (window_new : List Sent) → seen_in new ≡ seen_in slots → now ≡ asked_after asked key current → screen_in new ≡ screen_after (screen_in slots) key version (not current) (is_among (seen_in slots) key || is_among now key) → window_new ≡ window ++ record { wid = next; key = key } ∷ [] → whole rights part zoom area new now window_new (next + 1) ≡ sent key version current v
  whole_sent key version current new now window_new seen now_is screen window_is =
      let old : Viewing = whole rights part zoom area slots asked window next in
      let step : whole rights part zoom area new now window_new (next + 1) ≡ sent key version current old =
      λ i. record {
        rights = rights;
        part = part;
        zoom = zoom;
        area = area;
        visible = seen i;
        asked = now_is i;
        screen = (screen ∙ ap (λ (ks : List Place). screen_after (screen_in slots) key version (not current) (is_among (seen_in slots) key || is_among ks key)) now_is) i;
        window = window_is i;
        next_wid = next + 1;
      } in
      step ∙ ap (sent key version current) is

  -- a key that is wanted, by the parts
  pub whole_wants : (key : Place) → wants v key ≡ true → (is_among (seen_in slots) key || is_among asked key) ≡ true
  whole_wants key w = ap (λ (x : Viewing). wants x key) is ∙ w

  pub whole_damaged : (p : ℕ) (rect : Rectangle) (new : List Slot) → new ≡ map (hit_slot p rect) slots → whole rights part zoom area new asked window next ≡ damaged p rect v
  whole_damaged p rect new e =
      let old : Viewing = whole rights part zoom area slots asked window next in
      let step : whole rights part zoom area new asked window next ≡ damaged p rect old =
      λ i. record old { visible = (ap seen_in e ∙ seen_hit p rect slots) i; screen = (ap screen_in e ∙ screen_hit p rect slots) i } in
      step ∙ ap (damaged p rect) is

-- what is kept where the slots and the asked keys change
pub held_cancelled : (zoom : Scale) (slots new : List Slot) (asked kept : List Place) (window : List Sent) (next : ℕ) → IsHeld zoom slots asked window next → IsSlotted new kept → seen_in new ≡ seen_in slots → kept ≡ filter (is_among (seen_in slots)) asked → IsHeld zoom new kept window next
held_cancelled zoom slots new asked kept window next h k seen kept_is = record {
  slotted = k;
  seen = rw seen h.seen;
  seen_keys = rw seen h.seen_keys;
  asked_keys = rw kept_is (all_keep IsKey (is_among (seen_in slots)) asked h.asked_keys);
  asked_once = rw kept_is (pairs_keep (λ p q. p ≢ q) (is_among (seen_in slots)) asked h.asked_once);
  asked_few = rw kept_is (few_kept (is_among (seen_in slots)) asked MOST_ASKED h.asked_few);
  wids = h.wids;
  wids_below = h.wids_below;
}

pub held_asked : (zoom : Scale) (slots new : List Slot) (asked now : List Place) (window : List Sent) (next : ℕ) → IsHeld zoom slots asked window next → IsSlotted new now → seen_in new ≡ seen_in slots → AllByRecursion IsKey now → Pairwise (λ p q. p ≢ q) now → length now ≤ MOST_ASKED → IsHeld zoom new now window next
held_asked zoom slots new asked now window next h k seen form once few = record {
  slotted = k;
  seen = rw seen h.seen;
  seen_keys = rw seen h.seen_keys;
  asked_keys = form;
  asked_once = once;
  asked_few = few;
  wids = h.wids;
  wids_below = h.wids_below;
}

asked_rest : (P : List Place → Type 0) (asked : List Place) (key : Place) (ends : Bool) → P asked → P (filter (λ x. not (same_place x key)) asked) → P (asked_after asked key ends)
asked_rest P asked key true a b = b
asked_rest P asked key false a b = a

pub held_sent : (zoom : Scale) (slots new : List Slot) (asked now : List Place) (window window_new : List Sent) (next : ℕ) (key : Place) (ends : Bool) → IsHeld zoom slots asked window next → IsSlotted new now → seen_in new ≡ seen_in slots → now ≡ asked_after asked key ends → window_new ≡ window ++ record { wid = next; key = key } ∷ [] → IsHeld zoom new now window_new (next + 1)
held_sent zoom slots new asked now window window_new next key ends h k seen now_is window_is = record {
  slotted = k;
  seen = rw seen h.seen;
  seen_keys = rw seen h.seen_keys;
  asked_keys = rw now_is (asked_rest (AllByRecursion IsKey) asked key ends h.asked_keys (all_keep IsKey (λ x. not (same_place x key)) asked h.asked_keys));
  asked_once = rw now_is (asked_rest (Pairwise (λ p q. p ≢ q)) asked key ends h.asked_once (pairs_keep (λ p q. p ≢ q) (λ x. not (same_place x key)) asked h.asked_once));
  asked_few = rw now_is (asked_rest (λ ks. length ks ≤ MOST_ASKED) asked key ends h.asked_few (few_kept (λ x. not (same_place x key)) asked MOST_ASKED h.asked_few));
  wids = rw window_is (pairs_push (λ (a b : Sent). a.wid < b.wid) window (record { wid = next; key = key }) h.wids h.wids_below);
  wids_below = rw window_is (all_join (λ (tile : Sent). tile.wid < next + 1) window (record { wid = next; key = key } ∷ []) (all_from (λ (tile : Sent). tile.wid < next) (λ (tile : Sent). tile.wid < next + 1) window (λ tile lt. omega arith) h.wids_below) (omega arith, tt));
}
