-- What stays where a view asks only for what it sees.
use Rattle.std.proofs.Common.{◌≡◌, ℕ, Bool, true, false, ◌&&◌, ◌||◌, cond, List, [], ◌∷◌, filter, get_or, Option, Some, None, refl, ap, sym, subst, ◌∙◌}
use Rattle.std.specs.List.{AllByRecursion}
use Rattle.tile_key.specs.Places.{Place, same_place}
use Rattle.document_machine.specs.Keys.{is_among, Pairwise}
use Rattle.view_session.specs.Viewing.{Entry}
use Rattle.view_session.specs.Slots.{keys_in, seen_in, screen_in, with_shown, IsSlotted}
use Rattle.view_session.specs.Moves.{IsAt, IsGap}
use Rattle.view_session.specs.declared.slots.OnScreen.{OnScreen}
use Rattle.view_session.specs.declared.slots.Slot.{Slot}
use Rattle.view_session.proofs.ListFacts.{all_kept, pairs_keep}
use Rattle.view_session.proofs.OrderFacts.{same_is}
use Rattle.view_session.proofs.FindFacts.{Comes}
use Rattle.view_session.proofs.SlotFacts.{entry_at, seen_of_split, seen_of_others, at_split, gap_others, each_slot}

-- a search for what is seen, by the key's slot
pub seen_at : (slots : List Slot) (key : Place) (i : ℕ) (slot : Slot) → Pairwise Comes slots → IsAt slots key i → slot ≡ get_or slots i slot → slot.visible ≡ is_among (seen_in slots) key
seen_at slots key i slot order at e = sym (seen_of_split slots key _ slot _ (at_split slots key i slot order at e))

pub seen_gap : (slots : List Slot) (key : Place) (i : ℕ) → IsGap slots key i → false ≡ is_among (seen_in slots) key
seen_gap slots key i gap = sym (seen_of_others slots key (gap_others slots key i gap))

all_of : {X : Type 0} (P : X → Type 0) (xs : List X) → ((x : X) → P x) → AllByRecursion P xs
all_of P [] f = tt
all_of P (x ∷ xs) f = (f x, all_of P xs f)

and_true : (b : Bool) → (b && true) ≡ b
and_true true = refl
and_true false = refl

and_false : (b : Bool) → (b && false) ≡ false
and_false true = refl
and_false false = refl

-- of the keys that a test of keys keeps
among_kept : (p : Place → Bool) (keys : List Place) (q : Place) → is_among (filter p keys) q ≡ (is_among keys q && p q)
among_kept p [] q = refl
among_kept p (k ∷ keys) q =
    let go : (a b : Bool) → p k ≡ a → same_place k q ≡ b → is_among (cond a (k ∷ filter p keys) (filter p keys)) q ≡ ((b || is_among keys q) && p q) = elim [
      | true ↦ elim [
        | true ↦ λ pass same. let passed : p q ≡ true = subst (λ (r : Place). p r ≡ true) (same_is k q same) pass in rw (same, passed) refl
        | false ↦ λ pass other. rw other (among_kept p keys q)
      ]
      | false ↦ elim [
        | true ↦ λ fails same. let failed : p q ≡ false = subst (λ (r : Place). p r ≡ false) (same_is k q same) fails in among_kept p keys q ∙ rw failed (and_false (is_among keys q))
        | false ↦ λ fails other. among_kept p keys q
      ]
    ] in
    go (p k) (same_place k q) refl refl ∙ refl

seen_filter : (slots : List Slot) → seen_in (filter (λ slot. slot.visible) slots) ≡ seen_in slots
seen_filter [] = refl
seen_filter (slot ∷ slots) =
    let go : (b : Bool) → slot.visible ≡ b → seen_in (cond b (slot ∷ filter (λ s. s.visible) slots) (filter (λ s. s.visible) slots)) ≡ cond b (slot.key ∷ seen_in slots) (seen_in slots) = elim [
      | true ↦ λ e. rw e (ap (λ ks. slot.key ∷ ks) (seen_filter slots))
      | false ↦ λ e. seen_filter slots
    ] in
    go slot.visible refl

keys_filter : (slots : List Slot) → keys_in (filter (λ slot. slot.visible) slots) ≡ seen_in slots
keys_filter [] = refl
keys_filter (slot ∷ slots) =
    elim slot.visible as (λ b. keys_in (cond b (slot ∷ filter (λ s. s.visible) slots) (filter (λ s. s.visible) slots)) ≡ cond b (slot.key ∷ seen_in slots) (seen_in slots)) [
      | true ↦ ap (λ ks. slot.key ∷ ks) (keys_filter slots)
      | false ↦ keys_filter slots
    ]

-- the screen of the slots that a test keeps
screen_filter : (t : Place → Bool) (p : Slot → Bool) (slots : List Slot) → AllByRecursion (λ slot. t slot.key ≡ p slot) slots → screen_in (filter p slots) ≡ filter (λ entry. t entry.key) (screen_in slots)
screen_filter t p [] a = refl
screen_filter t p (slot ∷ slots) a =
    let rest : screen_in (filter p slots) ≡ filter (λ (e : Entry). t e.key) (screen_in slots) = screen_filter t p slots a.1 in
    let go : (b : Bool) (o : Option OnScreen) → t slot.key ≡ b → slot.shown ≡ o → screen_in (cond b (slot ∷ filter p slots) (filter p slots)) ≡ filter (λ (e : Entry). t e.key) (with_shown slot.key o (screen_in slots)) = elim [
      | true ↦ elim [
        | None ↦ λ pass none. rw none rest
        | Some shown ↦ λ pass some. rw (some, pass) (ap (λ es. entry_at slot.key shown ∷ es) rest)
      ]
      | false ↦ elim [
        | None ↦ λ fails none. rest
        | Some shown ↦ λ fails some. rw fails rest
      ]
    ] in
    subst (λ (b : Bool). screen_in (cond b (slot ∷ filter p slots) (filter p slots)) ≡ filter (λ (e : Entry). t e.key) (screen_in (slot ∷ slots))) a.0 (go (t slot.key) slot.shown refl refl)

-- what cancelling leaves
pub record IsCancelled (slots new : List Slot) (asked kept : List Place) : Type 0 where
  pub slotted : IsSlotted new kept
  pub kept_are : kept ≡ filter (is_among (seen_in slots)) asked
  pub seen : seen_in new ≡ seen_in slots
  pub screen : screen_in new ≡ filter (λ entry. is_among (seen_in slots) entry.key || is_among kept entry.key) (screen_in slots)

or_and : (a b : Bool) → (b || (a && b)) ≡ b
or_and true true = refl
or_and true false = refl
or_and false true = refl
or_and false false = refl

only_seen : (slots : List Slot) (asked : List Place) → IsSlotted slots asked → IsCancelled slots (filter (λ slot. slot.visible) slots) asked (filter (is_among (seen_in slots)) asked)
only_seen slots asked k = record {
  slotted = record {
    order = pairs_keep Comes (λ slot. slot.visible) slots k.order;
    needed = all_kept (λ slot. (slot.visible || slot.asked) ≡ true) (λ slot. slot.visible) slots (all_of (λ slot. slot.visible ≡ true → (slot.visible || slot.asked) ≡ true) slots (λ slot seen. rw seen refl));
    marks = all_kept (λ slot. slot.asked ≡ is_among (filter (is_among (seen_in slots)) asked) slot.key) (λ slot. slot.visible) slots
        (each_slot (λ slot. slot.visible ≡ true → slot.asked ≡ is_among (filter (is_among (seen_in slots)) asked) slot.key) slots asked k
        (λ slot t seen. sym (among_kept (is_among (seen_in slots)) asked slot.key ∙ rw (t.seen ∙ seen, t.asking) (and_true slot.asked))));
    held = all_kept (λ key. is_among (keys_in (filter (λ slot. slot.visible) slots)) key ≡ true) (is_among (seen_in slots)) asked
        (all_of (λ key. is_among (seen_in slots) key ≡ true → is_among (keys_in (filter (λ slot. slot.visible) slots)) key ≡ true) asked (λ key there. rw (keys_filter slots) there));
  };
  kept_are = refl;
  seen = seen_filter slots;
  screen = screen_filter (λ key. is_among (seen_in slots) key || is_among (filter (is_among (seen_in slots)) asked) key) (λ slot. slot.visible) slots
      (each_slot (λ slot. (is_among (seen_in slots) slot.key || is_among (filter (is_among (seen_in slots)) asked) slot.key) ≡ slot.visible) slots asked k
      (λ slot t. ap (λ b. is_among (seen_in slots) slot.key || b) (among_kept (is_among (seen_in slots)) asked slot.key) ∙ or_and (is_among asked slot.key) (is_among (seen_in slots) slot.key) ∙ t.seen));
}

pub cancelled_by : (slots now new : List Slot) (asked kept : List Place) → IsSlotted slots asked → new ≡ filter (λ slot. slot.visible) slots → now ≡ new → kept ≡ filter (is_among (seen_in now)) asked → IsCancelled slots new asked kept
cancelled_by slots now new asked kept k is same kept_is =
    let seen : seen_in now ≡ seen_in slots = ap seen_in (same ∙ is) ∙ seen_filter slots in
    let e : kept ≡ filter (is_among (seen_in slots)) asked = kept_is ∙ ap (λ (ks : List Place). filter (is_among ks) asked) seen in
    subst (λ (x : List Slot). IsCancelled slots x asked kept) (sym is)
    (subst (λ (x : List Place). IsCancelled slots (filter (λ slot. slot.visible) slots) asked x) (sym e) (only_seen slots asked k))

pub order_kept : (slots now new : List Slot) → Pairwise Comes slots → new ≡ filter (λ slot. slot.visible) slots → now ≡ new → Pairwise Comes now
order_kept slots now new p is same = rw (same ∙ is) (pairs_keep Comes (λ slot. slot.visible) slots p)
