-- What changes in a list of slots where a key is asked for.
use Rattle.std.proofs.Common.{◌≡◌, ◌≢◌, ℕ, suc, Bool, true, false, ◌||◌, cond, List, [], ◌∷◌, ◌++◌, take, drop, set, get_or, refl, ap, sym, subst, ◌∙◌}
use Rattle.std.specs.List.{AllByRecursion, insert}
use Rattle.std.proofs.lemmas.List.{take-append-drop}
use Rattle.tile_key.specs.Places.{Place, same_place}
use Rattle.tile_key.specs.Visible.{IsBefore}
use Rattle.document_machine.specs.Keys.{is_among, Pairwise}
use Rattle.document_machine.specs.Message.{asked_with, asked_with_all}
use Rattle.document_machine.proofs.Lists.{same_self}
use Rattle.view_session.specs.Slots.{keys_in, seen_in, screen_in, with_shown, IsSlotted}
use Rattle.view_session.specs.Moves.{IsAt, IsGap, IsAsked, asked_slot}
use Rattle.view_session.specs.declared.slots.Slot.{Slot}
use Rattle.view_session.proofs.ListFacts.{all_join, all_left, all_right, all_swap, all_in, all_both, all_from, pairs_swap, pairs_in, pairs_push}
use Rattle.view_session.proofs.OrderFacts.{same_swap}
use Rattle.view_session.proofs.FindFacts.{Comes}
use Rattle.view_session.proofs.SlotFacts.{IsSplit, Others, Tells, TellsNone, others_before, others_after, at_split, gap_others, tells, tells_none}
use Rattle.view_session.proofs.ShowFacts.{keys_mid, seen_mid, set_cut}

among_push : (asked : List Place) (key q : Place) → is_among (asked ++ key ∷ []) q ≡ (is_among asked q || same_place key q)
among_push [] key q =
    let go : (b : Bool) → (b || false) ≡ b = elim [ true ↦ refl | false ↦ refl ] in
    go (same_place key q)
among_push (k ∷ asked) key q =
    let go : (a b c : Bool) → (a || (b || c)) ≡ ((a || b) || c) = elim [ true ↦ λ b c. refl | false ↦ λ b c. refl ] in
    ap (λ t. same_place k q || t) (among_push asked key q) ∙ go (same_place k q) (is_among asked q) (same_place key q)

among_other : (asked : List Place) (key q : Place) → same_place q key ≡ false → is_among (asked ++ key ∷ []) q ≡ is_among asked q
among_other asked key q off =
    let go : (a : Bool) → (a || false) ≡ a = elim [ true ↦ refl | false ↦ refl ] in
    among_push asked key q ∙ rw (same_swap key q ∙ off) (go (is_among asked q))

among_last : (asked : List Place) (key : Place) → is_among (asked ++ key ∷ []) key ≡ true
among_last asked key =
    let go : (a : Bool) → (a || true) ≡ true = elim [ true ↦ refl | false ↦ refl ] in
    among_push asked key key ∙ rw (same_self key) (go (is_among asked key))

marks_push : (asked : List Place) (key : Place) (slots : List Slot) → Others key slots → AllByRecursion (λ s. s.asked ≡ is_among asked s.key) slots → AllByRecursion (λ s. s.asked ≡ is_among (asked ++ key ∷ []) s.key) slots
marks_push asked key slots off marks =
    all_both (λ s. same_place s.key key ≡ false) (λ s. s.asked ≡ is_among asked s.key) (λ s. s.asked ≡ is_among (asked ++ key ∷ []) s.key) slots
    (λ s o m. m ∙ sym (among_other asked key s.key o)) off marks

screen_mark : (slot : Slot) (marked : Bool) (back front : List Slot) → screen_in (front ++ record slot { asked = marked } ∷ back) ≡ screen_in (front ++ slot ∷ back)
screen_mark slot marked back [] = refl
screen_mark slot marked back (s ∷ front) = ap (with_shown s.key s.shown) (screen_mark slot marked back front)

seen_in_gap : (key : Place) (back front : List Slot) → seen_in (front ++ asked_slot key ∷ back) ≡ seen_in (front ++ back)
seen_in_gap key back [] = refl
seen_in_gap key back (s ∷ front) = ap (λ ks. cond s.visible (s.key ∷ ks) ks) (seen_in_gap key back front)

screen_in_gap : (key : Place) (back front : List Slot) → screen_in (front ++ asked_slot key ∷ back) ≡ screen_in (front ++ back)
screen_in_gap key back [] = refl
screen_in_gap key back (s ∷ front) = ap (with_shown s.key s.shown) (screen_in_gap key back front)

keys_more : (key q : Place) (back front : List Slot) → is_among (keys_in (front ++ back)) q ≡ true → is_among (keys_in (front ++ asked_slot key ∷ back)) q ≡ true
keys_more key q back [] h =
    let go : (a : Bool) → (a || true) ≡ true = elim [ true ↦ refl | false ↦ refl ] in
    rw h (go (same_place key q))
keys_more key q back (s ∷ front) h =
    let go : (b : Bool) → (b || is_among (keys_in (front ++ back)) q) ≡ true → (b || is_among (keys_in (front ++ asked_slot key ∷ back)) q) ≡ true = elim [
      | true ↦ λ e. refl
      | false ↦ λ e. keys_more key q back front e
    ] in
    go (same_place s.key q) h

keys_new : (key : Place) (back front : List Slot) → is_among (keys_in (front ++ asked_slot key ∷ back)) key ≡ true
keys_new key back [] = rw (same_self key) refl
keys_new key back (s ∷ front) =
    let go : (a : Bool) → (a || true) ≡ true = elim [ true ↦ refl | false ↦ refl ] in
    rw (keys_new key back front) (go (same_place s.key key))

-- where it is asked for already
pub ask_there : (slots now : List Slot) (asked : List Place) (key : Place) (i : ℕ) (slot : Slot) → IsSlotted slots asked → now ≡ slots → IsAt now key i → slot ≡ get_or slots i slot → slot.asked ≡ true → IsAsked slots asked key slots asked
ask_there slots now asked key i slot k same at e marked =
    let here : IsAt slots key i = subst (λ (x : List Slot). IsAt x key i) same at in
    let t : Tells slots asked key slot = tells slots asked key (take i slots) slot (drop (suc i) slots) k (at_split slots key i slot k.order here e) in
    record { asked_is = rw (t.asking, marked) refl; slotted = k; seen = refl; screen = refl }

mark_here : (front : List Slot) (slot : Slot) (back : List Slot) (asked : List Place) → IsSlotted (front ++ slot ∷ back) asked → AllByRecursion (λ s. IsBefore s.key slot.key) front → AllByRecursion (λ s. IsBefore slot.key s.key) back → is_among asked slot.key ≡ false → is_among (keys_in (front ++ slot ∷ back)) slot.key ≡ true
    → IsAsked (front ++ slot ∷ back) asked slot.key (front ++ record slot { asked = true } ∷ back) (asked ++ slot.key ∷ [])
mark_here front slot back asked k before after fresh there = record {
  asked_is = rw fresh refl;
  slotted = record {
    order = pairs_swap Comes front slot (record slot { asked = true }) back (λ z h. h) (λ z h. h) k.order;
    needed = all_swap (λ s. (s.visible || s.asked) ≡ true) front slot (record slot { asked = true }) back (λ h. or_true slot.visible) k.needed;
    marks = all_join (λ s. s.asked ≡ is_among (asked ++ slot.key ∷ []) s.key) front (record slot { asked = true } ∷ back)
        (marks_push asked slot.key front (others_before slot.key front before) (all_left (λ s. s.asked ≡ is_among asked s.key) front (slot ∷ back) k.marks))
        (sym (among_last asked slot.key), marks_push asked slot.key back (others_after slot.key back after) (all_right (λ s. s.asked ≡ is_among asked s.key) front (slot ∷ back) k.marks).1);
    held = rw (keys_mid slot true slot.shown back front) (all_join (λ key. is_among (keys_in (front ++ slot ∷ back)) key ≡ true) asked (slot.key ∷ []) k.held (there, tt));
  };
  seen = seen_mid slot true slot.shown back front;
  screen = screen_mark slot true back front;
}
  where
    or_true : (b : Bool) → (b || true) ≡ true
    or_true true = refl
    or_true false = refl

-- where it is seen
pub ask_found : (slots now : List Slot) (asked pushed : List Place) (key : Place) (i : ℕ) (slot after : Slot) → IsSlotted slots asked → now ≡ slots → IsAt now key i → slot ≡ get_or slots i slot → slot.asked ≡ false → after ≡ record slot { asked = true } → pushed ≡ asked ++ key ∷ [] → IsAsked slots asked key (set slots i after) pushed
ask_found slots now asked pushed key i slot after k same at e unmarked is pushed_is =
    let at_slots : IsAt slots key i = subst (λ (x : List Slot). IsAt x key i) same at in
    let front : List Slot = take i slots in
    let back : List Slot = drop (suc i) slots in
    let s : IsSplit slots key front slot back = at_split slots key i slot k.order at_slots e in
    let t : Tells slots asked key slot = tells slots asked key front slot back k s in
    let mine : IsSlotted (front ++ slot ∷ back) asked = subst (λ (x : List Slot). IsSlotted x asked) s.is k in
    let before : AllByRecursion (λ o. IsBefore o.key slot.key) front = subst (λ (p : Place). AllByRecursion (λ (o : Slot). IsBefore o.key p) front) (sym s.here) s.before in
    let after_it : AllByRecursion (λ o. IsBefore slot.key o.key) back = subst (λ (p : Place). AllByRecursion (λ (o : Slot). IsBefore p o.key) back) (sym s.here) s.after in
    let fresh : is_among asked slot.key ≡ false = subst (λ (p : Place). is_among asked p ≡ false) (sym s.here) (t.asking ∙ unmarked) in
    let there : is_among (keys_in (front ++ slot ∷ back)) slot.key ≡ true = subst (λ (p : Place). is_among (keys_in (front ++ slot ∷ back)) p ≡ true) (sym s.here) (subst (λ (x : List Slot). is_among (keys_in x) key ≡ true) s.is t.keys) in
    let done : IsAsked (front ++ slot ∷ back) asked slot.key (front ++ record slot { asked = true } ∷ back) (asked ++ slot.key ∷ []) = mark_here front slot back asked mine before after_it fresh there in
    let new_is : front ++ record slot { asked = true } ∷ back ≡ set slots i after = ap (λ (o : Slot). front ++ o ∷ back) (sym is) ∙ sym (set_cut slots i after at_slots.within) in
    let one : IsAsked slots asked slot.key (front ++ record slot { asked = true } ∷ back) (asked ++ slot.key ∷ []) = subst (λ (x : List Slot). IsAsked x asked slot.key (front ++ record slot { asked = true } ∷ back) (asked ++ slot.key ∷ [])) (sym s.is) done in
    let two : IsAsked slots asked key (front ++ record slot { asked = true } ∷ back) (asked ++ key ∷ []) = subst (λ (p : Place). IsAsked slots asked p (front ++ record slot { asked = true } ∷ back) (asked ++ p ∷ [])) s.here one in
    let three : IsAsked slots asked key (set slots i after) (asked ++ key ∷ []) = subst (λ (x : List Slot). IsAsked slots asked key x (asked ++ key ∷ [])) new_is two in
    subst (λ (x : List Place). IsAsked slots asked key (set slots i after) x) (sym pushed_is) three

-- where it has no slot
gap_marked : (front back : List Slot) (asked : List Place) (key : Place) → IsSlotted (front ++ back) asked → AllByRecursion (λ s. IsBefore s.key key) front → AllByRecursion (λ s. IsBefore key s.key) back → is_among asked key ≡ false → IsAsked (front ++ back) asked key (front ++ asked_slot key ∷ back) (asked ++ key ∷ [])
gap_marked front back asked key k before after fresh = record {
  asked_is = rw fresh refl;
  slotted = record {
    order = pairs_in Comes front (asked_slot key) back before after k.order;
    needed = all_in (λ s. (s.visible || s.asked) ≡ true) front (asked_slot key) back refl k.needed;
    marks = all_in (λ s. s.asked ≡ is_among (asked ++ key ∷ []) s.key) front (asked_slot key) back (sym (among_last asked key))
        (marks_push asked key (front ++ back) (all_join (λ s. same_place s.key key ≡ false) front back (others_before key front before) (others_after key back after)) k.marks);
    held = all_join (λ p. is_among (keys_in (front ++ asked_slot key ∷ back)) p ≡ true) asked (key ∷ [])
        (all_from (λ p. is_among (keys_in (front ++ back)) p ≡ true) (λ p. is_among (keys_in (front ++ asked_slot key ∷ back)) p ≡ true) asked (λ p h. keys_more key p back front h) k.held)
        (keys_new key back front, tt);
  };
  seen = seen_in_gap key back front;
  screen = screen_in_gap key back front;
}

pub ask_gap : (slots now new : List Slot) (asked pushed : List Place) (key : Place) (i : ℕ) → IsSlotted slots asked → now ≡ slots → IsGap now key i → new ≡ insert slots i (asked_slot key) → pushed ≡ asked ++ key ∷ [] → IsAsked slots asked key new pushed
ask_gap slots now new asked pushed key i k same gap_now new_is pushed_is =
    let gap : IsGap slots key i = subst (λ (x : List Slot). IsGap x key i) same gap_now in
    let cut : take i slots ++ drop i slots ≡ slots = take-append-drop i slots in
    let t : TellsNone slots asked key = tells_none slots asked key k (gap_others slots key i gap) in
    let mine : IsSlotted (take i slots ++ drop i slots) asked = subst (λ (x : List Slot). IsSlotted x asked) (sym cut) k in
    let done : IsAsked (take i slots ++ drop i slots) asked key (insert slots i (asked_slot key)) (asked ++ key ∷ []) = gap_marked (take i slots) (drop i slots) asked key mine gap.before gap.after t.asking in
    let one : IsAsked slots asked key (insert slots i (asked_slot key)) (asked ++ key ∷ []) = subst (λ (x : List Slot). IsAsked x asked key (insert slots i (asked_slot key)) (asked ++ key ∷ [])) cut done in
    let two : IsAsked slots asked key new (asked ++ key ∷ []) = subst (λ (x : List Slot). IsAsked slots asked key x (asked ++ key ∷ [])) (sym new_is) one in
    subst (λ (x : List Place). IsAsked slots asked key new x) (sym pushed_is) two

-- ---- each asked key once

others_of : (asked : List Place) (key : Place) → is_among asked key ≡ false → AllByRecursion (λ k. k ≢ key) asked
others_of [] key e = tt
others_of (k ∷ asked) key e =
    let go : (b : Bool) → same_place k key ≡ b → (b || is_among asked key) ≡ false → (k ≢ key) × AllByRecursion (λ x. x ≢ key) asked = elim [
      | true ↦ λ same h. absurd (cc)
      | false ↦ λ other h. ((λ same. let yes : same_place k key ≡ true = subst (λ (p : Place). same_place k p ≡ true) same (same_self k) in absurd (cc)), others_of asked key h)
    ] in
    go (same_place k key) refl e

once_with : (asked : List Place) (key : Place) → Pairwise (λ p q. p ≢ q) asked → Pairwise (λ p q. p ≢ q) (asked_with asked key)
once_with asked key p =
    let go : (b : Bool) → is_among asked key ≡ b → Pairwise (λ p q. p ≢ q) (cond b asked (asked ++ key ∷ [])) = elim [
      | true ↦ λ e. p
      | false ↦ λ e. pairs_push (λ p q. p ≢ q) asked key p (others_of asked key e)
    ] in
    go (is_among asked key) refl

pub once_with_all : (keys asked : List Place) → Pairwise (λ p q. p ≢ q) asked → Pairwise (λ p q. p ≢ q) (asked_with_all asked keys)
once_with_all [] asked p = p
once_with_all (key ∷ keys) asked p = once_with_all keys (asked_with asked key) (once_with asked key p)

-- ---- whether a key is asked for

pub asked_at : (slots : List Slot) (asked : List Place) (key : Place) (i : ℕ) (slot : Slot) → IsSlotted slots asked → IsAt slots key i → slot ≡ get_or slots i slot → slot.asked ≡ is_among asked key
asked_at slots asked key i slot k at e =
    let t : Tells slots asked key slot = tells slots asked key (take i slots) slot (drop (suc i) slots) k (at_split slots key i slot k.order at e) in
    sym t.asking

pub asked_gap : (slots : List Slot) (asked : List Place) (key : Place) (i : ℕ) → IsSlotted slots asked → IsGap slots key i → false ≡ is_among asked key
asked_gap slots asked key i k gap =
    let t : TellsNone slots asked key = tells_none slots asked key k (gap_others slots key i gap) in
    sym t.asking
