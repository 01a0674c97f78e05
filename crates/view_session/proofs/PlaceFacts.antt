-- Where the first due slot is, and the first one behind a key.
use Rattle.std.proofs.Common.{◌≡◌, ℕ, zero, suc, ◌+◌, ◌<◌, ◌≤◌, Bool, true, false, ◌&&◌, cond, List, [], ◌∷◌, length, take, drop, find, get_or, Option, Some, None, refl, ap, sym, subst, ◌∙◌, inl, inr, add-one, arith}
use Rattle.std.specs.Prelude.{◌⊎◌, option_map}
use Rattle.std.specs.List.{AllByRecursion, remove}
use Rattle.tile_key.specs.Places.{Place}
use Rattle.tile_key.specs.Visible.{IsBefore}
use Rattle.document_machine.specs.Keys.{Pairwise}
use Rattle.view_session.specs.Viewing.{Viewing, is_behind, is_due, keys, next_due}
use Rattle.view_session.specs.Slots.{keys_in, slot_due, due_place, IsSlotted}
use Rattle.view_session.specs.Moves.{IsAt, IsGap, IsBehindFrom}
use Rattle.view_session.specs.declared.slots.Slot.{Slot}
use Rattle.view_session.proofs.DueFacts.{IsOf, all_due, find_keys}
use Rattle.view_session.proofs.FindFacts.{Comes, all_get}
use Rattle.view_session.proofs.HeldFacts.{keys_of}
use Rattle.view_session.proofs.OrderFacts.{not_back, not_self}

-- no more slots come before the first due one than there are
pub due_low : (slots : List Slot) → due_place slots ≤ length slots
due_low [] = omega arith
due_low (slot ∷ slots) =
    elim (slot_due slot) as (λ b. cond b 0 (suc (due_place slots)) ≤ suc (length slots)) [
      | true ↦ omega arith
      | false ↦ let low : due_place slots ≤ length slots = due_low slots in omega arith
    ]

-- the slot that is due, where those before it are not, is the first
pub due_here : (slots : List Slot) (i : ℕ) (slot : Slot) → i < length slots → slot ≡ get_or slots i slot → i ≤ due_place slots → slot_due slot ≡ true → i ≡ due_place slots
due_here [] i slot within is low due = absurd (omega arith)
due_here (other ∷ slots) zero slot within is low due =
    let here : slot_due other ≡ true = ap slot_due (sym is) ∙ due in
    rw here refl
due_here (other ∷ slots) (suc i) slot within is low due =
    let go : (b : Bool) → suc i ≤ cond b 0 (suc (due_place slots)) → suc i ≡ cond b 0 (suc (due_place slots)) = elim [
      | true ↦ λ le. absurd (omega arith)
      | false ↦ λ le. ap suc (due_here slots i slot (omega arith) is (omega arith) due)
    ] in
    go (slot_due other) low

-- where one more isn't due, one more comes before the first due one
pub due_on : (slots : List Slot) (i : ℕ) (slot : Slot) → i < length slots → slot ≡ get_or slots i slot → i ≤ due_place slots → slot_due slot ≡ false → i + 1 ≤ due_place slots
due_on [] i slot within is low due = absurd (omega arith)
due_on (other ∷ slots) zero slot within is low due =
    let here : slot_due other ≡ false = ap slot_due (sym is) ∙ due in
    rw here (omega arith)
due_on (other ∷ slots) (suc i) slot within is low due =
    let go : (b : Bool) → suc i ≤ cond b 0 (suc (due_place slots)) → suc i + 1 ≤ cond b 0 (suc (due_place slots)) = elim [
      | true ↦ λ le. absurd (omega arith)
      | false ↦ λ le. let more : i + 1 ≤ due_place slots = due_on slots i slot (omega arith) is (omega arith) due in omega arith
    ] in
    go (slot_due other) low

-- slots whose first n are as they were have no due one earlier, up to there
pub front_low : (n m : ℕ) (old new : List Slot) → take n new ≡ take n old → m ≤ n → m ≤ due_place old → m ≤ due_place new
front_low n zero old new same few low = omega arith
front_low zero (suc m) old new same few low = absurd (omega arith)
front_low (suc n) (suc m) [] new same few low = absurd (omega arith)
front_low (suc n) (suc m) (x ∷ old) [] same few low = absurd (cc)
front_low (suc n) (suc m) (x ∷ old) (y ∷ new) same few low =
    let first : y ≡ x = cc in
    let rest : take n new ≡ take n old = cc in
    let go : (b : Bool) → suc m ≤ cond b 0 (suc (due_place old)) → suc m ≤ cond b 0 (suc (due_place new)) = elim [
      | true ↦ λ le. absurd (omega arith)
      | false ↦ λ le. let more : m ≤ due_place new = front_low n m old new rest (omega arith) (omega arith) in omega arith
    ] in
    rw first (go (slot_due x) low)

-- what comes before one that is taken out stays
pub take_removed : {X : Type 0} (xs : List X) (i : ℕ) → take i (remove xs i) ≡ take i xs
take_removed [] zero = refl
take_removed [] (suc i) = refl
take_removed (x ∷ xs) zero = refl
take_removed (x ∷ xs) (suc i) = ap (λ ys. x ∷ ys) (take_removed xs i)

module _ (before : Option Place) where
  -- a slot that is due behind the key
  abbrev pub is_next : Slot → Bool
  is_next slot = is_behind before slot.key && slot_due slot

  and_false : (b : Bool) → (b && false) ≡ false
  and_false true = refl
  and_false false = refl

  skip_early : (slots : List Slot) (n : ℕ) → n ≤ due_place slots → find is_next slots ≡ find is_next (drop n slots)
  skip_early slots zero low = refl
  skip_early [] (suc n) low = absurd (omega arith)
  skip_early (slot ∷ slots) (suc n) low =
      let go : (b : Bool) → suc n ≤ cond b 0 (suc (due_place slots)) → cond (is_behind before slot.key && b) (Some slot) (find is_next slots) ≡ find is_next (drop n slots) = elim [
        | true ↦ λ le. absurd (omega arith)
        | false ↦ λ le. rw (and_false (is_behind before slot.key)) (skip_early slots n (omega arith))
      ] in
      go (slot_due slot) low

  skip_front : (slots : List Slot) (n : ℕ) → AllByRecursion (λ slot. is_behind before slot.key ≡ false) (take n slots) → find is_next slots ≡ find is_next (drop n slots)
  skip_front slots zero all = refl
  skip_front [] (suc n) all = refl
  skip_front (slot ∷ slots) (suc n) all = rw all.0 (skip_front slots n all.1)

  find_back : (slots : List Slot) → AllByRecursion (λ slot. is_behind before slot.key ≡ true) slots → find is_next slots ≡ find slot_due slots
  find_back [] all = refl
  find_back (slot ∷ slots) all = rw all.0 (ap (λ o. cond (slot_due slot) (Some slot) o) (find_back slots all.1))

all_drop_more : {X : Type 0} (P : X → Type 0) (xs : List X) (m n : ℕ) → m ≤ n → AllByRecursion P (drop m xs) → AllByRecursion P (drop n xs)
all_drop_more P [] zero zero le all = tt
all_drop_more P [] zero (suc n) le all = tt
all_drop_more P [] (suc m) zero le all = tt
all_drop_more P [] (suc m) (suc n) le all = tt
all_drop_more P (x ∷ xs) zero zero le all = all
all_drop_more P (x ∷ xs) zero (suc n) le all = all_drop_more P xs zero n (omega arith) all.1
all_drop_more P (x ∷ xs) (suc m) zero le all = absurd (omega arith)
all_drop_more P (x ∷ xs) (suc m) (suc n) le all = all_drop_more P xs m n (omega arith) all

-- the first due slot behind the key is the first due one from the later of both places on
pub next_from : (slots : List Slot) (before : Option Place) (first behind start : ℕ) → first ≡ due_place slots → IsBehindFrom slots before behind → behind ≤ start → (start ≡ first) ⊎ (start ≡ behind) → find slot_due (drop start slots) ≡ find (λ slot. is_behind before slot.key && slot_due slot) slots
next_from slots before first behind start first_is from later is =
    let back : AllByRecursion (λ slot. is_behind before slot.key ≡ true) (drop start slots) = all_drop_more (λ slot. is_behind before slot.key ≡ true) slots behind start later from.back in
    let skipped : find (is_next before) slots ≡ find (is_next before) (drop start slots) = elim is [
      | inl early ↦ skip_early before slots start (omega arith)
      | inr front ↦ skip_front before slots start (rw front from.front)
    ] in
    sym (skipped ∙ find_back before (drop start slots) back)

-- without a key all come behind
all_behind : (slots : List Slot) → AllByRecursion (λ slot. is_behind None slot.key ≡ true) slots
all_behind [] = tt
all_behind (slot ∷ slots) = (refl, all_behind slots)

pub behind_none : (slots : List Slot) → IsBehindFrom slots None 0
behind_none slots = record { within = omega arith; front = tt; back = all_behind slots }

all_front : (slots : List Slot) (key : Place) (n : ℕ) → AllByRecursion (λ slot. IsBefore slot.key key) (take n slots) → AllByRecursion (λ slot. is_behind (Some key) slot.key ≡ false) (take n slots)
all_front slots key zero all = tt
all_front [] key (suc n) all = tt
all_front (slot ∷ slots) key (suc n) all = (not_back slot.key key all.0, all_front slots key n all.1)

all_back : (slots : List Slot) (key : Place) → AllByRecursion (λ slot. IsBefore key slot.key) slots → AllByRecursion (λ slot. is_behind (Some key) slot.key ≡ true) slots
all_back [] key all = tt
all_back (slot ∷ slots) key all = (rw all.0 refl, all_back slots key all.1)

-- where a key has no slot, those behind it begin at its gap
pub behind_gap : (slots : List Slot) (key : Place) (i : ℕ) → IsGap slots key i → IsBehindFrom slots (Some key) i
behind_gap slots key i gap = record { within = gap.within; front = all_front slots key i gap.before; back = all_back (drop i slots) key gap.after }

at_front : (slots : List Slot) (key : Place) (i : ℕ) → Pairwise Comes slots → i < length slots → ((slot : Slot) → (get_or slots i slot).key ≡ key) → AllByRecursion (λ slot. is_behind (Some key) slot.key ≡ false) (take (suc i) slots)
at_front [] key i order within here = absurd (omega arith)
at_front (slot ∷ slots) key zero order within here =
    let same : slot.key ≡ key = here slot in
    (rw same (not_self key), tt)
at_front (slot ∷ slots) key (suc i) order within here =
    let next : (get_or slots i slot).key ≡ key = here slot in
    let less : IsBefore slot.key (get_or slots i slot).key = all_get (Comes slot) slots i slot order.0 (omega arith) in
    (not_back slot.key key (subst (λ (k : Place). IsBefore slot.key k) next less), at_front slots key i order.1 (omega arith) here)

at_back : (slots : List Slot) (key : Place) (i : ℕ) → Pairwise Comes slots → i < length slots → ((slot : Slot) → (get_or slots i slot).key ≡ key) → AllByRecursion (λ slot. is_behind (Some key) slot.key ≡ true) (drop (suc i) slots)
at_back [] key i order within here = absurd (omega arith)
at_back (slot ∷ slots) key zero order within here = all_back slots key (subst (λ (k : Place). AllByRecursion (λ (s : Slot). IsBefore k s.key) slots) (here slot) order.0)
at_back (slot ∷ slots) key (suc i) order within here = at_back slots key i order.1 (omega arith) here

-- where a key has a slot, those behind it begin after it
pub behind_at : (slots : List Slot) (key : Place) (i : ℕ) → Pairwise Comes slots → IsAt slots key i → IsBehindFrom slots (Some key) (i + 1)
behind_at slots key i order at =
    let low : i < length slots = at.within in
    rw add-one (record {
      within = omega arith;
      front = at_front slots key i order at.within at.here;
      back = at_back slots key i order at.within at.here;
    })

-- the first due key of a view behind another, by its slots
pub next_of : (v : Viewing) (slots : List Slot) (before : Option Place) → IsOf v slots → next_due before v ≡ option_map (λ slot. slot.key) (find (λ slot. is_behind before slot.key && slot_due slot) slots)
next_of v slots before o =
    ap (find (λ key. is_behind before key && is_due v key)) (keys_of v slots o)
    ∙ find_keys (λ key. is_behind before key && is_due v key) (λ slot. is_behind before slot.key && slot_due slot) slots (both slots (all_due v slots o))
  where
    both : (list : List Slot) → AllByRecursion (λ slot. is_due v slot.key ≡ slot_due slot) list → AllByRecursion (λ slot. (is_behind before slot.key && is_due v slot.key) ≡ (is_behind before slot.key && slot_due slot)) list
    both [] all = tt
    both (slot ∷ list) all = (ap (λ b. is_behind before slot.key && b) all.0, both list all.1)
