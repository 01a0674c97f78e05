-- The lock of a document's file is refreshed, and released.
use Rattle.std.specs.Prelude.{◌≡◌, ℕ, ◌+◌, Bool, true, false, nat_le, List, [], Option, None, Some}
use Rattle.std.specs.Prelude.{Result, Ok, Err}
use Rattle.cool_base.specs.declared.want.Memory.{Memory}
use Rattle.outside.specs.Stores.{StoreCall, Refreshes, Unlocks}
use Rattle.outside.specs.declared.faults.StoreFault.{StoreFault}
use Rattle.outside.specs.declared.faults.StoreFault.TheVariants as fault
use Rattle.poll_machine.specs.Words.{Ways}
use Rattle.poll_machine.specs.Agenda.{HeldDocument, Lock}
use Rattle.poll_machine.specs.House.{Slot, Live, Refused}
use Rattle.poll_machine.specs.Told.{StoreStep}

-- whether a lock was taken or refreshed 600 seconds ago or earlier
abbrev pub is_due : (moment : ℕ) → Option Lock → Bool
is_due moment None = false
is_due moment (Some lock) = nat_le (lock.moment + 600) moment

-- whether the store answered that it had no memory
abbrev pub lacks_memory : Result (Unit {0}) StoreFault → Bool
lacks_memory (Ok u) = false
lacks_memory (Err fault.Memory) = true
lacks_memory (Err _) = false

-- the lock was due: the store was asked once to refresh it, and this is the moment of that,
-- whatever the answer, which told that it lacked memory, or told something else
pub record Refreshed {D J P L : Type 0} (lacked : Bool) (moment : ℕ) (old : HeldDocument D J P L)
    (before : Option (List StoreCall)) (new : HeldDocument D J P L)
    (after : Option (List StoreCall)) : Type 0 where
  pub lock : Lock
  pub answer : Result (Unit {0}) StoreFault
  pub locked : old.lock ≡ Some lock
  pub due : nat_le (lock.moment + 600) moment ≡ true
  pub memory : lacks_memory answer ≡ lacked
  pub told : StoreStep before (Refreshes old.file lock.token answer) after
  pub is : new
      ≡ record old { lock = Some (record { token = lock.token; moment = moment }) }

-- a due lock is refreshed, and the call is out of memory where the store was then; another stays
abbrev pub RefreshesDue : {D J P L : Type 0} → (moment : ℕ) → HeldDocument D J P L
    → Option (List StoreCall) → Result Bool Memory → HeldDocument D J P L
    → Option (List StoreCall) → Type 0
RefreshesDue moment old before (Ok false) new after = (is_due moment old.lock ≡ false)
    × (new ≡ old) × (after ≡ before)
RefreshesDue moment old before (Ok true) new after = Refreshed false moment old before new after
RefreshesDue moment old before (Err memory) new after =
    Refreshed true moment old before new after

-- the store was asked to release the lock, and there is none, whatever the answer, which told that
-- it lacked memory, or told something else
pub record Unlocked {D J P L : Type 0} (lacked : Bool) (old : HeldDocument D J P L)
    (before : Option (List StoreCall)) (new : HeldDocument D J P L)
    (after : Option (List StoreCall)) : Type 0 where
  pub lock : Lock
  pub answer : Result (Unit {0}) StoreFault
  pub locked : old.lock ≡ Some lock
  pub memory : lacks_memory answer ≡ lacked
  pub told : StoreStep before (Unlocks old.file lock.token answer) after
  pub is : new ≡ record old { lock = None }

-- a lock is released, and the call is out of memory where the store was then
abbrev pub ReleasesLock : {D J P L : Type 0} → HeldDocument D J P L → Option (List StoreCall)
    → Result Bool Memory → HeldDocument D J P L → Option (List StoreCall) → Type 0
ReleasesLock old before (Ok false) new after = (old.lock ≡ None) × (new ≡ old) × (after ≡ before)
ReleasesLock old before (Ok true) new after = Unlocked false old before new after
ReleasesLock old before (Err memory) new after = Unlocked true old before new after

-- what is held is made ready to be closed: a document that is done, whose lock is released where it
-- has one, and what is held as refused. It tells whether a lock was released; a document that isn't
-- done stays
abbrev pub Readies : {D J P L : Type 0} → Ways D J P → ℕ × Slot D J P L
    → Option (List StoreCall) → Result (Option Bool) Memory → ℕ × Slot D J P L
    → Option (List StoreCall) → Type 0
Readies w (id, Live old) before (Ok None) new after = (w.is_done old.doc ≡ false)
    × (new ≡ (id, Live old)) × (after ≡ before)
Readies {D} {J} {P} {L} w (id, Live old) before (Ok (Some unlocked)) new after =
    (z : HeldDocument D J P L) × (new ≡ (id, Live z)) × (w.is_done old.doc ≡ true)
    × (old.todo ≡ []) × ReleasesLock old before (Ok unlocked) z after
Readies {D} {J} {P} {L} w (id, Live old) before (Err memory) new after =
    (z : HeldDocument D J P L) × (old.todo ≡ []) × (w.is_done old.doc ≡ true)
    × ReleasesLock old before (Err memory) z after
Readies w (id, Refused file refusal) before (Ok (Some unlocked)) new after = (unlocked ≡ false)
    × (new ≡ (id, Refused file refusal)) × (after ≡ before)
Readies w (id, Refused file refusal) before (Ok None) new after = ⊥
Readies w (id, Refused file refusal) before (Err memory) new after = ⊥
