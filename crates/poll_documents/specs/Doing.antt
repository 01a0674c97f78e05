-- What a call of a poll did of a plan, and whether a turn did something by it.
use Rattle.std.specs.Prelude.{◌≡◌, ℕ, ◌+◌, Bool, true, false, List, ◌∷◌, ◌++◌, take, drop, get_or}
use Rattle.std.specs.Prelude.{Result, Ok, Err}
use Rattle.std.specs.List.{list_any}
use Rattle.cool_base.specs.declared.want.Memory.{Memory}
use Rattle.net_traits.specs.Nets.{LinkEvent}
use Rattle.poll_machine.specs.Words.{Ways}
use Rattle.poll_machine.specs.House.{House, Happens, Slot}
use Rattle.poll_machine.specs.Plans.{Plan}
use Rattle.poll_machine.specs.Told.{Heard}
use Rattle.poll_machine.specs.Turn.{ids, is_work, is_fault}
use Rattle.poll_machine.specs.Carried.{Carries}

-- a plan was carried out, or a part of it; where the call was fine this is whether a turn did
-- something by it, and the net gave no fault
pub record Does {D J P L : Type 0} (w : Ways D J P) (carries : L → List LinkEvent)
    (plan : Plan (House D J P L) (Happens D J P L)) (old : House D J P L)
    (before : Heard D J P L) (fine : Type 0) (worked : Bool) (new : House D J P L)
    (after : Heard D J P L) : Type 0 where
  pub carried : Carries w carries plan old before fine new after
  pub works : fine → list_any is_work carried.events ≡ worked
  pub faults : fine → list_any is_fault carried.events ≡ false

-- a house with this under its id, between what stands in front and behind, and with so many links
-- ended
abbrev pub in_house : {D J P L : Type 0} → House D J P L → List (ℕ × Slot D J P L)
    → ℕ × Slot D J P L → List (ℕ × Slot D J P L) → ℕ → House D J P L
in_house house front lodged back ended = record house {
  docs = front ++ lodged ∷ back;
  ended = ended;
}

-- what a call tells: whether it did something, and how many links ended
abbrev pub worked_in : Result (Bool × ℕ) Memory → Bool
worked_in (Ok p) = p.0
worked_in (Err memory) = false

abbrev pub ended_in : Result (Bool × ℕ) Memory → ℕ
ended_in (Ok p) = p.1
ended_in (Err memory) = 0

-- what a call answers of whether it did something
abbrev pub found_in : Result Bool Memory → Bool
found_in (Ok worked) = worked
found_in (Err memory) = false

-- the same of a call that answers something more
abbrev pub first_in : Result (Bool × Bool) Memory → Bool
first_in (Ok p) = p.0
first_in (Err memory) = false

-- the ids of what is held, once the one at this place is held no more, or still is
abbrev pub ids_left : (gone : Bool) → ℕ → List ℕ → List ℕ
ids_left true i ids = take i ids ++ drop (i + 1) ids
ids_left false i ids = ids

-- how many links ended, by a call that counts them
abbrev pub count_of : Result ℕ Memory → ℕ
count_of (Ok n) = n
count_of (Err memory) = 0

-- the id of the document that stands at this place
abbrev pub id_at : {D J P L : Type 0} → House D J P L → ℕ → ℕ
id_at house i = get_or (ids house) i 0
