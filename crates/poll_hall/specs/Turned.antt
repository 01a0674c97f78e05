-- One turn at the lock of a hall.
use Rattle.std.specs.Prelude.{◌≡◌, ℕ, ◌+◌, Some, List, length}
use Rattle.turn_lock.specs.Lists.{IsPrefix}
use Rattle.turn_lock.specs.Seats.{Known, own_after}
use Rattle.hall_machine.specs.declared.words.Ground.{Ground}
use Rattle.hall_machine.specs.declared.words.Entry.{Entry}
use Rattle.hall_machine.specs.Entries.{IsLegal}

-- the call found a history over the seat's ground that begins with all that the seat had seen; over
-- it the answer and the history that is left are what `says` says; it was one turn of the seat,
-- which has then seen the history that is left, in which an entry that was added is its own, at its
-- place; that history is legal; and the count is its length
pub record Turned {R : Type 0} (old : Known Entry Ground)
    (says : Ground → List Entry → R → List Entry → Type 0) (result : R) (count : ℕ)
    (new : Known Entry Ground) : Type 0 where
  pub ground_of : Ground
  pub found : List Entry
  pub ground_is : old.footing ≡ Some ground_of
  pub sees : IsPrefix old.seen found
  pub answers : says ground_of found result new.seen
  pub knows : new ≡ record old {
    seen = new.seen;
    own = own_after old.own (length found)
        (length new.seen);
    turns = old.turns + 1;
  }
  pub legal : IsLegal ground_of new.seen
  pub counted : count ≡ length new.seen
