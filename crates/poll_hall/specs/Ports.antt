-- What contracts see of a port, and what each call through it does.
use Rattle.std.specs.Prelude.{◌≡◌, ℕ, Option, None, Some, List, IfSome}
use Rattle.turn_lock.specs.Lists.{IsPrefix}
use Rattle.turn_lock.specs.Seats.{Known}
use Rattle.hall_machine.specs.declared.words.Ground.{Ground}
use Rattle.hall_machine.specs.declared.words.Entry.{Entry}
use Rattle.hall_machine.specs.declared.words.OpenDocument.{OpenDocument}
use Rattle.hall_machine.specs.States.{HallView}

-- the ground of its hall, the poll that calls, the history that was seen, and the open documents
-- where the port tells them
pub record PortView (P M : Type 0) : Type 0 where
  pub ground_of : Ground
  pub who : ℕ
  pub seen : List Entry
  pub opens : Option (List (OpenDocument P M))

-- where the open documents are told, they change so
abbrev pub Told : {P M : Type 0} → Option (List (OpenDocument P M))
    → Option (List (OpenDocument P M))
    → (List (OpenDocument P M) → List (OpenDocument P M) → Type 0) → Type 0
Told None None values = Unit {0}
Told (Some old) (Some new) values = values old new
Told None (Some new) values = ⊥
Told (Some old) None values = ⊥

-- one call: it found a history that begins with the one that was seen, and answers what `says` says
-- over it; the port has then seen the history that the call left. Where the open documents are
-- told, the history found is the one that was seen, and they change so
pub record Finds {P M R : Type 0} (old : PortView P M)
    (says : Ground → List Entry → R → List Entry → Type 0)
    (values : List (OpenDocument P M) → List (OpenDocument P M) → Type 0) (result : R)
    (new : PortView P M) : Type 0 where
  pub found : List Entry
  pub sees : IsPrefix old.seen found
  pub whole : IfSome old.opens (λ _. found ≡ old.seen)
  pub answers : says old.ground_of found result new.seen
  pub told : Told old.opens new.opens values
  pub ground_is : new.ground_of ≡ old.ground_of
  pub who_is : new.who ≡ old.who

-- the open documents stay
abbrev pub Stays : {A : Type 0} → A → A → Type 0
Stays old new = new ≡ old

-- the ground that a seat knows
abbrev pub ground_in : Option Ground → Ground
ground_in None = record { polls = 0; room = 0 }
ground_in (Some g) = g

-- a port over a plain state
abbrev pub local_view : {P M : Type 0} → HallView P M → ℕ → PortView P M
local_view h who = record {
  ground_of = h.ground_of;
  who = who;
  seen = h.book;
  opens = Some h.opens;
}

-- a port over a shared hall
abbrev pub seat_view : {P M : Type 0} → Known Entry Ground → ℕ → PortView P M
seat_view k who = record { ground_of = ground_in k.footing; who = who; seen = k.seen; opens = None }
