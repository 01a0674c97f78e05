-- What the calls of a broker say of an event, where the broker can be spent.
use Rattle.std.specs.Prelude.{ℕ, ◌≡◌, List, Option, None, Some}
use Rattle.document_machine.specs.Event.{Left}
use Rattle.document_machine.specs.Goes.{Moves}
use Rattle.document_machine.specs.Held.{Held}
use Rattle.document_machine.specs.Outputs.{nothing}
use Rattle.document_machine.specs.declared.rights.Rights.{Rights}
use Rattle.kit_trait.specs.Rules.{Rules}
use Rattle.tile_key.specs.Places.{Place}
use Rattle.script_world.specs.House.{House, JoinsOne}
use Rattle.script_world.specs.Seats.{Seats}

-- a load of a document that is there; a spent broker takes none
abbrev pub JoinsBy : {C B S : Type 0} → Rules C B → (C → Place → S) → Seats → ℕ → Rights → Option (Held S) → List ℕ → House S → Type 0
JoinsBy rules cut seats link given None out new = ⊥
JoinsBy rules cut seats link given (Some old) out new = JoinsOne rules cut seats link given old out new

-- the document behind the leaving of a view, if the link is one
abbrev pub LeavesDocument : {C B S : Type 0} → Rules C B → (C → Place → S) → Option (Held S) → Option (Held S × ℕ) → Option (Held S) → Type 0
LeavesDocument rules cut old None new = new ≡ old
LeavesDocument {C} {B} {S} rules cut old (Some seat) new = (held : Held S)
    × Moves rules cut seat.0 (Left seat.1) nothing held × (new ≡ Some held)
