-- What comes back at once.
use Rattle.std.specs.Prelude.{◌≡◌, ℕ, List, Option, None, Some}
use Rattle.document_machine.specs.Event.{Event}
use Rattle.document_machine.specs.Goes.{Moves}
use Rattle.document_machine.specs.Held.{Held}
use Rattle.document_machine.specs.Run.{Run}
use Rattle.document_machine.specs.declared.outs.Outs.{Outs}
use Rattle.kit_trait.specs.Rules.{Rules}
use Rattle.tile_key.specs.Places.{Place}
use Rattle.script_world.specs.Seats.{Seats, records}

-- these events are taken, in order, and the records of their frames
abbrev pub TakesAll : {C B S : Type 0} → Rules C B → (C → Place → S) → Seats → Option (Held S) → List (Event S) → List ℕ → Option (Held S) → Type 0
TakesAll rules cut seats None events out new = ⊥
TakesAll {C} {B} {S} rules cut seats (Some old) events out new = (held : Held S) × (outs : Outs S)
    × Run (Moves rules cut) old events outs held × (out ≡ records seats outs.frames) × (new ≡ Some held)
