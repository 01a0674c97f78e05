-- Turns one after the other, and a due pair that is under way.
use Rattle.std.specs.Prelude.{◌≡◌, ◌≢◌, ◌⊎◌, ℕ, ◌≤◌, true, false, length, Option}
use Rattle.kit_trait.specs.Rules.{Rules}
use Rattle.tile_key.specs.Places.{Place}
use Rattle.document_machine.specs.Due.{has_room, is_out}
use Rattle.document_machine.specs.Event.{Event, Turned}
use Rattle.document_machine.specs.Next.{Rest, pick}
use Rattle.document_machine.specs.State.{View, Document}
use Rattle.document_machine.specs.Step.{Works}
use Rattle.document_machine.specs.declared.limits.TheConstants.{MOST_JOBS}
use Rattle.document_machine.specs.declared.outs.Outs.{Outs}

-- the event is a turn, and the turn did a work
abbrev pub TurnWorks : {C B S : Type 0} → Rules C B → (C → Place → S)
    → Document S → Event S → Outs S → Document S → Type 0
TurnWorks rules cut old event outs new = (event ≡ Turned) × Works rules cut old outs new

-- a job of the key is out, or the view has no room, or as many jobs are out as may be, or a work is
-- next
abbrev pub IsUnderWay : {C B S : Type 0} → Rules C B → (kept : Place → Option ℕ) → Document S → View
    → Place → Type 0
IsUnderWay rules kept d view key =
    (is_out d.jobs key ≡ true)
    ⊎ ((has_room view ≡ false) ⊎ ((MOST_JOBS ≤ length d.jobs) ⊎ (pick rules kept d ≢ Rest)))
