-- The moves of a broker: each is a step of the machine, and says what is kept after it.
use Rattle.std.specs.Prelude.{◌≡◌, Option, None, Some}
use Rattle.kit_trait.specs.Rules.{Rules}
use Rattle.tile_key.specs.Places.{Place}
use Rattle.document_machine.specs.Event.{Event, Joined, Left, Said, Turned, Painted, PutAnswered}
use Rattle.document_machine.specs.Held.{Held, KeepsPainted, current_version, kept_by}
use Rattle.document_machine.specs.Next.{Work, pick}
use Rattle.document_machine.specs.Outputs.{outs_of}
use Rattle.document_machine.specs.State.{find_job}
use Rattle.document_machine.specs.Step.{Does, Step}
use Rattle.document_machine.specs.declared.outs.Outs.{Outs}
use Rattle.document_machine.specs.declared.outs.Turned.{Turned as TurnAnswer}

-- the one work that a turn does next of a document with these tiles kept
abbrev pub next_work : {C B S : Type 0} → Rules C B → Held S → Work
next_work rules held = pick rules (current_version rules held) held.document

-- a turn does the one work that is next, and a tile that it sends was used. So it sends exactly where the
-- first pair that can be served has a present tile kept, and cuts no job for a key that has one
abbrev pub DoesNext : {C B S : Type 0} → Rules C B → (C → Place → S) → Held S → TurnAnswer S → Held S → Type 0
DoesNext rules cut old turned new =
    Does rules cut old.document (next_work rules old) turned new.document
    × (new.kept ≡ kept_by old.kept (next_work rules old))

-- a step of the machine with which what is kept doesn't change
abbrev pub StepsAlone : {C B S : Type 0} → Rules C B → (C → Place → S) → Held S → Event S → Outs S → Held S → Type 0
StepsAlone rules cut old event outs new =
    Step rules cut old.document event outs new.document × (new.kept ≡ old.kept)

-- the move of a document with the tiles kept of it: a step of the machine, where a turn does the one work
-- that is next, and a painted result that is taken is kept where it is present
abbrev pub Moves : {C B S : Type 0} → Rules C B → (C → Place → S) → Held S → Event S → Outs S → Held S → Type 0
Moves rules cut old (Joined rights) outs new = StepsAlone rules cut old (Joined rights) outs new
Moves rules cut old (Left view) outs new = StepsAlone rules cut old (Left view) outs new
Moves rules cut old (Said view text) outs new = StepsAlone rules cut old (Said view text) outs new
Moves {C} {B} {S} rules cut old Turned outs new =
    (turned : TurnAnswer S) × DoesNext rules cut old turned new × (outs ≡ outs_of turned)
Moves rules cut old (Painted ticket scene) outs new =
    Step rules cut old.document (Painted ticket scene) outs new.document
    × KeepsPainted rules old scene new.kept (find_job old.document.jobs ticket)
Moves rules cut old (PutAnswered ticket result) outs new = StepsAlone rules cut old (PutAnswered ticket result) outs new

-- the move of a broker that can be spent: only a broker that isn't makes one, and it isn't spent after it
abbrev pub Goes : {C B S : Type 0} → Rules C B → (C → Place → S) → Option (Held S) → Event S → Outs S → Option (Held S) → Type 0
Goes rules cut (Some old) event outs (Some new) = Moves rules cut old event outs new
Goes rules cut (Some old) event outs None = ⊥
Goes rules cut None event outs new = ⊥

-- a turn that did the one work that is next, of a broker that can be spent: only a broker that isn't makes
-- one, and it isn't spent after it
abbrev pub Did : {C B S : Type 0} → Rules C B → (C → Place → S) → Option (Held S) → TurnAnswer S → Option (Held S) → Type 0
Did rules cut (Some old) turned (Some new) = DoesNext rules cut old turned new
Did rules cut (Some old) turned None = ⊥
Did rules cut None turned new = ⊥
