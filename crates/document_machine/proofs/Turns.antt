-- A turn that does a work is a turn of the machine, and a move of a broker is a step of it.
use Rattle.std.proofs.Common.{refl, inl, inr}
use Rattle.kit_trait.specs.Rules.{Rules}
use Rattle.tile_key.specs.Places.{Place}
use Rattle.document_machine.specs.Event.{Event, Joined, Left, Said, Turned, Painted, PutAnswered}
use Rattle.document_machine.specs.Goes.{Moves, next_work}
use Rattle.document_machine.specs.Held.{Held}
use Rattle.document_machine.specs.Next.{Work, Serve, Apply, Send, Cut, Rest}
use Rattle.document_machine.specs.Outputs.{outs_of}
use Rattle.document_machine.specs.State.{Document}
use Rattle.document_machine.specs.Step.{Does, Step, TurnsTo}
use Rattle.document_machine.specs.declared.outs.Outs.{Outs}
use Rattle.document_machine.specs.declared.outs.Turned.{Turned as TurnAnswer}
use Rattle.document_machine.specs.declared.outs.Turned.TheVariants.{Worked, Idle}

module _ {C B S : Type 0} (rules : Rules C B) (cut : C → Place → S) (old new : Document S) where
  -- what does a work is a turn
  pub does_turn : (work : Work) (turned : TurnAnswer S) → Does rules cut old work turned new → TurnsTo rules cut old turned new
  does_turn Serve (Worked outs) does = inl does
  does_turn Apply (Worked outs) does = inr (inl does)
  does_turn (Send id key version) (Worked outs) does = inr (inr (inl does.0))
  does_turn (Cut id keys) (Worked outs) does = inr (inr (inr does.0))
  does_turn Rest Idle does = does
  does_turn Serve Idle does = absurd does
  does_turn Apply Idle does = absurd does
  does_turn (Send id key version) Idle does = absurd does
  does_turn (Cut id keys) Idle does = absurd does
  does_turn Rest (Worked outs) does = absurd does

  -- a turn is a step
  pub turn_steps : (turned : TurnAnswer S) → TurnsTo rules cut old turned new → Step rules cut old Turned (outs_of turned) new
  turn_steps turned turn = (turned, turn, refl)

-- a move of a document with its kept tiles is a step of the document
pub moves_step : {C B S : Type 0} (rules : Rules C B) (cut : C → Place → S) (old new : Held S) (event : Event S) (outs : Outs S)
    → Moves rules cut old event outs new → Step rules cut old.document event outs new.document
moves_step rules cut old new (Joined rights) outs moves = moves.0
moves_step rules cut old new (Left view) outs moves = moves.0
moves_step rules cut old new (Said view text) outs moves = moves.0
moves_step rules cut old new Turned outs (turned, does, is) =
    (turned, does_turn rules cut old.document new.document (next_work rules old) turned does.0, is)
moves_step rules cut old new (Painted ticket scene) outs moves = moves.0
moves_step rules cut old new (PutAnswered ticket result) outs moves = moves.0
