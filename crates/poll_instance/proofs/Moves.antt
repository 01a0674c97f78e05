-- A step of a document that a poll holds, as a move of its broker.
use Rattle.std.proofs.Common.{◌≡◌, true, false, Option, None, Some, refl, ap, ◌∙◌, sym}
use Rattle.std.proofs.Common.{true≢false}
use Rattle.kit_trait.specs.Rules.{Rules}
use Rattle.kit_trait.specs.declared.jobs.PaintJob.{PaintJob}
use Rattle.tile_key.specs.Places.{Place}
use Rattle.document_machine.specs.Goes.{next_work}
use Rattle.document_machine.specs.Held.{Held, kept_by}
use Rattle.document_machine.specs.Next.{Work, Serve, Apply, Send, Cut, Rest}
use Rattle.document_machine.specs.Outputs.{outs_of}
use Rattle.document_machine.specs.Step.{Does}
use Rattle.document_machine.specs.declared.outs.Turned.TheVariants.{Worked, Idle}
use Rattle.poll_machine.specs.Words.{Event, Joined, Left, Said, Turned, Painted, PutAnswered, Outs}
use Rattle.poll_machine.specs.Words.{nothing}
use Rattle.poll_instance.specs.Instance.{Painting, machine_event, MovesOn, StepsOn}

-- whatever the event
pub moves_on : {C B S : Type 0} (rules : Rules C B) (cut : C → Place → S) (old new : Option (Held S))
    (event : Event (Painting S)) (outs : Outs (PaintJob S))
    → StepsOn rules cut old event outs new → MovesOn rules cut old (machine_event event) outs new
moves_on rules cut old new (Joined rights) outs h = h
moves_on rules cut old new (Left view) outs h = h
moves_on rules cut old new (Said view text) outs h = h
moves_on rules cut (Some old) (Some new) (Turned worked) outs (turned, does, worked_is, outs_are) =
    (outs_of turned, (turned, does, refl), outs_are)
moves_on rules cut (Some old) None (Turned worked) outs (turned, does, worked_is, outs_are) =
    absurd does
moves_on rules cut None new (Turned worked) outs (turned, does, worked_is, outs_are) = absurd does
moves_on rules cut old new (Painted result) outs h = h
moves_on rules cut old new (PutAnswered ticket answer) outs h = h

-- where nothing was done the document is as it was, and so is what is kept of it
rests : {C B S : Type 0} (rules : Rules C B) (cut : C → Place → S) (work : Work)
    (old new : Held S)
    → Does rules cut old.document work Idle new.document
    → new.kept ≡ kept_by old.kept work → new ≡ old
rests rules cut Serve old new h kept = absurd h
rests rules cut Apply old new h kept = absurd h
rests rules cut (Send view key version) old new h kept = absurd h
rests rules cut (Cut view keys) old new h kept = absurd h
rests rules cut Rest old new (rests_here, is) kept =
    ap (λ d. record { document = d; kept = new.kept }) is
    ∙ ap (λ tiles. record { document = old.document; kept = tiles }) kept

-- a turn without a work
pub idle_rests : {C B S : Type 0} (rules : Rules C B) (cut : C → Place → S)
    (old new : Option (Held S)) (outs : Outs (PaintJob S))
    → StepsOn rules cut old (Turned false) outs new → (outs ≡ nothing) × (new ≡ old)
idle_rests rules cut old new outs (Worked given, does, e, outs_are) = absurd (true≢false (sym e))
idle_rests rules cut (Some old) (Some new) outs (Idle, does, e, outs_are) = (
  outs_are,
  ap (λ h. Some h) (rests rules cut (next_work rules old) old new does.0 does.1),
)
idle_rests rules cut (Some old) None outs (Idle, does, e, outs_are) = absurd does
idle_rests rules cut None new outs (Idle, does, e, outs_are) = absurd does
