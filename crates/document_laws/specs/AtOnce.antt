-- A turn whose jobs are painted and whose puts are answered at once, and a view that acknowledges all
-- that it was sent.
use Rattle.std.specs.Prelude.{◌≡◌, ◌≢◌, ℕ, ◌<◌, List, [], ◌++◌, map, Some, Ok}
use Rattle.kit_trait.specs.declared.jobs.PaintJob.{PaintJob}
use Rattle.kit_trait.specs.Rules.{Rules}
use Rattle.document_machine.specs.Event.{Event, Painted, PutAnswered}
use Rattle.document_machine.specs.Message.{acknowledged}
use Rattle.document_machine.specs.Outputs.{nothing}
use Rattle.document_machine.specs.Rank.{left_to_do}
use Rattle.document_machine.specs.State.{View, Document, find_view, with_view}
use Rattle.document_machine.specs.declared.outs.Outs.{Outs}
use Rattle.outside.specs.declared.errands.Errand.{Errand}
use Rattle.outside.specs.declared.errands.Receipt.{Receipt}

-- a job comes back with the very scene that it was given out with
abbrev pub answered : {S : Type 0} → PaintJob S → Event S
answered job = Painted job.ticket.0 job.scene

-- the receipt of an errand's own content in its own file
abbrev pub own_receipt : Errand → Receipt
own_receipt errand = record { file = errand.file; content = errand.content }

-- a store took an errand's content, and answers by its receipt
abbrev pub stored : {S : Type 0} → Errand → Event S
stored errand = PutAnswered errand.ticket.0 (Ok (own_receipt errand))

-- each job that was given out comes back, in order, and behind them each errand is answered by its receipt
abbrev pub all_answered : {S : Type 0} → Outs S → List (Event S)
all_answered outs = map answered outs.jobs ++ map stored outs.errands

-- the numbers of the tiles that a view has not acknowledged, in the order sent
abbrev pub numbers : View → List ℕ
numbers view = map (λ tile. tile.wid) view.window

-- a view acknowledges these numbers, and nothing else changes
abbrev pub acknowledges : {S : Type 0} → Document S → ℕ → List ℕ → Document S
acknowledges d id wids = record d { views = with_view d.views id (acknowledged wids) }

-- a view has acknowledged all that it was sent: nothing is sent for that, its window is empty and
-- it is else as before, the other views and the jobs out are as before, and less is left to do
pub record IsAcknowledged {C B S : Type 0} (rules : Rules C B) (old : Document S) (id : ℕ)
    (view : View) (outs : Outs S) (new : Document S) : Type 0 where
  pub outs_are : outs ≡ nothing
  pub new_is : new ≡ acknowledges old id (numbers view)
  pub empty : find_view new.views id ≡ Some (record view { window = [] })
  pub others : (other : ℕ) → other ≢ id → find_view new.views other ≡ find_view old.views other
  pub jobs : new.jobs ≡ old.jobs
  pub less : left_to_do rules new < left_to_do rules old
