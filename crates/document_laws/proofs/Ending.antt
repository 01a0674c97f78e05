-- Why turns in a row end.
use Rattle.std.proofs.Common.{◌≡◌, ℕ, ◌+◌, ◌-◌, ◌*◌, ◌<◌, ◌≤◌, List, [], ◌∷◌, length, ap, arith}
use Rattle.kit_trait.specs.Rules.{Rules}
use Rattle.tile_key.specs.Places.{Place}
use Rattle.document_machine.specs.Event.{Event}
use Rattle.document_machine.specs.Kept.{IsKept}
use Rattle.document_machine.specs.Rank.{rank, still_to_come, jobs_due, due_pairs, pairs, unbound_saves}
use Rattle.document_machine.specs.Run.{Run}
use Rattle.document_machine.specs.State.{Document}
use Rattle.document_machine.specs.Step.{Works}
use Rattle.document_machine.specs.declared.outs.Outs.{Outs}
use Rattle.document_laws.specs.Turns.{TurnWorks}
use Rattle.document_laws.proofs.Rank.{rank_counts, work_lowers}
use Rattle.document_laws.proofs.Kept.{works_keep}

-- taken off on both sides
taken_off : (so jo sn jn : ℕ) → jo ≤ so → jn ≤ sn → sn + jo < so + jn → sn - jn + 1 ≤ so - jo
taken_off so jo sn jn a b lower = omega arith

more_than : (x due saves jobs : ℕ) → jobs ≤ due → jobs ≤ x + 2 * due + saves
more_than x due saves jobs le = omega arith

module _ {C B S : Type 0} (rules : Rules C B) (cut : C → Place → S) where
  -- no more is taken off than there is
  none_below : (d : Document S) → IsKept rules cut d → jobs_due rules d ≤ still_to_come rules d
  none_below d kept =
      more_than ((length d.journal - d.applied) * (2 * pairs rules d + 1)) (due_pairs rules d)
      (unbound_saves d) (jobs_due rules d) (rank_counts rules d kept.apart)

  -- a work takes one at least from the rank
  rank_falls : (old new : Document S) (outs : Outs S) → Works rules cut old outs new
      → IsKept rules cut old → rank rules new + 1 ≤ rank rules old
  rank_falls old new outs works kept =
      taken_off (still_to_come rules old) (jobs_due rules old) (still_to_come rules new)
      (jobs_due rules new)
      (none_below old kept) (none_below new (works_keep rules cut old new outs works kept))
      (work_lowers rules cut old new outs works kept)

  -- so many turns in a row take that much from it
  pub turns_end : (turns : List (Event S)) (old new : Document S) (outs : Outs S)
      → Run (TurnWorks rules cut) old turns outs new → IsKept rules cut old
      → length turns + rank rules new ≤ rank rules old
  turns_end [] old new outs run kept =
      let same : rank rules new ≡ rank rules old = ap (rank rules) run.1 in
      omega (arith, same)
  turns_end (turn ∷ turns) old new outs run kept =
      let first = rank_falls old run.0 run.1 run.3.1 kept in
      let rest = turns_end turns run.0 new run.2 run.4
      (works_keep rules cut old run.0 run.1 run.3.1 kept) in
      omega (arith, first, rest)
