-- What happens to a held document is a run of its machine, and its frames are given in their order.
use Rattle.std.proofs.Common.{◌≡◌, ℕ, Bool, true, false, List, [], ◌∷◌, ◌++◌, map, Option, None}
use Rattle.std.proofs.Common.{Some, refl, ap, subst, sym, ◌∙◌, append_assoc, append-nil}
use Rattle.net_traits.specs.declared.nets.Given.{Given}
use Rattle.net_traits.specs.declared.nets.Given.TheVariants.{Sent, Failed}
use Rattle.poll_machine.specs.Words.{Ways, Work, Outs, Moves}
use Rattle.poll_machine.specs.Agenda.{HeldDocument, Todo, Give, Leave, LetGo, Offer, Hand, Do, Take}
use Rattle.poll_machine.specs.Agenda.{Here, Joins, Did, Gives, Skips, Leaves, Frees, Asks, Offers}
use Rattle.poll_machine.specs.Agenda.{Paints, Puts, Takes, Refreshes, Unlocks, Releases, Adopts}
use Rattle.poll_machine.specs.Agenda.{HeldStep, released, todo_of, after_give}
use Rattle.poll_machine.specs.Project.{HeldMove, move_of, moves_of, frame_of, frames_of}
use Rattle.poll_machine.specs.Project.{frames_owed, frames_out, IsInOrder}
use Rattle.poll_machine.specs.Runs.{Run}
use Rattle.poll_machine.proofs.Runs.{runs}

-- releasing a link changes nothing of the document
release_keeps : {D J P L : Type 0} (h : HeldDocument D J P L) (view : ℕ) (gave : Option L)
    → (released h view gave).doc ≡ h.doc
release_keeps h view None = refl
release_keeps h view (Some carried) = refl

-- what happens to a held document is at most one move of its machine
step_moves : {D J P L : Type 0} (w : Ways D J P) (now : ℕ) (old : HeldDocument D J P L)
    (here : Here J P L) (new : HeldDocument D J P L)
    → HeldStep w now old here new → Run (Moves w) old.doc (move_of here) new.doc
step_moves w now old (Joins link rights outs) new (doc, free, room, step, is) =
    (doc, step, ap (λ h. h.doc) is)
step_moves w now old (Did event outs) new (doc, free, plain, step, is) =
    (doc, step, ap (λ h. h.doc) is)
step_moves w now old (Gives view link frame given) new (rest, next, linked, is) = ap (λ h. h.doc) is
step_moves w now old (Skips view frame) new (rest, next, linked, is) = ap (λ h. h.doc) is
step_moves w now old (Leaves view) new (rest, doc, next, step, is) = (doc, step, ap (λ h. h.doc) is)
step_moves w now old (Frees link gave) new (rest, next, is) = ap (λ h. h.doc) is
step_moves w now old (Asks spare) new (rest, work, next, is) = ap (λ h. h.doc) is
step_moves w now old (Offers work kept) new (rest, next, is) = ap (λ h. h.doc) is
step_moves w now old (Paints job) new (rest, next, is) = ap (λ h. h.doc) is
step_moves w now old (Puts errand answer) new (rest, next, is) = ap (λ h. h.doc) is
step_moves w now old (Takes answer outs) new (rest, doc, next, step, is) =
    (doc, step, ap (λ h. h.doc) is)
step_moves w now old (Refreshes file token answer) new (moment, free, same, lock, is) = ap
    (λ h. h.doc) is
step_moves w now old (Unlocks file token answer) new (moment, free, same, lock, is) = ap
    (λ h. h.doc) is
step_moves w now old (Releases view link gave) new (free, linked, is) = ap (λ h. h.doc) is
    ∙ release_keeps old view gave
step_moves w now old (Adopts view carried link) new (rest, free, next, is) = ap (λ h. h.doc) is

-- a run of a held document is a run of its machine
pub segment : {D J P L : Type 0} (w : Ways D J P) (old : HeldDocument D J P L)
    (heres : List (ℕ × Here J P L)) (new : HeldDocument D J P L)
    → Run (HeldMove w) old heres new → Run (Moves w) old.doc (moves_of heres) new.doc
segment w old [] new is = ap (λ h. h.doc) is
segment w old (p ∷ heres) new (mid, step, rest) =
    runs (Moves w) old.doc (move_of p.1) (moves_of heres) mid.doc new.doc
    (step_moves w p.0 old p.1 mid step) (segment w mid heres new rest)
