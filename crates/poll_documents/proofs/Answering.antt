-- The answer to a work comes to what is held under an id.
use Rattle.std.proofs.Common.{◌≡◌, ℕ, ◌+◌, Bool, false, List, ◌∷◌, ◌++◌, Result, IsOk, refl, subst}
use Rattle.std.proofs.Common.{sym}
use Rattle.cool_base.specs.declared.want.Memory.{Memory}
use Rattle.net_traits.specs.Nets.{LinkEvent}
use Rattle.poll_machine.specs.Words.{Answer, PaintDone, PutDone, Outs, Ways, event_of}
use Rattle.poll_machine.specs.Agenda.{HeldDocument, Did}
use Rattle.poll_machine.specs.House.{Slot, Live, House, Happens, Rises, Answered}
use Rattle.poll_machine.specs.Plans.{Plan}
use Rattle.poll_machine.specs.Told.{Heard}
use Rattle.poll_machine.specs.Turn.{did, reads, is_done_here}
use Rattle.poll_machine.proofs.Lifted.{found}
use Rattle.poll_documents.specs.Befalling.{Befalls}
use Rattle.poll_documents.specs.Doing.{Does, count_of, in_house}
use Rattle.poll_documents.proofs.Doing.{does_live}
use Rattle.poll_documents.proofs.Turning.{befalls_there}

-- an answer is by itself nothing that a turn did
quiet : {J P : Type 0} (L : Type 0) (answer : Answer P) (outs : Outs J)
    → is_done_here {L = L} (Did (event_of answer) outs) ≡ false
quiet L (PaintDone result) outs = refl
quiet L (PutDone ticket answer) outs = refl

-- it comes to a document that is held
answered_there : {D J P L : Type 0} (w : Ways D J P) (carries : L → List LinkEvent)
    (house : House D J P L) (front back : List (ℕ × Slot D J P L)) (id : ℕ)
    (old : HeldDocument D J P L) (answer : Answer P) (before : Heard D J P L)
    (result : Result ℕ Memory) (new : HeldDocument D J P L) (after : Heard D J P L)
    → Rises (front ++ (id, Live old) ∷ back)
    → Befalls w carries id house.moment old (event_of answer) before result new after
    → Does w carries (reads w id (Answered answer))
    (in_house house front (id, Live old) back house.ended) before (IsOk result) false
    (in_house house front (id, Live new) back (house.ended + count_of result)) after
answered_there {D} {J} {P} {L} w carries house front back id old answer before result new after
    rises
    befell =
    does_live w carries id (λ held. did id (event_of answer)) old
    (in_house house front (id, Live old) back house.ended) before (IsOk result) false
    (in_house house front (id, Live new) back (house.ended + count_of result)) after
    (found front id (Live old) back rises)
    (befalls_there w carries house front back id old (event_of answer) before result new after false
    rises (λ outs. quiet L answer outs) befell)

-- the same of what is kept, at the moment of its house
pub answered_kept : {D J P L : Type 0} (w : Ways D J P) (carries : L → List LinkEvent)
    (house : House D J P L) (front back : List (ℕ × Slot D J P L)) (id moment : ℕ)
    (slot : Slot D J P L) (old : HeldDocument D J P L) (answer : Answer P) (before : Heard D J P L)
    (result : Result ℕ Memory) (new : HeldDocument D J P L) (after : Heard D J P L)
    → house.moment ≡ moment → slot ≡ Live old → Rises (front ++ (id, slot) ∷ back)
    → Befalls w carries id moment old (event_of answer) before result new after
    → Does w carries (reads w id (Answered answer))
    (in_house house front (id, slot) back house.ended) before (IsOk result) false
    (in_house house front (id, Live new) back (house.ended + count_of result)) after
answered_kept {D} {J} {P} {L} w carries house front back id moment slot old answer before result new
    after same is rises befell =
    subst
    (λ (s : Slot D J P L). Rises (front ++ (id, s) ∷ back)
    → Does w carries (reads w id (Answered answer)) (in_house house front (id, s) back house.ended)
    before (IsOk result) false
    (in_house house front (id, Live new) back (house.ended + count_of result)) after)
    (sym is)
    (λ (there : Rises (front ++ (id, Live old) ∷ back)).
    answered_there w carries house front back id old answer before result new after there
    (subst (λ (m : ℕ). Befalls w carries id m old (event_of answer) before result new after)
    (sym same) befell))
    rises

-- a plan for what is held under an id is carried out where that stands by another spelling
pub does_lodged : {D J P L : Type 0} (w : Ways D J P) (carries : L → List LinkEvent)
    (plan : ℕ → Plan (House D J P L) (Happens D J P L)) (house : House D J P L)
    (front back : List (ℕ × Slot D J P L)) (p q : ℕ × Slot D J P L) (before : Heard D J P L)
    (fine : Type 0) (worked : Bool) (new : House D J P L) (after : Heard D J P L)
    → p ≡ q
    → (Rises (front ++ p ∷ back)
    → Does w carries (plan p.0) (in_house house front p back house.ended) before fine worked new
    after)
    → Rises (front ++ q ∷ back)
    → Does w carries (plan q.0) (in_house house front q back house.ended) before fine worked new
    after
does_lodged {D} {J} {P} {L} w carries plan house front back p q before fine worked new after same
    all =
    subst
    (λ (x : ℕ × Slot D J P L). Rises (front ++ x ∷ back)
    → Does w carries (plan x.0) (in_house house front x back house.ended) before fine worked new
    after)
    same all
