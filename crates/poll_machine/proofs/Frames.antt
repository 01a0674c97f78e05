-- The frames that a held document's events gave out are given to its views, in their order.
use Rattle.std.proofs.Common.{◌≡◌, ℕ, Bool, true, false, List, [], ◌∷◌, ◌++◌, map, Option, None}
use Rattle.std.proofs.Common.{Some, refl, ap, subst, sym, ◌∙◌}
use Rattle.std.specs.Prelude.{⊤, if◌then◌else◌}
use Rattle.net_traits.specs.declared.nets.Given.{Given}
use Rattle.net_traits.specs.declared.nets.Given.TheVariants.{Sent, Failed}
use Rattle.poll_machine.specs.Words.{Event, Ways, Work, Paint, Put, Outs, Answer, PaintDone}
use Rattle.poll_machine.specs.Words.{PutDone}
use Rattle.poll_machine.specs.Agenda.{HeldDocument, Todo, Give, Leave, LetGo, Offer, Hand, Do, Take}
use Rattle.poll_machine.specs.Agenda.{Here, Joins, Did, Gives, Skips, Leaves, Frees, Asks, Offers}
use Rattle.poll_machine.specs.Agenda.{Paints, Puts, Takes, Refreshes, Unlocks, Releases, Adopts}
use Rattle.poll_machine.specs.Agenda.{HeldStep, released, todo_of, after_give}
use Rattle.poll_machine.specs.Project.{HeldMove, move_of, moves_of, frame_of, frames_of}
use Rattle.poll_machine.specs.Project.{frames_owed, frames_out, IsInOrder}
use Rattle.poll_machine.specs.Runs.{Run}

-- nothing behind a list
no_more : {A : Type 0} (xs : List A) → xs ++ [] ≡ xs
no_more [] = refl
no_more (x ∷ xs) = ap (λ ys. x ∷ ys) (no_more xs)

-- lists joined in any grouping
grouped : {A : Type 0} (xs ys zs : List A) → (xs ++ ys) ++ zs ≡ xs ++ (ys ++ zs)
grouped [] ys zs = refl
grouped (x ∷ xs) ys zs = ap (λ rest. x ∷ rest) (grouped xs ys zs)

-- the frames that are owed behind the frames of an event
gives_frames : {J P : Type 0} (frames : List (ℕ × List ℕ)) (works rest : List (Todo J P))
    → frames_owed ((map (λ p. Give p.0 p.1) frames ++ works) ++ rest) ≡ frames
    ++ frames_owed (works ++ rest)
gives_frames [] works rest = refl
gives_frames (f ∷ frames) works rest = ap (λ xs. f ∷ xs) (gives_frames frames works rest)

-- works owe no frames
works_frames : {J P : Type 0} (works : List (Work J)) (rest : List (Todo J P))
    → frames_owed (map (λ work. Offer work) works ++ rest) ≡ frames_owed rest
works_frames [] rest = refl
works_frames (work ∷ works) rest = works_frames works rest

-- what is owed for an event owes its frames
owed_frames : {J P : Type 0} (outs : Outs J) (rest : List (Todo J P))
    → frames_owed (todo_of outs ++ rest) ≡ outs.frames ++ frames_owed rest
owed_frames outs rest =
    gives_frames outs.frames (map (λ work. Offer work) outs.works) rest
    ∙ ap (λ xs. outs.frames ++ xs) (works_frames outs.works rest)

-- works in front of what owes no frames are in order
works_order : {J P : Type 0} (works : List (Work J)) (rest : List (Todo J P))
    → frames_owed rest ≡ [] → IsInOrder rest → IsInOrder (map (λ work. Offer work) works ++ rest)
works_order [] rest none order = order
works_order (work ∷ works) rest none order =
    (works_frames works rest ∙ none, works_order works rest none order)

-- frames in front of what is in order are in order
gives_order : {J P : Type 0} (frames : List (ℕ × List ℕ)) (works rest : List (Todo J P))
    → IsInOrder (works ++ rest) → IsInOrder ((map (λ p. Give p.0 p.1) frames ++ works) ++ rest)
gives_order [] works rest order = order
gives_order (f ∷ frames) works rest order = gives_order frames works rest order

owed_order : {J P : Type 0} (outs : Outs J) (rest : List (Todo J P)) → frames_owed rest ≡ []
    → IsInOrder rest → IsInOrder (todo_of outs ++ rest)
owed_order outs rest none order =
    gives_order outs.frames (map (λ work. Offer work) outs.works) rest
    (works_order outs.works rest none order)

-- from one agenda to another these frames are given, and these come new
abbrev Keeps : {J P : Type 0} → List (Todo J P) → List (ℕ × List ℕ) → List (Todo J P)
    → List (ℕ × List ℕ) → Type 0
Keeps old given new out = IsInOrder old
    → ((given ++ frames_owed new ≡ frames_owed old ++ out) × IsInOrder new)

-- agendas that are equal to these
moved : {J P : Type 0} (old a : List (Todo J P)) (given : List (ℕ × List ℕ))
    (new b : List (Todo J P)) (out : List (ℕ × List ℕ))
    → old ≡ a → new ≡ b → Keeps a given b out → Keeps old given new out
moved old a given new b out e f keeps =
    subst (λ x. Keeps x given new out) (sym e) (subst (λ x. Keeps a given x out) (sym f) keeps)

-- an event comes to a document to which nothing is owed
comes : {J : Type 0} (P : Type 0) (outs : Outs J)
    → Keeps {J = J} {P = P} [] [] (todo_of outs) (outs.frames ++ [])
comes {J} P outs order =
    let nil : todo_of {J = J} {P = P} outs ++ [] ≡ todo_of outs = no_more (todo_of outs) in (
      subst (λ todo. frames_owed todo ≡ outs.frames ++ []) nil (owed_frames outs []),
      subst
          (λ todo. IsInOrder todo) nil (owed_order outs [] refl tt),
    )

-- an answer is taken, from the front
answered : {J P : Type 0} (outs : Outs J) (t : Todo J P) (rest : List (Todo J P))
    → frames_owed (t ∷ rest) ≡ frames_owed rest → frames_owed rest ≡ [] → IsInOrder rest
    → (frames_owed (todo_of outs ++ rest) ≡ frames_owed (t ∷ rest) ++ (outs.frames ++ []))
    × IsInOrder (todo_of outs ++ rest)
answered outs t rest same none order = (
  owed_frames outs rest ∙ ap (λ xs. outs.frames ++ xs) none
      ∙ ap (λ xs. xs ++ (outs.frames ++ [])) (sym (same ∙ none)),
  owed_order outs rest none order,
)

-- a give takes its frame off, and more may be owed in front that has no frame
given_first : {J P : Type 0} (given : Given) (view link : ℕ) (frame : List ℕ)
    (rest : List (Todo J P))
    → Keeps (Give view frame ∷ rest) ((view, frame) ∷ []) (after_give given view link rest) []
given_first Sent view link frame rest order =
    (sym (no_more ((view, frame) ∷ frames_owed rest)), order)
given_first Failed view link frame rest order =
    (sym (no_more ((view, frame) ∷ frames_owed rest)), order)

-- a work is handed on or done here
asked : {J P : Type 0} (spare : Bool) (work : Work J) (rest : List (Todo J P))
    → Keeps (Offer work ∷ rest) [] ((if spare then Hand work else Do work) ∷ rest) []
asked true work rest order = (sym (no_more (frames_owed rest)), order)
asked false work rest order = (sym (no_more (frames_owed rest)), order)

-- a work is kept by the yard or done here
offered : {J P : Type 0} (kept : Bool) (work : Work J) (rest : List (Todo J P))
    → Keeps (Hand work ∷ rest) [] (if kept then rest else Do work ∷ rest) []
offered true work rest order = (sym (no_more (frames_owed rest)), order.1)
offered false work rest order = (sym (no_more (frames_owed rest)), order)

-- a release owes a leave or nothing
let_go : {D J P L : Type 0} (h : HeldDocument D J P L) (view : ℕ) (gave : Option L) → h.todo ≡ []
    → Keeps h.todo [] (released h view gave).todo []
let_go h view None free = moved h.todo [] [] (Leave view ∷ []) (Leave view ∷ []) [] free refl
    (λ order. (refl, tt))
let_go h view (Some carried) free = moved h.todo [] [] h.todo [] [] free free (λ order. (refl, tt))

-- one step of a held document
step_frames : {D J P L : Type 0} (w : Ways D J P) (now : ℕ) (old : HeldDocument D J P L)
    (here : Here J P L) (new : HeldDocument D J P L)
    → HeldStep w now old here new
    → Keeps old.todo (frame_of here) new.todo (frames_out (move_of here))
step_frames w now old (Joins link rights outs) new (doc, free, room, step, is) =
    moved old.todo [] [] new.todo (todo_of outs) (outs.frames ++ []) free (ap (λ h. h.todo) is)
    (comes _ outs)
step_frames w now old (Did event outs) new (doc, free, plain, step, is) =
    moved old.todo [] [] new.todo (todo_of outs) (outs.frames ++ []) free (ap (λ h. h.todo) is)
    (comes _ outs)
step_frames w now old (Gives view link frame given) new (rest, next, linked, is) =
    moved old.todo (Give view frame ∷ rest) ((view, frame) ∷ []) new.todo
    (after_give given view link rest) [] next (ap (λ h. h.todo) is)
    (given_first given view link frame rest)
step_frames w now old (Skips view frame) new (rest, next, linked, is) =
    moved old.todo (Give view frame ∷ rest) ((view, frame) ∷ []) new.todo rest [] next
    (ap (λ h. h.todo) is)
    (λ order. (sym (no_more ((view, frame) ∷ frames_owed rest)), order))
step_frames w now old (Leaves view) new (rest, doc, next, step, is) =
    moved old.todo (Leave view ∷ rest) [] new.todo rest [] next (ap (λ h. h.todo) is)
    (λ order. (sym (no_more (frames_owed rest)), order))
step_frames w now old (Frees link gave) new (rest, next, is) =
    moved old.todo (LetGo link ∷ rest) [] new.todo rest [] next (ap (λ h. h.todo) is)
    (λ order. (sym (no_more (frames_owed rest)), order))
step_frames w now old (Asks spare) new (rest, work, next, is) =
    moved old.todo (Offer work ∷ rest) [] new.todo
    ((if spare then Hand work else Do work) ∷ rest) [] next (ap (λ h. h.todo) is)
    (asked spare work rest)
step_frames w now old (Offers work kept) new (rest, next, is) =
    moved old.todo (Hand work ∷ rest) [] new.todo (if kept then rest else Do work ∷ rest) [] next
    (ap (λ h. h.todo) is) (offered kept work rest)
step_frames w now old (Paints job) new (rest, next, is) =
    moved old.todo (Do (Paint job) ∷ rest) [] new.todo
    (Take (PaintDone (w.paints job)) ∷ rest) [] next (ap (λ h. h.todo) is)
    (λ order. (sym (no_more (frames_owed rest)), order))
step_frames w now old (Puts errand answer) new (rest, next, is) =
    moved old.todo (Do (Put errand) ∷ rest) [] new.todo
    (Take (PutDone errand.ticket.0 answer) ∷ rest) [] next (ap (λ h. h.todo) is)
    (λ order. (sym (no_more (frames_owed rest)), order))
step_frames w now old (Takes answer outs) new (rest, doc, next, step, is) =
    moved old.todo (Take answer ∷ rest) [] new.todo (todo_of outs ++ rest) (outs.frames ++ []) next
    (ap (λ h. h.todo) is)
    (λ order. answered outs (Take answer) rest refl order.0 order.1)
step_frames w now old (Refreshes file token answer) new (moment, free, same, lock, is) =
    moved old.todo [] [] new.todo [] [] free (ap (λ h. h.todo) is ∙ free) (λ order. (refl, tt))
step_frames w now old (Unlocks file token answer) new (moment, free, same, lock, is) =
    moved old.todo [] [] new.todo [] [] free (ap (λ h. h.todo) is ∙ free) (λ order. (refl, tt))
step_frames w now old (Releases view link gave) new (free, linked, is) =
    subst (λ t. Keeps old.todo [] t []) (sym (ap (λ h. h.todo) is)) (let_go old view gave free)
step_frames w now old (Adopts view carried link) new (rest, free, next, is) =
    moved old.todo [] [] new.todo [] [] free (ap (λ h. h.todo) is ∙ free) (λ order. (refl, tt))

-- the frames of moves behind moves
out_more : {J P : Type 0} (a b : List (Event P × Outs J))
    → frames_out (a ++ b) ≡ frames_out a ++ frames_out b
out_more [] b = refl
out_more (move ∷ a) b = ap (λ xs. move.1.frames ++ xs) (out_more a b)
    ∙ sym (grouped move.1.frames (frames_out a) (frames_out b))

-- a run of a held document: the frames that are given or skipped, and those that are still owed,
-- are those that were owed and those that its moves gave out, in order
pub in_order : {D J P L : Type 0} (w : Ways D J P) (old : HeldDocument D J P L)
    (heres : List (ℕ × Here J P L)) (new : HeldDocument D J P L)
    → Run (HeldMove w) old heres new → IsInOrder old.todo
    → frames_of heres ++ frames_owed new.todo ≡ frames_owed old.todo
    ++ frames_out (moves_of heres)
in_order w old [] new is order = ap (λ h. frames_owed h.todo) is
    ∙ sym (no_more (frames_owed old.todo))
in_order w old (p ∷ heres) new (mid, step, rest) order =
    let one : (frame_of p.1 ++ frames_owed mid.todo ≡ frames_owed old.todo
    ++ frames_out (move_of p.1))
    × IsInOrder mid.todo = step_frames w p.0 old p.1 mid step order in
    grouped (frame_of p.1) (frames_of heres) (frames_owed new.todo)
    ∙ ap (λ xs. frame_of p.1 ++ xs) (in_order w mid heres new rest one.1)
    ∙ sym (grouped (frame_of p.1) (frames_owed mid.todo) (frames_out (moves_of heres)))
    ∙ ap (λ xs. xs ++ frames_out (moves_of heres)) one.0
    ∙ grouped (frames_owed old.todo) (frames_out (move_of p.1)) (frames_out (moves_of heres))
    ∙ ap (λ xs. frames_owed old.todo ++ xs) (sym (out_more (move_of p.1) (moves_of heres)))

-- the same from a state in which nothing is owed
pub from_nothing : {D J P L : Type 0} (w : Ways D J P) (old : HeldDocument D J P L)
    (heres : List (ℕ × Here J P L)) (new : HeldDocument D J P L)
    → Run (HeldMove w) old heres new → old.todo ≡ []
    → frames_of heres ++ frames_owed new.todo ≡ frames_out (moves_of heres)
from_nothing w old heres new run free =
    in_order w old heres new run (subst (λ todo. IsInOrder todo) (sym free) tt)
    ∙ ap (λ todo. frames_owed todo ++ frames_out (moves_of heres)) free
