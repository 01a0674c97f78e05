-- Runs joined.
use Rattle.std.proofs.Common.{◌≡◌, List, [], ◌∷◌, ◌++◌, refl, append_assoc, append-nil}
use Rattle.kit_trait.specs.Rules.{Rules}
use Rattle.tile_key.specs.Places.{Place}
use Rattle.document_machine.specs.Event.{Event}
use Rattle.document_machine.specs.Outputs.{nothing, joined}
use Rattle.document_machine.specs.Run.{Run, Segment}
use Rattle.document_machine.specs.State.{Document}
use Rattle.document_machine.specs.Step.{Step}
use Rattle.document_machine.specs.declared.outs.Outs.{Outs}

-- nothing before what is given out
pub nothing_first : {S : Type 0} (outs : Outs S) → joined nothing outs ≡ outs
nothing_first outs = refl

-- nothing behind it
pub nothing_last : {S : Type 0} (outs : Outs S) → joined outs nothing ≡ outs
nothing_last outs = simp append-nil

-- what is given out is joined in any grouping
pub joined_assoc : {S : Type 0} (a b c : Outs S) → joined (joined a b) c ≡ joined a (joined b c)
joined_assoc a b c = simp append_assoc

-- a run behind a run is a run, whatever its moves are
pub runs : {E S X : Type 0} (Moves : X → E → Outs S → X → Type 0) (old : X) (es fs : List E) (a b : Outs S) (mid new : X)
    → Run Moves old es a mid → Run Moves mid fs b new → Run Moves old (es ++ fs) (joined a b) new
runs Moves old [] fs a b mid new (a_is, mid_is) later =
    rw (a_is, nothing_first b) (rw mid_is at later)
runs Moves old (e ∷ es) fs a b mid new (next, first, rest, move, run, is) later =
    (next, first, joined rest b, move, runs Moves next es fs rest b mid new run later, rw (is, joined_assoc first rest b) refl)

-- the same of a document
pub segments : {C B S : Type 0} (rules : Rules C B) (cut : C → Place → S) (old : Document S) (es fs : List (Event S))
    (a b : Outs S) (mid new : Document S)
    → Segment rules cut old es a mid → Segment rules cut mid fs b new → Segment rules cut old (es ++ fs) (joined a b) new
segments rules cut old es fs a b mid new = runs (Step rules cut) old es fs a b mid new
