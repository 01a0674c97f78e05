-- Reads, writes and lines one after the other.
use Rattle.std.proofs.Common.{◌≡◌, ◌∙◌, ℕ, List, [], ◌∷◌, ◌++◌, refl, ap, sym, subst, append_assoc, Option, None, Some}
use Rattle.std.specs.List.{AllByRecursion}
use Rattle.std.proofs.lemmas.List.{append-nil}
use Rattle.outside.specs.Streams.{Takes, Adds}
use Rattle.script_lines.specs.Lines.{IsLine, joined}
use Rattle.script_run.specs.Transcript.{Runs}

pub takes_more : (old mid new : Option (List ℕ)) (a b : List ℕ) → Takes old a mid → Takes mid b new → Takes old (a ++ b) new
takes_more old mid None a b first later = let e : mid ≡ None = later in rw e at first
takes_more old mid (Some rest) a b first later =
    let e : mid ≡ Some (b ++ rest) = later in
    let f : old ≡ Some (a ++ (b ++ rest)) = rw e at first in
    rw append_assoc f

pub adds_more : (old mid new : Option (List ℕ)) (a b : List ℕ) → Adds old a mid → Adds mid b new → Adds old (a ++ b) new
adds_more None mid new a b first later = let e : mid ≡ None = first in rw e at later
adds_more (Some before) mid new a b first later =
    let e : mid ≡ Some (before ++ a) = first in
    let f : new ≡ Some ((before ++ a) ++ b) = rw e at later in
    rw (← append_assoc) f

pub takes_nothing : (old : Option (List ℕ)) → Takes old [] old
takes_nothing None = refl
takes_nothing (Some rest) = refl

pub adds_nothing : (old : Option (List ℕ)) → Adds old [] old
adds_nothing None = refl
adds_nothing (Some before) = ap (λ (b : List ℕ). Some b) (sym (append-nil before))

-- a sink that is as it was got nothing
pub adds_same : (old new : Option (List ℕ)) → new ≡ old → Adds old [] new
adds_same old new same = same ∙ adds_nothing old

pub joined_more : (lines : List (List ℕ)) (line : List ℕ) → joined (lines ++ line ∷ []) ≡ joined lines ++ (line ++ 10 ∷ [])
joined_more [] line = refl
joined_more (l ∷ lines) line = ap (λ (xs : List ℕ). l ++ 10 ∷ xs) (joined_more lines line) ∙ sym (append_assoc l (10 ∷ joined lines) (line ++ 10 ∷ []))

pub each_more : (lines : List (List ℕ)) (line : List ℕ) → AllByRecursion IsLine lines → IsLine line → AllByRecursion IsLine (lines ++ line ∷ [])
each_more [] line all one = (one, all)
each_more (l ∷ lines) line all one = (all.0, each_more lines line all.1 one)

pub runs_more : {X : Type 0} (step : X → List ℕ → List ℕ → X → Type 0) (s : X) (lines : List (List ℕ)) (a : List ℕ) (mid : X) (line b : List ℕ) (t : X)
    → Runs step s lines a mid → step mid line b t → Runs step s (lines ++ line ∷ []) (a ++ b) t
runs_more step s [] a mid line b t ran one =
    let here : step s line b t = subst (λ x. step x line b t) ran.1 one in
    (t, b, [], here, (refl, refl), ap (λ (xs : List ℕ). xs ++ b) ran.0 ∙ sym (append-nil b))
runs_more step s (l ∷ lines) a mid line b t ran one =
    (ran.0, ran.1, ran.2 ++ b, ran.3, runs_more step ran.0 lines ran.2 mid line b t ran.4 one, ap (λ (xs : List ℕ). xs ++ b) ran.5 ∙ append_assoc ran.1 ran.2 b)
