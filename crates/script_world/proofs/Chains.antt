-- Moves one after the other, with what they wrote to a sink, over any kind of move.
use Rattle.std.proofs.Common.{◌≡◌, ◌∙◌, ℕ, List, [], ◌∷◌, ◌++◌, refl, ap, sym, subst, append_assoc, arith, Option}
use Rattle.std.proofs.lemmas.List.{append-nil}
use Rattle.outside.specs.Causes.{HasCause}
use Rattle.outside.specs.Streams.{Adds}
use Rattle.script_lines.specs.Records.{AddsPart}
use Rattle.script_lines.specs.declared.output.Stop.{Stop}
use Rattle.script_lines.specs.declared.output.Stop.TheVariants.{Sink, Memory as NoMemory}
use Rattle.script_run.specs.Play.{Stopped}
use Rattle.script_run.proofs.Moves.{adds_more, adds_nothing, adds_same}
use Rattle.script_world.specs.Moved.{Came, MadeFrom}
use Rattle.script_world.specs.World.{Chain}

pub came_nowhere : {M X : Type 0} (step : M → X → List ℕ → X → Type 0) (s : X) (sink : Option (List ℕ)) → Came step s s sink sink
came_nowhere step s sink = record { moves = []; out = []; chain = (refl, refl); added = adds_nothing sink }

pub chain_joined : {M X : Type 0} (step : M → X → List ℕ → X → Type 0) (s : X) (moves : List M) (a : List ℕ) (mid : X) (others : List M) (b : List ℕ) (t : X)
    → Chain step moves s a mid → Chain step others mid b t → Chain step (moves ++ others) s (a ++ b) t
chain_joined step s [] a mid others b t first later =
    let here : Chain step others s b t = subst (λ x. Chain step others x b t) first.1 later in
    subst (λ (o : List ℕ). Chain step others s o t) (ap (λ (xs : List ℕ). xs ++ b) (sym first.0)) here
chain_joined step s (m ∷ moves) a mid others b t first later =
    (first.0, first.1, first.2 ++ b, first.3, chain_joined step first.0 moves first.2 mid others b t first.4 later, ap (λ (xs : List ℕ). xs ++ b) first.5 ∙ append_assoc first.1 first.2 b)

-- one move is a chain
pub chain_one : {M X : Type 0} (step : M → X → List ℕ → X → Type 0) (move : M) (s : X) (out : List ℕ) (t : X) → step move s out t → Chain step (move ∷ []) s out t
chain_one step move s out t is = (t, out, [], is, (refl, refl), sym (append-nil out))

pub came_joined : {M X : Type 0} (step : M → X → List ℕ → X → Type 0) (s mid t : X) (a b c : Option (List ℕ)) → Came step s mid a b → Came step mid t b c → Came step s t a c
came_joined step s mid t a b c first later = record {
  moves = first.moves ++ later.moves;
  out = first.out ++ later.out;
  chain = chain_joined step s first.moves first.out mid later.moves later.out t first.chain later.chain;
  added = adds_more a b c first.out later.out first.added later.added;
}

pub came_one : {M X : Type 0} (step : M → X → List ℕ → X → Type 0) (move : M) (s : X) (out : List ℕ) (t : X) (a b : Option (List ℕ)) → step move s out t → Adds a out b → Came step s t a b
came_one step move s out t a b is added = record { moves = move ∷ []; out = out; chain = chain_one step move s out t is; added = added }

-- stopped further on, as stopped from the start
pub stopped_later : {M X : Type 0} (step : M → X → List ℕ → X → Type 0) (s mid : X) (a b c : Option (List ℕ)) (stop : Stop) → Came step s mid a b → Stopped stop (MadeFrom step mid) b c → Stopped stop (MadeFrom step s) a c
stopped_later step s mid a b c Sink first later =
    let made = later.is_made in
    record {
      made = first.out ++ later.made;
      part = first.out ++ later.part;
      is_made = (first.moves ++ made.0, made.1, chain_joined step s first.moves first.out mid made.0 later.made made.1 first.chain made.2);
      cut = record { behind = later.cut.behind; is = ap (λ (xs : List ℕ). first.out ++ xs) later.cut.is ∙ sym (append_assoc first.out later.part later.cut.behind); more = later.cut.more };
      added = adds_more a b c first.out later.part first.added later.added;
    }
stopped_later step s mid a b c NoMemory first later =
    let made = later.is_made in
    record {
      made = first.out ++ later.made;
      part = first.out ++ later.part;
      is_made = (first.moves ++ made.0, made.1, chain_joined step s first.moves first.out mid made.0 later.made made.1 first.chain made.2);
      cut = record { behind = later.cut.behind; is = ap (λ (xs : List ℕ). first.out ++ xs) later.cut.is ∙ sym (append_assoc first.out later.part later.cut.behind) };
      added = adds_more a b c first.out later.part first.added later.added;
    }

-- no memory, and nothing was written
pub stopped_here : {M X : Type 0} (step : M → X → List ℕ → X → Type 0) (s : X) (a b : Option (List ℕ)) (stop : Stop) → stop ≡ NoMemory → b ≡ a → Stopped stop (MadeFrom step s) a b
stopped_here {M} {X} step s a b stop is same = subst (λ (x : Stop). Stopped x (MadeFrom step s) a b) (sym is) (record {
  made = [];
  part = [];
  is_made = ([], s, (refl, refl));
  cut = record { behind = []; is = refl };
  added = adds_same a b same;
})

-- the sink failed while a move's records were written
pub stopped_writing : {M X : Type 0} (step : M → X → List ℕ → X → Type 0) (move : M) (s : X) (out : List ℕ) (t : X) (a b : Option (List ℕ)) (stop : Stop) → step move s out t → stop ≡ Sink → AddsPart a out b → Stopped stop (MadeFrom step s) a b
stopped_writing {M} {X} step move s out t a b stop made is part = subst (λ (x : Stop). Stopped x (MadeFrom step s) a b) (sym is) (record {
  made = out;
  part = part.part;
  is_made = (move ∷ [], t, chain_one step move s out t made);
  cut = record { behind = part.behind; is = part.is; more = part.more };
  added = part.added;
})

-- a count that stayed where nothing failed
pub no_cause : (a b : ℕ) (Failed : Type 0) → b ≡ a → (Failed → ⊥) → HasCause a b Failed
no_cause a b Failed same not = record { later = omega (arith, same); failed = λ f. absurd (not f); kept = λ _. same }

-- the same cause by another name
pub cause_as : (a b : ℕ) (P Q : Type 0) → (P → Q) → (Q → P) → HasCause a b P → HasCause a b Q
cause_as a b P Q to from cause = record { later = cause.later; failed = λ q. cause.failed (from q); kept = λ not. cause.kept (λ p. not (to p)) }
