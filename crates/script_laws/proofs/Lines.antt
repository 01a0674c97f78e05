-- The transcript through moves, lines and whole scripts.
use Rattle.std.proofs.Common.{◌≡◌, ◌∙◌, ℕ, true, List, [], ◌∷◌, ◌++◌, Option, refl, sym, ap, subst, append_assoc}
use Rattle.document_machine.specs.Held.{Held}
use Rattle.kit_trait.specs.Rules.{Rules}
use Rattle.tile_key.specs.Places.{Place}
use Rattle.script_lines.specs.Grammar.{Role, Acts, Ends, Refused, role}
use Rattle.script_lines.specs.declared.saying.ScriptLine.{ScriptLine}
use Rattle.script_lines.specs.declared.saying.ScriptLine.TheVariants.{Open, Say, Keys, Leave, Turn as TurnLine, Settle, Blank, End}
use Rattle.script_run.specs.Transcript.{Runs}
use Rattle.script_world.specs.House.{IsHoused, acknowledgements}
use Rattle.script_world.specs.Seats.{Seats}
use Rattle.script_world.specs.World.{Seen, Move, Turn, Acknowledge, Moves, Chain, turns, Begun}
use Rattle.script_world.specs.declared.event.Waiting.{Waiting}
use Rattle.script_world.proofs.Housed.{Keeps, poll_housed}
use Rattle.cool_script.specs.Script.{Standing, first, Does, Doing, DoesBy, DoingBy, Acting, UnderWay}
use Rattle.script_laws.specs.Played.{IsPlayed}
use Rattle.script_laws.proofs.Held.{Holds, nothing_yet, silent}
use Rattle.script_laws.proofs.Turns.{poll_held}

-- the lines before the last one, and the last one
pub last_of : {X : Type 0} (step : X → List ℕ → List ℕ → X → Type 0) (s : X) (lines : List (List ℕ)) (line out : List ℕ) (t : X) → Runs step s (lines ++ line ∷ []) out t → (mid : X) × (here : List ℕ) × step mid line here t
last_of {X} step s [] line out t runs = (s, runs.1, subst (λ (x : X). step s line runs.1 x) (sym runs.4.1) runs.3)
last_of step s (other ∷ lines) line out t runs = last_of step runs.0 lines line runs.2 t runs.4

module _ {C B S : Type 0} (rules : Rules C B) (cut : C → Place → S) (keeps : Keeps rules cut) where
  -- the transcript so far, to a world whose document's views have links
  pub record IsSound (before : List ℕ) (s : Seen S) : Type 0 where
    pub housed : IsHoused rules cut s.house
    pub held : Holds rules cut before s.house

  -- another world, and what was written to come to it
  moved : (before out bytes : List ℕ) (s t : Seen S) → out ≡ bytes → t ≡ s → IsSound (before ++ bytes) s → IsSound (before ++ out) t
  moved before out bytes s t is same sound =
      subst (λ (x : List ℕ). IsSound (before ++ x) t) (sym is) (subst (IsSound (before ++ bytes)) (sym same) sound)

  -- nothing is written, and more waits
  waits : (before : List ℕ) (s : Seen S) (waiting : List Waiting) → IsSound before s → IsSound (before ++ []) (record s { waiting = waiting })
  waits before s waiting sound = record { housed = sound.housed; held = silent rules cut before s.house.seats s.house.document sound.held }

  move_sound : (before : List ℕ) (move : Move) (s : Seen S) (out : List ℕ) (t : Seen S) → IsSound before s → Moves rules cut move s out t → IsSound (before ++ out) t
  move_sound before Turn s out t sound moves = record {
    housed = poll_housed rules cut keeps s.waiting s.house out true t.waiting t.house sound.housed moves;
    held = poll_held rules cut keeps before s.waiting s.house out true t.waiting t.house sound.housed sound.held moves;
  }
  move_sound before Acknowledge s out t sound moves =
      moved before out [] (record s { waiting = acknowledgements s.house }) t moves.2 moves.3 (waits before s (acknowledgements s.house) sound)

  -- all that was written, in one
  together : (before here later out : List ℕ) (t : Seen S) → out ≡ here ++ later → IsSound ((before ++ here) ++ later) t → IsSound (before ++ out) t
  together before here later out t is sound =
      subst (λ (x : List ℕ). IsSound x t) (append_assoc before here later ∙ ap (λ (x : List ℕ). before ++ x) (sym is)) sound

  chain_sound : (before : List ℕ) (moves : List Move) (s : Seen S) (out : List ℕ) (t : Seen S) → IsSound before s → Chain (Moves rules cut) moves s out t → IsSound (before ++ out) t
  chain_sound before [] s out t sound chain = moved before out [] s t chain.0 chain.1 (waits before s s.waiting sound)
  chain_sound before (move ∷ moves) s out t sound chain =
      together before chain.1 chain.2 out t chain.5 (chain_sound (before ++ chain.1) moves chain.0 chain.2 t (move_sound before move s chain.1 chain.0 sound chain.3) chain.4)

  -- what a line does
  does_sound : (before : List ℕ) (line : ScriptLine) (s : Seen S) (out : List ℕ) (t : Seen S) → IsSound before s → Does rules cut line s out t → IsSound (before ++ out) t
  does_sound before (Open link file writes) s out t sound does = moved before out [] (record s { waiting = _ }) t does.0 does.1 (waits before s _ sound)
  does_sound before (Say link message) s out t sound does = moved before out [] (record s { waiting = _ }) t does.0 does.1 (waits before s _ sound)
  does_sound before (Keys link typed) s out t sound does = moved before out [] (record s { waiting = _ }) t does.0 does.1 (waits before s _ sound)
  does_sound before (Leave link) s out t sound does = moved before out [] (record s { waiting = _ }) t does.0 does.1 (waits before s _ sound)
  does_sound before (TurnLine count) s out t sound does = chain_sound before (turns does.made) s out t sound does.follows
  does_sound before Settle s out t sound does = chain_sound before does.moves s out t sound does.follows
  does_sound before Blank s out t sound does = moved before out [] s t does.0 does.1 (waits before s s.waiting sound)
  does_sound before End s out t sound does = moved before out [] s t does.0 does.1 (waits before s s.waiting sound)

  by_verdict : (before : List ℕ) (v : Role) (s : Seen S) (out : List ℕ) (t : Standing S) → IsSound before s → DoesBy rules cut v s out t → IsSound (before ++ out) t.world
  by_verdict before (Acts line position) s out t sound does = does_sound before line s out t.world sound does.0
  by_verdict before Ends s out t sound does = absurd does
  by_verdict before Refused s out t sound does = absurd does

  acting_sound : (before : List ℕ) (s : Standing S) (line out : List ℕ) (t : Standing S) → IsSound before s.world → Acting rules cut s line out t → IsSound (before ++ out) t.world
  unfolding Acting
  acting_sound before s line out t sound acts = by_verdict before (role s.position line) s.world out t sound acts

  runs_sound : (before : List ℕ) (lines : List (List ℕ)) (s : Standing S) (out : List ℕ) (t : Standing S) → IsSound before s.world → Runs (Acting rules cut) s lines out t → IsSound (before ++ out) t.world
  runs_sound before [] s out t sound runs =
      subst (λ (x : Standing S). IsSound (before ++ out) x.world) (sym runs.1)
      (moved before out [] s.world s.world runs.0 refl (waits before s.world s.world.waiting sound))
  runs_sound before (line ∷ lines) s out t sound runs =
      together before runs.1 runs.2 out t.world runs.5 (runs_sound (before ++ runs.1) lines runs.0 runs.2 t (acting_sound before s line runs.1 runs.0 sound runs.3) runs.4)

  -- a whole script
  pub script_sound : (lines : List (List ℕ)) (out : List ℕ) (t : Standing S) → Runs (Acting rules cut) first lines out t → IsSound out t.world
  script_sound lines out t runs = runs_sound [] lines first out t (record { housed = tt; held = nothing_yet rules cut }) runs

  pub script_played : (lines : List (List ℕ)) (out : List ℕ) (t : Standing S) → Runs (Acting rules cut) first lines out t → IsPlayed rules cut out t.world.house.seats t.world.house.document
  script_played lines out t runs = (script_sound lines out t runs).held

  -- what is made so far
  abbrev pub Played : List ℕ → Type 0
  Played out = (seats : Seats) × (document : Option (Held S)) × IsPlayed rules cut out seats document

  played_at : (before : List ℕ) (s : Seen S) → IsSound before s → Played before
  played_at before s sound = (s.house.seats, s.house.document, sound.held)

  silent_at : (before out : List ℕ) (s : Seen S) → IsSound before s → out ≡ [] → Played (before ++ out)
  silent_at before out s sound is = played_at (before ++ out) s (moved before out [] s s is refl (waits before s s.waiting sound))

  begun_at : (before out : List ℕ) (s : Seen S) → IsSound before s → Begun rules cut s out → Played (before ++ out)
  begun_at before out s sound begun = played_at (before ++ out) begun.mid (chain_sound before begun.moves s out begun.mid sound begun.follows)

  doing_played : (before : List ℕ) (line : ScriptLine) (s : Seen S) (out : List ℕ) → IsSound before s → Doing rules cut line s out → Played (before ++ out)
  doing_played before (Open link file writes) s out sound doing = silent_at before out s sound doing
  doing_played before (Say link message) s out sound doing = silent_at before out s sound doing
  doing_played before (Keys link typed) s out sound doing = silent_at before out s sound doing
  doing_played before (Leave link) s out sound doing = silent_at before out s sound doing
  doing_played before (TurnLine count) s out sound doing = begun_at before out s sound doing
  doing_played before Settle s out sound doing = begun_at before out s sound doing
  doing_played before Blank s out sound doing = silent_at before out s sound doing
  doing_played before End s out sound doing = silent_at before out s sound doing

  doing_by : (before : List ℕ) (v : Role) (s : Seen S) (out : List ℕ) → IsSound before s → DoingBy rules cut v s out → Played (before ++ out)
  doing_by before (Acts line position) s out sound doing = doing_played before line s out sound doing
  doing_by before Ends s out sound doing = absurd doing
  doing_by before Refused s out sound doing = absurd doing

  under_way : (before : List ℕ) (s : Standing S) (line out : List ℕ) → IsSound before s.world → UnderWay rules cut s line out → Played (before ++ out)
  unfolding UnderWay
  under_way before s line out sound doing = doing_by before (role s.position line) s.world out sound doing

  -- a script, and a line behind it that is under way
  pub script_under_way : (lines : List (List ℕ)) (line out more : List ℕ) (t : Standing S) → Runs (Acting rules cut) first lines out t → UnderWay rules cut t line more → Played (out ++ more)
  script_under_way lines line out more t runs doing = under_way out t line more (script_sound lines out t runs) doing

  -- a script, and a line behind it that acts
  pub script_acting : (lines : List (List ℕ)) (line out more : List ℕ) (s t : Standing S) → Runs (Acting rules cut) first lines out s → Acting rules cut s line more t → Played (out ++ more)
  script_acting lines line out more s t runs acts = played_at (out ++ more) t.world (acting_sound out s line more t (script_sound lines out s runs) acts)
