-- What a line of a script writes, and where it leads, is no choice.
use Rattle.std.proofs.Common.{◌≡◌, ◌∙◌, ℕ, List, [], ◌∷◌, ◌++◌, ap, sym, subst}
use Rattle.kit_trait.specs.Rules.{Rules}
use Rattle.tile_key.specs.Places.{Place}
use Rattle.script_lines.specs.Grammar.{Role, Acts, Ends, Refused, role}
use Rattle.script_lines.specs.Positions.{Position}
use Rattle.script_lines.specs.declared.saying.ScriptLine.{ScriptLine}
use Rattle.script_lines.specs.declared.saying.ScriptLine.TheVariants.{Open, Say, Keys, Leave, Turn, Settle, Blank, End}
use Rattle.script_run.specs.Determined.{StepsOnce, StaysGood}
use Rattle.script_world.specs.House.{IsHoused}
use Rattle.script_world.specs.World.{Seen, Turned, Settled}
use Rattle.cool_script.specs.Script.{Standing, IsGood, Does, DoesBy, Acting}

module _ {C B S : Type 0} (rules : Rules C B) (cut : C → Place → S) where
  -- what the world's laws say of turns and of settling
  abbrev pub TurnsOnce : Type 0
  TurnsOnce = (count : ℕ) (s t u : Seen S) (a b : List ℕ) → IsHoused rules cut s.house → Turned rules cut count s a t → Turned rules cut count s b u → (a ≡ b) × (t ≡ u)

  abbrev pub TurnsHoused : Type 0
  TurnsHoused = (count : ℕ) (s t : Seen S) (a : List ℕ) → IsHoused rules cut s.house → Turned rules cut count s a t → IsHoused rules cut t.house

  abbrev pub SettlesOnce : Type 0
  SettlesOnce = (s t u : Seen S) (a b : List ℕ) → IsHoused rules cut s.house → Settled rules cut s a t → Settled rules cut s b u → (a ≡ b) × (t ≡ u)

  abbrev pub SettlesHoused : Type 0
  SettlesHoused = (s t : Seen S) (a : List ℕ) → IsHoused rules cut s.house → Settled rules cut s a t → IsHoused rules cut t.house

  does_once : TurnsOnce → SettlesOnce → (said : ScriptLine) (s t u : Seen S) (a b : List ℕ) → IsHoused rules cut s.house → Does rules cut said s a t → Does rules cut said s b u → (a ≡ b) × (t ≡ u)
  does_once turns settles (Open link file writes) s t u a b housed one other = (one.0 ∙ sym other.0, one.1 ∙ sym other.1)
  does_once turns settles (Say link message) s t u a b housed one other = (one.0 ∙ sym other.0, one.1 ∙ sym other.1)
  does_once turns settles (Keys link typed) s t u a b housed one other = (one.0 ∙ sym other.0, one.1 ∙ sym other.1)
  does_once turns settles (Leave link) s t u a b housed one other = (one.0 ∙ sym other.0, one.1 ∙ sym other.1)
  does_once turns settles (Turn count) s t u a b housed one other = turns count s t u a b housed one other
  does_once turns settles Settle s t u a b housed one other = settles s t u a b housed one other
  does_once turns settles Blank s t u a b housed one other = (one.0 ∙ sym other.0, one.1 ∙ sym other.1)
  does_once turns settles End s t u a b housed one other = (one.0 ∙ sym other.0, one.1 ∙ sym other.1)

  does_housed : TurnsHoused → SettlesHoused → (said : ScriptLine) (s t : Seen S) (a : List ℕ) → IsHoused rules cut s.house → Does rules cut said s a t → IsHoused rules cut t.house
  does_housed turns settles (Open link file writes) s t a housed does = subst (λ (x : Seen S). IsHoused rules cut x.house) (sym does.1) housed
  does_housed turns settles (Say link message) s t a housed does = subst (λ (x : Seen S). IsHoused rules cut x.house) (sym does.1) housed
  does_housed turns settles (Keys link typed) s t a housed does = subst (λ (x : Seen S). IsHoused rules cut x.house) (sym does.1) housed
  does_housed turns settles (Leave link) s t a housed does = subst (λ (x : Seen S). IsHoused rules cut x.house) (sym does.1) housed
  does_housed turns settles (Turn count) s t a housed does = turns count s t a housed does
  does_housed turns settles Settle s t a housed does = settles s t a housed does
  does_housed turns settles Blank s t a housed does = subst (λ (x : Seen S). IsHoused rules cut x.house) (sym does.1) housed
  does_housed turns settles End s t a housed does = subst (λ (x : Seen S). IsHoused rules cut x.house) (sym does.1) housed

  same_standing : (s t : Standing S) → s.world ≡ t.world → s.position ≡ t.position → s ≡ t
  same_standing s t world position =
      ap (λ (w : Seen S). record { position = s.position; world = w }) world ∙ ap (λ (p : Position). record { position = p; world = t.world }) position

  does_by_once : TurnsOnce → SettlesOnce → (v : Role) (s : Seen S) (t u : Standing S) (a b : List ℕ) → IsHoused rules cut s.house → DoesBy rules cut v s a t → DoesBy rules cut v s b u → (a ≡ b) × (t ≡ u)
  does_by_once turns settles (Acts line position) s t u a b housed one other =
      let same = does_once turns settles line s t.world u.world a b housed one.0 other.0 in
      (same.0, same_standing t u same.1 (one.1 ∙ sym other.1))
  does_by_once turns settles Ends s t u a b housed one other = absurd one
  does_by_once turns settles Refused s t u a b housed one other = absurd one

  does_by_housed : TurnsHoused → SettlesHoused → (v : Role) (s : Seen S) (t : Standing S) (a : List ℕ) → IsHoused rules cut s.house → DoesBy rules cut v s a t → IsHoused rules cut t.world.house
  does_by_housed turns settles (Acts line position) s t a housed does = does_housed turns settles line s t.world a housed does.0
  does_by_housed turns settles Ends s t a housed does = absurd does
  does_by_housed turns settles Refused s t a housed does = absurd does

  -- a line that acts from a good state writes one thing and leads to one state
  pub acting_once : TurnsOnce → SettlesOnce → StepsOnce (Acting rules cut) (IsGood rules cut)
  unfolding Acting
  acting_once turns settles = λ s t u line a b good one other. does_by_once turns settles (role s.position line) s.world t u a b good one other

  -- and that one is good
  pub acting_good : TurnsHoused → SettlesHoused → StaysGood (Acting rules cut) (IsGood rules cut)
  unfolding Acting
  acting_good turns settles = λ s t line a good does. does_by_housed turns settles (role s.position line) s.world t a good does
