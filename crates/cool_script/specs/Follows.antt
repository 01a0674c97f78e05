-- A line acts only where the grammar lets it, and the script then stands where the grammar says.
use Rattle.std.specs.Prelude.{ℕ, ◌≡◌, List, Some}
use Rattle.std.proofs.Common.{ap, sym}
use Rattle.kit_trait.specs.Rules.{Rules}
use Rattle.tile_key.specs.Places.{Place}
use Rattle.script_lines.specs.Grammar.{Role, Acts, Ends, Refused, role, followed}
use Rattle.script_world.specs.World.{Seen}
use Rattle.cool_script.specs.Script.{Standing, Acting, DoesBy}

pub does_follows : {C B S : Type 0} (rules : Rules C B) (cut : C → Place → S) (v : Role) (world : Seen S) (out : List ℕ) (t : Standing S)
    → DoesBy rules cut v world out t → followed v (λ next. Some next) ≡ Some t.position
does_follows rules cut (Acts line position) world out t does = ap Some (sym does.1)
does_follows rules cut Ends world out t does = absurd does
does_follows rules cut Refused world out t does = absurd does

pub acting_follows : {C B S : Type 0} (rules : Rules C B) (cut : C → Place → S) (s : Standing S) (line out : List ℕ) (t : Standing S)
    → Acting rules cut s line out t → followed (role s.position line) (λ next. Some next) ≡ Some t.position
unfolding Acting
acting_follows rules cut s line out t acts = does_follows rules cut (role s.position line) s.world out t acts
