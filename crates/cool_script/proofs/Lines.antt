-- A line that the grammar lets act, done or stopped, as an answer to it.
use Rattle.std.proofs.Common.{◌≡◌, ◌⊎◌, ℕ, List, Option, None, Some, inl, inr, refl, sym, subst}
use Rattle.kit_trait.specs.Rules.{Rules}
use Rattle.tile_key.specs.Places.{Place}
use Rattle.outside.specs.Streams.{Adds}
use Rattle.script_lines.specs.Grammar.{Role, Acts, Refused, role}
use Rattle.script_lines.specs.Positions.{Position}
use Rattle.script_lines.specs.declared.saying.ScriptLine.{ScriptLine}
use Rattle.script_lines.specs.declared.output.Stop.{Stop}
use Rattle.script_lines.specs.declared.output.Stop.TheVariants.{Sink, Memory as NoMemory}
use Rattle.script_lines.specs.Records.{fault_text}
use Rattle.script_run.specs.Play.{Makes, Stopped, Answers, Refuses}
use Rattle.script_run.specs.declared.status.Status.{Status}
use Rattle.script_run.specs.declared.status.Status.TheVariants.{Done, WrongWords, FaultLine, ReadFault, WriteFault, Memory, NoEnd}
use Rattle.script_world.specs.World.{Seen}
use Rattle.cool_script.specs.Script.{Standing, Does, Doing, DoesBy, DoingBy, Acting, UnderWay, Halted, CarriesOut}

-- what was made in one sense was made in the other
made_too : (stop : Stop) (A B : List ℕ → Type 0) (before now : Option (List ℕ)) → ((out : List ℕ) → A out → B out) → Stopped stop A before now → Stopped stop B before now
made_too stop A B before now leads s = record { made = s.made; part = s.part; is_made = leads s.made s.is_made; cut = s.cut; added = s.added }

-- a line that did what it says acts
pub acts : {C B S : Type 0} (rules : Rules C B) (cut : C → Place → S) (s t : Standing S) (line out : List ℕ) (said : ScriptLine) (position : Position)
    → role s.position line ≡ Acts said position → Does rules cut said s.world out t.world → t.position ≡ position
    → Acting rules cut s line out t
unfolding Acting
acts rules cut s t line out said position e does stands =
    subst (λ (v : Role). DoesBy rules cut v s.world out t) (sym e) (does, stands)

-- a line that is being done is under way
under_way : {C B S : Type 0} (rules : Rules C B) (cut : C → Place → S) (s : Standing S) (line out : List ℕ) (said : ScriptLine) (position : Position)
    → role s.position line ≡ Acts said position → Doing rules cut said s.world out
    → UnderWay rules cut s line out
unfolding UnderWay
under_way rules cut s line out said position e doing =
    subst (λ (v : Role). DoingBy rules cut v s.world out) (sym e) doing

-- a line that was stopped was stopped under way
pub stopped : {C B S : Type 0} (rules : Rules C B) (cut : C → Place → S) (stop : Stop) (s : Standing S) (line : List ℕ) (number : ℕ) (said : ScriptLine) (position : Position) (before now : Option (List ℕ))
    → role s.position line ≡ Acts said position → Stopped stop (Doing rules cut said s.world) before now
    → Stopped stop (Makes (λ (x : Standing S). x.position) (UnderWay rules cut) s line number) before now
stopped rules cut stop s line number said position before now e halted =
    made_too stop (Doing rules cut said s.world) _ before now (λ out doing. inl (under_way rules cut s line out said position e doing)) halted

-- the role of a line where a script stands
pub role_at : {S : Type 0} (position : Position) (world : Seen S) (s : Standing S) (line : List ℕ) (v : Role) → record { position = position; world = world } ≡ s → role position line ≡ v → role s.position line ≡ v
role_at {S} position world s line v same e = subst (λ (x : Standing S). role x.position line ≡ v) same e

-- the world of a line that acts, as it was done
pub done : {C B S : Type 0} (rules : Rules C B) (cut : C → Place → S) (here : Position) (world new : Seen S) (s : Standing S) (line : List ℕ) (said : ScriptLine) (position : Position) (before now : Option (List ℕ))
    → record { position = here; world = world } ≡ s → role s.position line ≡ Acts said position
    → ((out : List ℕ) × Does rules cut said world out new × Adds before out now)
    → (out : List ℕ) × Acting rules cut s line out (record { position = position; world = new }) × Adds before out now
done {C} {B} {S} rules cut here world new s line said position before now same e d =
    (d.0, acts rules cut s (record { position = position; world = new }) line d.0 said position e (subst (λ (x : Standing S). Does rules cut said x.world d.0 new) same d.1) refl, d.2)

-- a line that the sink stopped
pub cut_off : {C B S : Type 0} (rules : Rules C B) (cut : C → Place → S) (here : Position) (world : Seen S) (s : Standing S) (line : List ℕ) (number : ℕ) (said : ScriptLine) (position : Position) (before now : Option (List ℕ))
    → record { position = here; world = world } ≡ s → role s.position line ≡ Acts said position → Halted Sink (Doing rules cut said world) before now
    → Stopped Sink (Makes (λ (x : Standing S). x.position) (UnderWay rules cut) s line number) before now
cut_off {C} {B} {S} rules cut here world s line number said position before now same e halted =
    stopped rules cut Sink s line number said position before now e (subst (λ (x : Standing S). Stopped Sink (Doing rules cut said x.world) before now) same halted)

-- a line that memory stopped, by what the script holds
wanting : {C B S : Type 0} (rules : Rules C B) (cut : C → Place → S) (s : Standing S) (line : List ℕ) (number : ℕ) (said : ScriptLine) (position : Position) (before now : Option (List ℕ))
    → role s.position line ≡ Acts said position → Halted NoMemory (Doing rules cut said s.world) before now
    → (now ≡ before) ⊎ Stopped NoMemory (Makes (λ (x : Standing S). x.position) (UnderWay rules cut) s line number) before now
wanting rules cut s line number said position before now e (inl same) = inl same
wanting rules cut s line number said position before now e (inr halted) = inr (stopped rules cut NoMemory s line number said position before now e halted)

-- a line that memory stopped
pub wanting_at : {C B S : Type 0} (rules : Rules C B) (cut : C → Place → S) (here : Position) (world : Seen S) (s : Standing S) (line : List ℕ) (number : ℕ) (said : ScriptLine) (position : Position) (before now : Option (List ℕ))
    → record { position = here; world = world } ≡ s → role s.position line ≡ Acts said position → Halted NoMemory (Doing rules cut said world) before now
    → (now ≡ before) ⊎ Stopped NoMemory (Makes (λ (x : Standing S). x.position) (UnderWay rules cut) s line number) before now
wanting_at {C} {B} {S} rules cut here world s line number said position before now same e halted =
    wanting rules cut s line number said position before now e (subst (λ (x : Standing S). Halted NoMemory (Doing rules cut said x.world) before now) same halted)

-- a refused line is answered by what the attempt to name it was
pub refused : {C B S : Type 0} (rules : Rules C B) (cut : C → Place → S) (status : Status) (s t : Standing S) (line : List ℕ) (number : ℕ) (before now : Option (List ℕ))
    → role s.position line ≡ Refused → Refuses status number before now
    → Answers (λ (x : Standing S). x.position) (Acting rules cut) (UnderWay rules cut) (Some status) s line number t before now
refused rules cut Done s t line number before now e r = absurd r
refused rules cut WrongWords s t line number before now e r = r
refused rules cut FaultLine s t line number before now e r = (e, r)
refused rules cut ReadFault s t line number before now e r = r
refused rules cut WriteFault s t line number before now e r =
    made_too Sink (λ (out : List ℕ). out ≡ fault_text number) _ before now (λ out is. inr (e, is)) r
refused rules cut Memory s t line number before now e r = inl r
refused rules cut NoEnd s t line number before now e r = r

-- a line that acts, as an answer to it
pub carried_out : {C B S : Type 0} (rules : Rules C B) (cut : C → Place → S) (here next : Position) (world new : Seen S) (s : Standing S) (line : List ℕ) (number : ℕ) (said : ScriptLine) (status : Option Status) (before now : Option (List ℕ))
    → record { position = here; world = world } ≡ s → role here line ≡ Acts said next → CarriesOut rules cut said status world new before now
    → Answers (λ (x : Standing S). x.position) (Acting rules cut) (UnderWay rules cut) status s line number (record { position = next; world = new }) before now
carried_out rules cut here next world new s line number said None before now same v carries_out =
    done rules cut here world new s line said next before now same (role_at here world s line (Acts said next) same v) carries_out
carried_out rules cut here next world new s line number said (Some Done) before now same v carries_out = absurd carries_out
carried_out rules cut here next world new s line number said (Some WrongWords) before now same v carries_out = absurd carries_out
carried_out rules cut here next world new s line number said (Some FaultLine) before now same v carries_out = absurd carries_out
carried_out rules cut here next world new s line number said (Some ReadFault) before now same v carries_out = absurd carries_out
carried_out rules cut here next world new s line number said (Some WriteFault) before now same v carries_out =
    cut_off rules cut here world s line number said next before now same (role_at here world s line (Acts said next) same v) carries_out
carried_out rules cut here next world new s line number said (Some Memory) before now same v carries_out =
    wanting_at rules cut here world s line number said next before now same (role_at here world s line (Acts said next) same v) carries_out
carried_out rules cut here next world new s line number said (Some NoEnd) before now same v carries_out = absurd carries_out
