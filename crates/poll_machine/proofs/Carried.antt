-- Plans carried out by one call after another.
use Rattle.std.proofs.Common.{◌≡◌, List, [], ◌∷◌, ◌++◌, refl}
use Rattle.std.specs.List.{flat_map}
use Rattle.std.proofs.lemmas.List.Concat.{flat_map-append}
use Rattle.net_traits.specs.Clocks.{Ticks}
use Rattle.net_traits.specs.Nets.{LinkEvent}
use Rattle.poll_machine.specs.Words.{Ways}
use Rattle.poll_machine.specs.House.{House, Happens, HouseStep}
use Rattle.poll_machine.specs.Plans.{Plan, Rests, Makes, Then, Learns, Looks}
use Rattle.poll_machine.specs.Runs.{Run}
use Rattle.poll_machine.specs.Told.{Heard, Hears, NetStep, PortStep, StoreStep, YardStep, net_part}
use Rattle.poll_machine.specs.Told.{port_part, store_part, clock_part, yard_part}
use Rattle.poll_machine.specs.Carried.{Carries}
use Rattle.poll_machine.proofs.Runs.{runs, follows_is_run}

-- what some events tell, and then what others do
parts : {X E A : Type 0} (Step : X → A → X → Type 0) (part : E → List A) (xs ys : List E)
    (old mid new : X)
    → Run Step old (flat_map part xs) mid → Run Step mid (flat_map part ys) new
    → Run Step old (flat_map part (xs ++ ys)) new
parts Step part xs ys old mid new one two =
    rw (flat_map-append part xs ys)
    (runs Step old (flat_map part xs) (flat_map part ys) mid new one two)

-- the outside that was called for some events, and then for others
pub hears_more : {D J P L : Type 0} (w : Ways D J P) (carries : L → List LinkEvent)
    (before : Heard D J P L) (xs ys : List (Happens D J P L)) (mid after : Heard D J P L)
    → Hears w carries before xs mid → Hears w carries mid ys after
    → Hears w carries before (xs ++ ys) after
hears_more w carries before xs ys mid after one two = record {
  net = parts (NetStep carries) net_part xs ys before.net mid.net after.net one.net two.net;
  port = parts (PortStep w) port_part xs ys before.port mid.port after.port one.port two.port;
  store = parts StoreStep store_part xs ys before.store mid.store after.store one.store two.store;
  clock = parts Ticks clock_part xs ys before.clock mid.clock after.clock one.clock two.clock;
  yard = parts YardStep yard_part xs ys before.yard mid.yard after.yard one.yard two.yard;
}

-- the outside that was not called
pub hears_none : {D J P L : Type 0} (w : Ways D J P) (carries : L → List LinkEvent)
    (s : Heard D J P L) → Hears w carries s [] s
hears_none w carries s = record { net = refl; port = refl; store = refl; clock = refl; yard = refl }

-- nothing is to be done, and nothing was
pub carried_rests : {D J P L : Type 0} (w : Ways D J P) (carries : L → List LinkEvent)
    (old : House D J P L) (s : Heard D J P L) (fine : Type 0)
    → Carries w carries Rests old s fine old s
carried_rests w carries old s fine = record {
  events = [];
  last = old;
  run = refl;
  heard = hears_none w carries s;
  whole = λ f. (refl, refl);
}

-- one event
pub carried_makes : {D J P L : Type 0} (w : Ways D J P) (carries : L → List LinkEvent)
    (event : Happens D J P L) (old : House D J P L) (s : Heard D J P L) (fine : Type 0)
    (new : House D J P L) (t : Heard D J P L)
    → HouseStep w old event new → Hears w carries s (event ∷ []) t
    → Carries w carries (Makes event) old s fine new t
carried_makes w carries event old s fine new t step heard = record {
  events = event ∷ [];
  last = new;
  run = (new, step, refl);
  heard = heard;
  whole = λ f. (refl, step);
}

-- one plan that was carried out, and then another
pub carried_then : {D J P L : Type 0} (w : Ways D J P) (carries : L → List LinkEvent)
    (first later : Plan (House D J P L) (Happens D J P L)) (old : House D J P L)
    (s : Heard D J P L) (mid : House D J P L) (t : Heard D J P L) (fine : Type 0)
    (new : House D J P L) (u : Heard D J P L)
    → Carries w carries first old s (Unit {0}) mid t → Carries w carries later mid t fine new u
    → Carries w carries (Then first later) old s fine new u
carried_then w carries first later old s mid t fine new u a b = record {
  events = a.events ++ b.events;
  last = b.last;
  run = runs (HouseStep w) old a.events b.events mid b.last
      (follows_is_run (HouseStep w) first old a.events mid (a.whole tt)) b.run;
  heard = hears_more w carries s a.events b.events t u a.heard b.heard;
  whole = λ f. (mid, a.events, b.events, refl, a.whole tt, b.whole f);
}

-- an answer came, and the plan went on with it
pub carried_learns : {D J P L A : Type 0} (w : Ways D J P) (carries : L → List LinkEvent)
    (next : A → Plan (House D J P L) (Happens D J P L)) (answer : A) (old : House D J P L)
    (s : Heard D J P L) (fine : Type 0) (new : House D J P L) (t : Heard D J P L)
    → Carries w carries (next answer) old s fine new t
    → Carries w carries (Learns next) old s fine new t
carried_learns w carries next answer old s fine new t a = record {
  events = a.events;
  last = a.last;
  run = a.run;
  heard = a.heard;
  whole = λ f. (answer, a.whole f);
}

-- the house was looked at
pub carried_looks : {D J P L : Type 0} (w : Ways D J P) (carries : L → List LinkEvent)
    (next : House D J P L → Plan (House D J P L) (Happens D J P L)) (old : House D J P L)
    (s : Heard D J P L) (fine : Type 0) (new : House D J P L) (t : Heard D J P L)
    → Carries w carries (next old) old s fine new t
    → Carries w carries (Looks next) old s fine new t
carried_looks w carries next old s fine new t a = record {
  events = a.events;
  last = a.last;
  run = a.run;
  heard = a.heard;
  whole = a.whole;
}

-- a call that was fine carried out its plan
pub carried_whole : {D J P L : Type 0} (w : Ways D J P) (carries : L → List LinkEvent)
    (plan : Plan (House D J P L) (Happens D J P L)) (old : House D J P L) (s : Heard D J P L)
    (fine : Type 0) (new : House D J P L) (t : Heard D J P L)
    → fine → Carries w carries plan old s fine new t
    → Carries w carries plan old s (Unit {0}) new t
carried_whole w carries plan old s fine new t is a = record {
  events = a.events;
  last = a.last;
  run = a.run;
  heard = a.heard;
  whole = λ f. a.whole is;
}

-- a call that was cut off is a part of any plan that was cut off with it
pub carried_cut : {D J P L : Type 0} (w : Ways D J P) (carries : L → List LinkEvent)
    (plan other : Plan (House D J P L) (Happens D J P L)) (old : House D J P L)
    (s : Heard D J P L) (fine cut : Type 0) (new end : House D J P L) (t : Heard D J P L)
    → (cut → ⊥) → Carries w carries plan old s fine new t
    → Carries w carries other old s cut end t
carried_cut w carries plan other old s fine cut new end t none a = record {
  events = a.events;
  last = a.last;
  run = a.run;
  heard = a.heard;
  whole = λ f. absurd (none f);
}

-- a plan that was carried out, and then a part of another
pub carried_part : {D J P L : Type 0} (w : Ways D J P) (carries : L → List LinkEvent)
    (first later other : Plan (House D J P L) (Happens D J P L)) (old : House D J P L)
    (s : Heard D J P L) (mid : House D J P L) (t : Heard D J P L) (fine cut : Type 0)
    (new end : House D J P L) (u : Heard D J P L)
    → (cut → ⊥) → Carries w carries first old s (Unit {0}) mid t
    → Carries w carries later mid t fine new u
    → Carries w carries other old s cut end u
carried_part w carries first later other old s mid t fine cut new end u none a b =
    carried_cut w carries (Then first later) other old s fine cut new end u none
    (carried_then w carries first later old s mid t fine new u a b)
