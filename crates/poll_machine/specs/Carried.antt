-- What a call of a poll did of a plan: all of it, or, where it was out of memory, a part.
use Rattle.std.specs.Prelude.{List}
use Rattle.net_traits.specs.Nets.{LinkEvent}
use Rattle.poll_machine.specs.Words.{Ways}
use Rattle.poll_machine.specs.House.{House, Happens, HouseStep}
use Rattle.poll_machine.specs.Plans.{Plan, Follows}
use Rattle.poll_machine.specs.Runs.{Run}
use Rattle.poll_machine.specs.Told.{Heard, Hears}

-- from one house, with what the outside told before, these events lead to some house, and the
-- outside was called for exactly them; where the call was fine they carry out the plan, up to the
-- house that stands after it
pub record Carries {D J P L : Type 0} (w : Ways D J P) (carries : L → List LinkEvent)
    (plan : Plan (House D J P L) (Happens D J P L)) (old : House D J P L)
    (before : Heard D J P L) (fine : Type 0) (new : House D J P L)
    (after : Heard D J P L) : Type 0 where
  pub events : List (Happens D J P L)
  pub last : House D J P L
  pub run : Run (HouseStep w) old events last
  pub heard : Hears w carries before events after
  pub whole : fine → Follows (HouseStep w) plan old events new
