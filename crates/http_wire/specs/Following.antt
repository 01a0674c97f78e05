-- What the phase of a head says of the bytes that led there.
use Rattle.std.specs.Prelude.{ℕ, List, ◌++◌}
use Rattle.http_head.specs.declared.phases.HeadPhase.{HeadPhase}
use Rattle.http_head.specs.Phases.{Leads, IsOpen}
use Rattle.http_wire.specs.Messages.{Kind}

-- with more bytes that lead from the phase to an open one, the bytes begin a head
pub record Follows
    {P M : Type 0} (k : Kind P M) (bytes : List ℕ) (phase : HeadPhase)
    : Type 0 where
  pub begun : (more : List ℕ) (last : HeadPhase) → Leads phase more last → IsOpen last
      → k.begins (bytes ++ more)
