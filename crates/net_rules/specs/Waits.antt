-- How long a take waits.
use Rattle.std.specs.Prelude.{ℕ, min}

-- The milliseconds that a take waits after so many in a row found nothing: as many, at most 10.
abbrev pub wait_after : ℕ → ℕ
wait_after idle = min idle 10
