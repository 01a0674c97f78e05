-- How many links may still open; None for any number.
use Rattle.std.specs.Prelude.{ℕ, ⊤, ◌<◌, ◌-◌, ◌==◌, Option, Some, None, if◌then◌else◌}

-- So many, or any number where that is 0.
abbrev pub room_of : ℕ → Option ℕ
room_of sessions = if sessions == 0 then None else Some sessions

-- One may open.
abbrev pub HasRoom : Option ℕ → Type 0
HasRoom None = ⊤
HasRoom (Some n) = 0 < n

-- How many may open once one has.
abbrev pub room_less : Option ℕ → Option ℕ
room_less None = None
room_less (Some n) = Some (n - 1)
