-- The handshakes that go on.
use Rattle.std.specs.Prelude.{ℕ, ◌-◌, ◌==◌, Bool, not, nat_le, List, filter, find, Option}
use Rattle.std.specs.Option.{option_map}
use Rattle.cool_base.specs.declared.ids.LinkId.{LinkId}

-- A handshake: its link, and the moment at which it began, in milliseconds.
pub record Shake : Type 0 where
  pub link : ℕ
  pub moment : ℕ

-- It has taken ten seconds or more at this moment.
abbrev pub is_late : ℕ → Shake → Bool
is_late now shake = nat_le 10000 (now - shake.moment)

-- The link of the first one that has.
abbrev pub first_late : ℕ → List Shake → Option LinkId
first_late now shakes = option_map (λ (s : Shake). record { 0 = s.link }) (find (is_late now) shakes)

-- The handshakes of all links but this one.
abbrev pub without : ℕ → List Shake → List Shake
without link shakes = filter (λ (s : Shake). not (s.link == link)) shakes
