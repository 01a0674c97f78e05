-- Numbers from one up to another.
use Rattle.std.specs.Prelude.{ℕ, Bool, ◌&&◌, nat_lt, nat_le}

-- whether n is one of the numbers from `first` up to, but without, `end`
abbrev pub in_span : ℕ → ℕ → ℕ → Bool
in_span first end n = nat_le first n && nat_lt n end
