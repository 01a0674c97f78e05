-- What a window holds.
use Rattle.std.specs.Prelude.{ℕ}
use Rattle.tile_key.specs.Places.{Place}

-- a tile that was sent and not yet acknowledged: its number and its key
pub record Sent : Type 0 where
  pub wid : ℕ
  pub key : Place
