-- Which frames are sent as text.
use Rattle.std.specs.Prelude.{ℕ, ◌≡◌, List, false, codes, nat_eq, IsUtf8}
use Rattle.std.specs.List.{starts_with}

-- A frame is sent as text that is UTF-8 and no tile's.
abbrev pub GoesAsText : List ℕ → Type 0
GoesAsText frame = (starts_with nat_eq frame (codes "tile: ") ≡ false) × IsUtf8 frame
