-- Damage as at most 256 rectangles.
use Rattle.std.specs.Prelude.{ℕ, ◌+◌, ◌-◌, min, max, nat_le, List, [], ◌∷◌, map, fold, length, if◌then◌else◌}
use Rattle.cool_base.specs.Points.{Rectangle}
use Rattle.kit_trait.specs.declared.values.Damage.{Damage}
use Rattle.cell_damage.specs.declared.limits.TheConstants.{MOST_RECTANGLES}

-- the least rectangle that holds two
abbrev pub rect_over : Rectangle → Rectangle → Rectangle
rect_over a b =
    record {
      x = min a.x b.x;
      y = min a.y b.y;
      w = max (a.x + a.w) (b.x + b.w) - min a.x b.x;
      h = max (a.y + a.h) (b.y + b.h) - min a.y b.y;
    }

-- the least rectangle that holds one and these others
abbrev pub rect_over_all : Rectangle → List Rectangle → Rectangle
rect_over_all r rs = fold rect_over r rs

-- more than 256 (`MOST_RECTANGLES`) rectangles become the one least rectangle that holds them all
abbrev pub at_most : List Rectangle → List Rectangle
at_most [] = []
at_most (r ∷ rs) = if nat_le (length (r ∷ rs)) MOST_RECTANGLES then r ∷ rs else rect_over_all r rs ∷ []

abbrev pub damaged : ℕ → Rectangle → Damage
damaged part r = record { part = part; rect = r }

-- the damage of a part in which these rectangles are damaged
unfoldable pub damage_in : ℕ → List Rectangle → List Damage
damage_in part rects = map (damaged part) (at_most rects)
