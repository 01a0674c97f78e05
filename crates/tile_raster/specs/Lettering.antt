-- Texts on a canvas: letters of 90 by 120 twips side by side, dots of 15 by 15 twips.
use Rattle.std.specs.Prelude.{ℕ, ◌+◌, ◌-◌, ◌/◌, Bool, ◌&&◌, nat_lt, nat_le, List}
use Rattle.kit_trait.specs.Pictures.{Colour}
use Rattle.bitmap_font.specs.Glyphs.{has_dot}

abbrev pub black : Colour
black = record { red = 0; green = 0; blue = 0; alpha = 255 }

-- the number of the letter that a place lies in, so many twips from the beginning of the text
abbrev pub letter_at : ℕ → ℕ
letter_at across = across / 90

-- whether the point (px, py) lies on a dot of the text of these characters that begins at x, y
unfoldable pub text_dot : ℕ → ℕ → List ℕ → ℕ → ℕ → Bool
text_dot x y text px py = (nat_le x px && nat_le y py && nat_lt py (y + 120)) && has_dot text (px - x) (py - y)
