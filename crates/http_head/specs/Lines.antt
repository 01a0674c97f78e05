-- What the lines of a head say. A line is a name and a value without white space round it.
use Rattle.std.specs.Prelude.{ℕ, Bool, false, ◌&&◌, ◌||◌, nat_le, List, [], ◌∷◌, Option, Some, None, if◌then◌else◌}
use Rattle.std.specs.List.{list_all}
use Rattle.std.specs.Option.{option_map}
use Rattle.std.specs.Str.{str_eq_ignore_ascii_case}

-- the line has this name, in both cases
abbrev pub is_named : List ℕ → List ℕ × List ℕ → Bool
is_named name line = str_eq_ignore_ascii_case line.0 name

-- the value of the first line with this name
abbrev pub value_of : List ℕ → List (List ℕ × List ℕ) → Option (List ℕ)
value_of name [] = None
value_of name (line ∷ lines) = if is_named name line then Some line.1 else value_of name lines

-- whether a line has this name
abbrev pub has_line : List ℕ → List (List ℕ × List ℕ) → Bool
has_line name [] = false
has_line name (line ∷ lines) = is_named name line || has_line name lines

-- a byte from 32 to 126
abbrev pub is_shown : ℕ → Bool
is_shown b = nat_le 32 b && nat_le b 126

-- the value as text; one with a byte outside 32 to 126 is read as the empty text
abbrev pub shown : List ℕ → List ℕ
shown value = if list_all is_shown value then value else []

-- the text of the first line with this name
abbrev pub text_named : List ℕ → List (List ℕ × List ℕ) → Option (List ℕ)
text_named name lines = option_map shown (value_of name lines)
