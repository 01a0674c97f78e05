-- Words between blanks, and words that give a name a value.
use Rattle.std.specs.Prelude.{ℕ, Bool, false, not, ◌&&◌, ◌==◌, nat_le, List, [], ◌∷◌, length, Option, Some, None, option_and_then, if◌then◌else◌}
use Rattle.std.specs.Option.{option_map}
use Rattle.std.specs.List.{filter, find, count_by, list_all, slice_split}
use Rattle.std.specs.Str.{bytes_eq}
use Rattle.cool_words.specs.declared.commands.TheConstants.{COMMAND_LIMIT}

-- a blank is the byte 32 alone
abbrev pub is_blank : ℕ → Bool
is_blank byte = byte == 32

-- a part that has a byte
abbrev pub is_filled : List ℕ → Bool
is_filled part = not (length part == 0)

-- the words of a text: what stands between its blanks
unfoldable pub words : List ℕ → List (List ℕ)
words text = filter is_filled (slice_split is_blank text)

-- a letter a to z
abbrev pub is_letter : ℕ → Bool
is_letter byte = nat_le 97 byte && nat_le byte 122

-- a command: 1 to 32 (`COMMAND_LIMIT`) letters a to z
abbrev pub is_command : List ℕ → Bool
is_command word = nat_le 1 (length word) && nat_le (length word) COMMAND_LIMIT && list_all is_letter word

-- a first part with one more byte in front of it
abbrev pub with_front : ℕ → List ℕ × List ℕ → List ℕ × List ℕ
with_front c parts = (c ∷ parts.0, parts.1)

-- what stands before the first such byte, and what stands behind it
abbrev pub cut_at : ℕ → List ℕ → Option (List ℕ × List ℕ)
cut_at byte [] = None
cut_at byte (c ∷ cs) = if c == byte then Some ([], cs) else option_map (with_front c) (cut_at byte cs)

-- the two sides of a word `name=value`, cut at its first equals sign
abbrev pub name_and_value : List ℕ → Option (List ℕ × List ℕ)
name_and_value word = cut_at 61 word

-- whether a word without an equals sign, or one with this name, has the name
abbrev pub has_name : List ℕ → Option (List ℕ × List ℕ) → Bool
has_name name None = false
has_name name (Some sides) = bytes_eq sides.0 name

-- whether the word is `name=` and a value
abbrev pub is_named : List ℕ → List ℕ → Bool
is_named name word = has_name name (name_and_value word)

-- the value of a word `name=value`
abbrev pub value_of : List ℕ → Option (List ℕ)
value_of word = option_map (λ sides. sides.1) (name_and_value word)

-- the value of the first word of this name
abbrev pub first_value : List ℕ → List (List ℕ) → Option (List ℕ)
first_value name list = option_and_then value_of (find (is_named name) list)

-- how many words have this name
abbrev pub count_named : List ℕ → List (List ℕ) → ℕ
count_named name list = count_by (is_named name) list
