-- The lines of a book's file, and what one line says.
use Rattle.std.specs.Prelude.{ℕ, ◌-◌, Bool, false, ◌&&◌, ◌==◌, nat_lt, nat_le, List, [], ◌∷◌, length, Option, Some, None, option_map, option_and_then, codes, if◌then◌else◌}
use Rattle.std.specs.List.{list_all}
use Rattle.std.specs.Str.{bytes_eq, is_utf8}
use Rattle.cool_base.specs.Numbers.{number}
use Rattle.cool_words.specs.Words.{cut_at}
use Rattle.sheet_cells.specs.declared.cells.CellRef.{CellRef}
use Rattle.sheet_cells.specs.Cells.{is_raw}
use Rattle.sheet_cells.specs.References.{reference}
use Rattle.sheet_cells.specs.declared.limits.TheConstants.{MOST_PARTS}
use Rattle.formula_base.specs.Ranges.{Position}

-- a byte in front of lines
abbrev pub in_front : ℕ → List (List ℕ) → List (List ℕ)
in_front c [] = (c ∷ []) ∷ []
in_front c (line ∷ lines) = (c ∷ line) ∷ lines

-- the lines of a file, which is cut behind each newline: a line ends with its newline, and only the last may have none
unfoldable pub lines_of : List ℕ → List (List ℕ)
lines_of [] = []
lines_of (c ∷ bytes) = if c == 10 then (10 ∷ []) ∷ lines_of bytes else in_front c (lines_of bytes)

-- what stands in front of a line's newline
abbrev pub before_newline : List ℕ → Option (List ℕ)
before_newline line = option_map (λ sides. sides.0) (cut_at 10 line)

-- whether digits begin with a zero that another one follows
abbrev pub has_leading_zero : List ℕ → Bool
has_leading_zero [] = false
has_leading_zero (c ∷ []) = false
has_leading_zero (c ∷ d ∷ rest) = c == 48

-- the number up to `limit`, of one or two digits, that a word writes without a leading zero
abbrev pub plain_number : ℕ → List ℕ → Option ℕ
plain_number limit word = if has_leading_zero word then None else number 2 limit word

-- a number of parts, of which there is at least one
abbrev pub some_parts : ℕ → Option ℕ
some_parts count = if nat_le 1 count then Some count else None

abbrev pub parts_in : List ℕ × List ℕ → Option ℕ
parts_in (word, rest) = if bytes_eq word (codes "parts") then option_and_then some_parts (plain_number MOST_PARTS rest) else None

-- how many parts the text of a line says that there are: `parts`, a blank and the number, from 1 to 16 (`MOST_PARTS`)
abbrev pub parts_of_text : List ℕ → Option ℕ
parts_of_text text = option_and_then parts_in (cut_at 32 text)

-- the same of a line with its newline
unfoldable pub parts_said : List ℕ → Option ℕ
parts_said line = option_and_then parts_of_text (before_newline line)

-- the position of the cell that a word names in capital letters
abbrev pub position_named : List ℕ → Option Position
position_named word = if list_all (λ c. nat_lt c 97) word then reference word else None

-- the raw text that a line can have: UTF-8 of 1 to 1,024 bytes without control characters
abbrev pub raw_written : List ℕ → Option (List ℕ)
raw_written raw = if nat_le 1 (length raw) && is_raw raw && is_utf8 raw then Some raw else None

-- a cell and its raw text
abbrev pub Cell : Type 0
Cell = CellRef × List ℕ

abbrev pub cell_with : ℕ → Position → List ℕ → Cell
cell_with part position raw = (record { part = part; row = position.0; col = position.1 }, raw)

-- a cell by the words of its part and of its name, and by its raw text
abbrev pub cell_by : ℕ → List ℕ → List ℕ × List ℕ → Option Cell
cell_by parts part (name, raw) =
    option_and_then (λ p. option_and_then (λ position. option_map (cell_with p position) (raw_written raw)) (position_named name)) (plain_number (parts - 1) part)

abbrev pub cell_in : ℕ → List ℕ × List ℕ → Option Cell
cell_in parts (part, behind) = option_and_then (cell_by parts part) (cut_at 32 behind)

-- the cell and the raw text that the text of a line says: the number of its part, a blank, its name, a blank and the raw text
abbrev pub cell_of_text : ℕ → List ℕ → Option Cell
cell_of_text parts text = option_and_then (cell_in parts) (cut_at 32 text)

-- the same of a line with its newline
unfoldable pub cell_said : ℕ → List ℕ → Option Cell
cell_said parts line = option_and_then (cell_of_text parts) (before_newline line)

-- the cell that the first of some lines says, and the lines behind it
abbrev pub first_said : ℕ → List (List ℕ) → Option (Cell × List (List ℕ))
first_said parts [] = None
first_said parts (line ∷ lines) = option_map (λ cell. (cell, lines)) (cell_said parts line)
