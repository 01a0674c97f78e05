-- The text of a file.
use Rattle.std.specs.Prelude.{ℕ, ◌+◌, List, [], ◌∷◌, ◌++◌, length, codes}
use Rattle.std.specs.Fmt.{decimal}
use Rattle.part_calc.specs.Text.{part_lines}
use Rattle.sheet_calc.specs.Books.{Parts}

-- the lines of all parts, of which the first has this number
abbrev pub all_lines : ℕ → Parts → List ℕ
all_lines n [] = []
all_lines n (part ∷ parts) = part_lines n part ++ all_lines (n + 1) parts

-- a line with the version, a line with the number of parts, and a line for each cell that has a raw text, by parts, rows and columns
unfoldable pub file_text : Parts → List ℕ
file_text parts = codes "coolsheet 1\n" ++ (codes "parts " ++ (decimal (length parts) ++ (codes "\n" ++ all_lines 0 parts)))
