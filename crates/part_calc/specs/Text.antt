-- The lines of a part in the text of a file.
use Rattle.std.specs.Prelude.{ℕ, ◌+◌, ◌/◌, ◌%◌, nat_lt, List, [], ◌∷◌, ◌++◌, codes, if◌then◌else◌}
use Rattle.std.specs.Fmt.{decimal}
use Rattle.std.specs.List.{flat_map}
use Rattle.formula_base.specs.Ranges.{Position}
use Rattle.part_calc.specs.Parts.{Part}

-- the letters of a column, from 0: A to Z and AA to IV
abbrev pub column_letters : ℕ → List ℕ
column_letters column = if nat_lt column 26 then (65 + column) ∷ [] else (64 + column / 26) ∷ (65 + column % 26) ∷ []

-- a cell by its letters and the number of its row, from 1
abbrev pub reference_text : Position → List ℕ
reference_text p = column_letters p.1 ++ decimal (p.0 + 1)

-- a cell's line: its part, its name and its raw text
unfoldable pub cell_line : ℕ → Position × List ℕ → List ℕ
cell_line part e = decimal part ++ (codes " " ++ (reference_text e.0 ++ (codes " " ++ (e.1 ++ codes "\n"))))

-- the line of a cell with this raw text, and none where the text is empty
abbrev pub line_at : ℕ → Position → List ℕ → List ℕ
line_at part p [] = []
line_at part p (c ∷ raw) = cell_line part (p, c ∷ raw)

-- the lines of a part, a line for each cell that has a raw text
unfoldable pub part_lines : ℕ → Part → List ℕ
part_lines part cells = flat_map (cell_line part) cells
