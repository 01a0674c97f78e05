-- What the bytes of a book's file say: its parts, or the first thing that is wrong.
use Rattle.std.specs.Prelude.{ℕ, ◌+◌, Bool, true, false, nat_lt, nat_le, List, [], ◌∷◌, length, map, fold, replicate, Option, Some, None, Result, Ok, Err, codes, if◌then◌else◌}
use Rattle.std.specs.Str.{bytes_eq}
use Rattle.std.specs.Ordering.{is_lt}
use Rattle.sheet_cells.specs.declared.cells.CellRef.{CellRef}
use Rattle.sheet_cells.specs.Cells.{cell_cmp}
use Rattle.sheet_calc.specs.declared.limits.TheConstants.{FILE_LIMIT}
use Rattle.sheet_calc.specs.Books.{Parts, with_cell}
use Rattle.sheet_file.specs.declared.fault.BookFault.{BookFault}
use Rattle.sheet_file.specs.declared.fault.BookFault.TheVariants.{TooLarge, NoHeader, BadLine, OutOfOrder, Memory}
use Rattle.sheet_file.specs.Lines.{Cell, lines_of, parts_said, cell_said}

-- whether a cell comes after the one on the line before it, if there is one
abbrev pub comes_after : Option CellRef → CellRef → Bool
comes_after None at = true
comes_after (Some before) at = is_lt (cell_cmp before at)

-- the first line that isn't of its form, or whose cell doesn't come after the one before it: of what lines say, the first of which has number n
abbrev pub first_fault : ℕ → Option CellRef → List (Option Cell) → Option BookFault
first_fault n before [] = None
first_fault n before (None ∷ said) = Some (BadLine n)
first_fault n before (Some cell ∷ said) = if comes_after before cell.0 then first_fault (n + 1) (Some cell.0) said else Some (OutOfOrder n)

-- parts with one more cell's text
abbrev pub with_said : Parts → Option Cell → Parts
with_said parts None = parts
with_said parts (Some cell) = with_cell parts cell.0 cell.1

abbrev pub unless_fault : Option BookFault → Parts → Result Parts BookFault
unless_fault None parts = Ok parts
unless_fault (Some fault) parts = Err fault

-- parts with the cells of lines, where nothing is wrong with the lines
abbrev pub with_lines : Parts → ℕ → Option CellRef → List (Option Cell) → Result Parts BookFault
with_lines parts n before said = unless_fault (first_fault n before said) (fold with_said parts said)

-- behind the first two lines each line says a cell and its raw text
abbrev pub cells_read : Option ℕ → List (List ℕ) → Result Parts BookFault
cells_read None lines = Err (BadLine 2)
cells_read (Some count) lines = with_lines (replicate count []) 3 None (map (cell_said count) lines)

-- behind the first line stands how many parts there are
abbrev pub parts_read : List (List ℕ) → Result Parts BookFault
parts_read [] = Err (BadLine 2)
parts_read (line ∷ lines) = cells_read (parts_said line) lines

-- what is wrong with a first line that isn't `coolsheet 1` and a newline: the newline alone, or the line
abbrev pub header_fault : List ℕ → BookFault
header_fault line = if bytes_eq line (codes "coolsheet 1") then BadLine 1 else NoHeader

-- a file without lines is one part without cells; else the first line is `coolsheet 1`
abbrev pub lines_read : List (List ℕ) → Result Parts BookFault
lines_read [] = Ok ([] ∷ [])
lines_read (line ∷ lines) = if bytes_eq line (codes "coolsheet 1\n") then parts_read lines else Err (header_fault line)

-- what the bytes of a file say
unfoldable pub book_of : List ℕ → Result Parts BookFault
book_of bytes = if nat_lt FILE_LIMIT (length bytes) then Err TooLarge else lines_read (lines_of bytes)

-- whether a fault is one of a file's size or of its first two lines, which are judged before memory is taken
abbrev pub is_early_fault : BookFault → Bool
is_early_fault TooLarge = true
is_early_fault NoHeader = true
is_early_fault (BadLine n) = nat_le n 2
is_early_fault (OutOfOrder n) = false
is_early_fault Memory = false

-- whether what is read has such a fault
abbrev pub is_early : Result Parts BookFault → Bool
is_early (Ok parts) = false
is_early (Err fault) = is_early_fault fault
