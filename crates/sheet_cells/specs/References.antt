-- Names of cells: letters for the column, and digits for the row.
use Rattle.std.specs.Prelude.{ℕ, ◌+◌, ◌-◌, ◌*◌, Bool, ◌&&◌, ◌||◌, nat_le, List, length, take, drop, fold, slice_index, Option, Some, None, option_map, option_and_then, if◌then◌else◌}
use Rattle.std.specs.List.{list_all, prefix_len}
use Rattle.cool_base.specs.Numbers.{number}
use Rattle.sheet_cells.specs.declared.limits.TheConstants.{COLUMNS, ROWS}

-- whether the byte is a letter, A to Z or a to z
abbrev pub is_name_letter : ℕ → Bool
is_name_letter c = (nat_le 65 c && nat_le c 90) || (nat_le 97 c && nat_le c 122)

-- a letter's place in the alphabet, from 1, the same in both cases
abbrev pub letter_number : ℕ → ℕ
letter_number c = if nat_le 97 c then c - 96 else c - 64

-- the number of a column, from 1, by its letters: A is 1, Z is 26, AA is 27, IV is 256
abbrev pub column_number : List ℕ → ℕ
column_number letters = fold (λ n letter. 26 * n + letter_number letter) 0 letters

-- the column, from 0, that one or two letters name, up to IV
abbrev pub column_of : List ℕ → Option ℕ
column_of letters =
    if nat_le 1 (length letters) && nat_le (length letters) 2 && list_all is_name_letter letters && nat_le (column_number letters) COLUMNS
    then Some (column_number letters - 1) else None

-- the row, from 0, that digits without a leading zero name, up to 4096 (`ROWS`), which has four digits
abbrev pub row_of : List ℕ → Option ℕ
row_of digits = if nat_le 49 (slice_index digits 0) then option_map (λ n. n - 1) (number 4 ROWS digits) else None

-- the row and the column of the cell that letters and digits name
abbrev pub cell_of : List ℕ → List ℕ → Option (ℕ × ℕ)
cell_of letters digits = option_and_then (λ row. option_map (λ column. (row, column)) (column_of letters)) (row_of digits)

-- the row and the column of the cell that a text names: its letters, and then digits up to its end
abbrev pub reference : List ℕ → Option (ℕ × ℕ)
reference text = cell_of (take (prefix_len is_name_letter text) text) (drop (prefix_len is_name_letter text) text)
