-- What an input does to a sheet document: it moves the cursor of its view, or changes the raw text under it.
use Rattle.std.specs.Prelude.{ℕ, zero, suc, ◌+◌, ◌-◌, ◌/◌, min, Bool, true, false, ◌&&◌, ◌==◌, nat_lt, nat_le, nat_eq, List, [], ◌∷◌, ◌++◌, length, take, Option, Some, None, if◌then◌else◌, encode_utf8, encode_utf8_all}
use Rattle.std.specs.Str.{chars}
use Rattle.std.specs.List.{list_all}
use Rattle.std.specs.Ordering.{nat_cmp}
use Rattle.std.specs.Map.{lookup}
use Rattle.std.specs.BTreeMap.{is_at, insert_entry}
use Rattle.sheet_cells.specs.declared.cells.CellRef.{CellRef}
use Rattle.sheet_cells.specs.Cells.{is_raw_byte}
use Rattle.sheet_cells.specs.declared.limits.TheConstants.{COLUMNS, ROWS, RAW_LIMIT}
use Rattle.cell_damage.specs.declared.limits.TheConstants.{CELL_WIDTH, CELL_HEIGHT}
use Rattle.sheet_calc.specs.declared.limits.TheConstants.{FILE_LIMIT}
use Rattle.sheet_rules.specs.declared.limits.TheConstants.{PART_WIDTH, PART_HEIGHT}
use Rattle.sheet_calc.specs.Books.{Parts, text_of, with_cell}
use Rattle.sheet_calc.specs.FileText.{file_text}
use Rattle.kit_trait.specs.declared.keys.KeyCode.{KeyCode}
use Rattle.kit_trait.specs.declared.keys.KeyCode.TheVariants.{Down, Up, Left, Right, Home, End, Return, Tab, Backspace, Delete}
use Rattle.kit_trait.specs.Keys.{key_with, is_typed}
use Rattle.kit_trait.specs.declared.values.Input.{Input}
use Rattle.kit_trait.specs.declared.values.What.{What}
use Rattle.kit_trait.specs.declared.values.What.TheVariants.{Key, Mouse}
use Rattle.sheet_rules.specs.declared.cursors.Cursor.{Cursor}
use Rattle.sheet_rules.specs.declared.cursors.Meaning.{Meaning}
use Rattle.sheet_rules.specs.declared.cursors.Meaning.TheVariants.{Stays, Goes, Writes}

-- what a sheet document holds: its parts, and the cursor of each view that has one, in order of views
pub record Sheet : Type 0 where
  pub parts : Parts
  pub cursors : List (ℕ × Cursor)

-- ---- where a view stands

-- the cursor of a view that did nothing yet in a part: at A1, fresh
abbrev pub first_cursor : ℕ → Cursor
first_cursor part = record { at = record { part = part; row = 0; col = 0 }; fresh = true }

-- the cursor that a view has, where it stands in the part; else the first one there
abbrev pub cursor_in : ℕ → Option Cursor → Cursor
cursor_in part None = first_cursor part
cursor_in part (Some cursor) = if nat_eq cursor.at.part part then cursor else first_cursor part

abbrev pub cursor_of : List (ℕ × Cursor) → ℕ → ℕ → Cursor
cursor_of cursors view part = cursor_in part (lookup (is_at (nat_cmp view)) cursors)

-- the cell beside a cell, or the cell itself at an edge of its part
abbrev pub cell_below : CellRef → CellRef
cell_below at = record at { row = min (at.row + 1) (ROWS - 1) }

abbrev pub cell_above : CellRef → CellRef
cell_above at = record at { row = at.row - 1 }

abbrev pub cell_left : CellRef → CellRef
cell_left at = record at { col = at.col - 1 }

abbrev pub cell_right : CellRef → CellRef
cell_right at = record at { col = min (at.col + 1) (COLUMNS - 1) }

-- the cell in column A of the row
abbrev pub row_start : CellRef → CellRef
row_start at = record at { col = 0 }

-- the last of the first `count` columns that has a text, the first one where none has
unfoldable pub last_filled : (ℕ → List ℕ) → ℕ → ℕ
last_filled text zero = 0
last_filled text (suc n) = if length (text n) == 0 then last_filled text n else n

-- the last cell of the row that has a raw text, or the one in column A
unfoldable pub row_end : Parts → CellRef → CellRef
row_end parts at = record at { col = last_filled (λ col. text_of parts (record at { col = col })) COLUMNS }

-- the cell at a point of a part
abbrev pub is_inside : ℕ → ℕ → Bool
is_inside x y = nat_lt x PART_WIDTH && nat_lt y PART_HEIGHT

abbrev pub cell_at : ℕ → ℕ → ℕ → CellRef
cell_at part x y = record { part = part; row = y / CELL_HEIGHT; col = x / CELL_WIDTH }

-- ---- what a key writes

-- a text without its last character
unfoldable pub without_last : List ℕ → List ℕ
without_last text = encode_utf8_all (take (length (chars text) - 1) (chars text))

-- a typed char takes the place of the text at a fresh cursor, and else is added at the text's end; another one changes nothing
abbrev pub char_meaning : Parts → Cursor → ℕ → Meaning
char_meaning parts cursor chr =
    if is_typed chr
    then Writes (if cursor.fresh then encode_utf8 chr else text_of parts cursor.at ++ encode_utf8 chr) false
    else Stays

-- what a key means that acts by its code
abbrev pub code_meaning : Parts → Cursor → KeyCode → Meaning
code_meaning parts cursor Down = Goes (cell_below cursor.at)
code_meaning parts cursor Up = Goes (cell_above cursor.at)
code_meaning parts cursor Left = Goes (cell_left cursor.at)
code_meaning parts cursor Right = Goes (cell_right cursor.at)
code_meaning parts cursor Home = Goes (row_start cursor.at)
code_meaning parts cursor End = Goes (row_end parts cursor.at)
code_meaning parts cursor Return = Goes (cell_below cursor.at)
code_meaning parts cursor Tab = Goes (cell_right cursor.at)
code_meaning parts cursor Backspace = Writes (without_last (text_of parts cursor.at)) false
code_meaning parts cursor Delete = Writes [] true

-- a key is judged by its code first, and else by its char
abbrev pub key_meaning : Parts → Cursor → ℕ → Option KeyCode → Meaning
key_meaning parts cursor chr (Some key) = code_meaning parts cursor key
key_meaning parts cursor chr None = char_meaning parts cursor chr

-- a mouse input inside the part goes to the cell at its point; one outside changes nothing
abbrev pub mouse_meaning : ℕ → ℕ → ℕ → Meaning
mouse_meaning part x y = if is_inside x y then Goes (cell_at part x y) else Stays

abbrev pub meaning_of : Parts → Cursor → ℕ → What → Meaning
meaning_of parts cursor part (Key chr code) = key_meaning parts cursor chr (key_with code)
meaning_of parts cursor part (Mouse x y count buttons modifier) = mouse_meaning part x y

-- ---- what it leaves

-- whether a cell may get the raw text: it has at most 1,024 (`RAW_LIMIT`) bytes, and the file's text then at most 2,097,152 (`FILE_LIMIT`)
unfoldable pub fits : Parts → CellRef → List ℕ → Bool
fits parts at raw = nat_le (length raw) RAW_LIMIT && nat_le (length (file_text (with_cell parts at raw))) FILE_LIMIT

-- whether every byte of the text that a meaning writes may stand in a raw text
abbrev pub writes_raw : Meaning → Bool
writes_raw Stays = true
writes_raw (Goes to) = true
writes_raw (Writes raw fresh) = list_all is_raw_byte raw

-- what is left where a raw text was written at a cursor; a text that doesn't fit changes nothing, the cursor included
abbrev pub written : Sheet → ℕ → Cursor → List ℕ → Sheet
written c view cursor raw =
    if fits c.parts cursor.at raw
    then record { parts = with_cell c.parts cursor.at raw; cursors = insert_entry nat_cmp c.cursors view cursor }
    else c

-- what a meaning at a cell leaves
abbrev pub carried_out : Sheet → ℕ → CellRef → Meaning → Sheet
carried_out c view at Stays = c
carried_out c view at (Goes to) = record c { cursors = insert_entry nat_cmp c.cursors view (record { at = to; fresh = true }) }
carried_out c view at (Writes raw fresh) = written c view (record { at = at; fresh = fresh }) raw

-- an input acts at its view's cursor in its part; one that names no part of the document changes nothing
abbrev pub stepped : Sheet → Input → Sheet
stepped c input =
    if nat_lt input.part (length c.parts)
    then carried_out c input.view.0 (cursor_of c.cursors input.view.0 input.part).at (meaning_of c.parts (cursor_of c.cursors input.view.0 input.part) input.part input.what)
    else c
