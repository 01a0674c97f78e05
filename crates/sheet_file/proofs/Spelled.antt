-- The line of a cell: what is written of it is read as it, and a line that is read is written so.
use Rattle.std.proofs.Common.{◌≡◌, ℕ, ◌+◌, ◌-◌, ◌^◌, ◌<◌, ◌≤◌, Bool, true, false, not, cond, eqb, List, [], ◌∷◌, ◌++◌, length, Option, Some, None, refl, ap, sym, ◌∙◌, subst, arith, append_assoc}
use Rattle.std.specs.Prelude.{nat_le}
use Rattle.std.specs.Option.{option_map, option_and_then}
use Rattle.std.specs.List.{list_all, AllByRecursion}
use Rattle.std.specs.Char.{is_ascii_digit}
use Rattle.std.specs.Fmt.{decimal}
use Rattle.std.proofs.lemmas.Bool.{and_parts, and_from, both_ways}
use Rattle.std.proofs.lemmas.Bool.Decides.{nat_tests}
use Rattle.std.proofs.lemmas.Option.{same_Some, option_and_then_some}
use Rattle.std.proofs.lemmas.Str.{IsUtf8-from_is_utf8}
use Rattle.cool_words.specs.Words.{cut_at, with_front}
use Rattle.sheet_cells.specs.Cells.{is_raw_byte}
use Rattle.sheet_cells.specs.References.{is_name_letter}
use Rattle.formula_base.specs.Ranges.{Position}
use Rattle.part_calc.specs.Kept.{IsEntry}
use Rattle.part_calc.specs.Text.{column_letters, reference_text, cell_line}
use Rattle.sheet_calc.specs.Books.{position_of}
use Rattle.sheet_file.specs.Lines.{in_front, lines_of, before_newline, position_named, raw_written, Cell, cell_with, cell_by, cell_in, cell_of_text, cell_said}
use Rattle.sheet_file.proofs.CutLaws.{cut_is, cut_join, no_lines, line_step, text_cut}
use Rattle.sheet_file.proofs.LineLaws.{IsSaid, said_is, said_cell, raw_some}
use Rattle.sheet_file.proofs.Words.{digits_of, plain_spelled, plain_written, column_capitals, name_spelled, name_written, join_all}

-- a cell that a file can have a line of
pub record IsWritable (parts : ℕ) (cell : Cell) : Type 0 where
  pub part : cell.0.part < parts
  pub entry : IsEntry (position_of cell.0, cell.1)

-- its line
abbrev pub line_of : Cell → List ℕ
line_of cell = cell_line cell.0.part (position_of cell.0, cell.1)

text_of : Cell → List ℕ
text_of cell = decimal cell.0.part ++ 32 ∷ (reference_text (position_of cell.0) ++ 32 ∷ cell.1)

line_split : (cell : Cell) → line_of cell ≡ text_of cell ++ 10 ∷ []
unfolding text_of cell_line
line_split cell =
    sym (append_assoc (decimal cell.0.part) (32 ∷ (reference_text (position_of cell.0) ++ 32 ∷ cell.1)) (10 ∷ [])
    ∙ ap (λ (t : List ℕ). decimal cell.0.part ++ 32 ∷ t) (append_assoc (reference_text (position_of cell.0)) (32 ∷ cell.1) (10 ∷ [])))

-- ---- texts without a byte

pub clean_from : (byte : ℕ) (text : List ℕ) → list_all (λ c. not (eqb c byte)) text ≡ true → cut_at byte text ≡ None
clean_from byte [] h = refl
clean_from byte (c ∷ text) h = by (eqb c byte) (and_parts (not (eqb c byte)) (list_all (λ d. not (eqb d byte)) text) h).0 (clean_from byte text (and_parts (not (eqb c byte)) (list_all (λ d. not (eqb d byte)) text) h).1)
  where
    by : (b : Bool) → not b ≡ true → cut_at byte text ≡ None → cond b (Some ([], text)) (option_map (with_front c) (cut_at byte text)) ≡ None
    by true e rest = absurd (both_ways false refl e)
    by false e rest = ap (option_map (with_front c)) rest

weaker : (p q : ℕ → Bool) → ((c : ℕ) → p c ≡ true → q c ≡ true) → (xs : List ℕ) → list_all p xs ≡ true → list_all q xs ≡ true
weaker p q step [] h = refl
weaker p q step (c ∷ xs) h =
    let parts = and_parts (p c) (list_all p xs) h in
    and_from (q c) (list_all q xs) (step c parts.0) (weaker p q step xs parts.1)

pub digit_other : (c : ℕ) → is_ascii_digit c ≡ true → (not (eqb c 32) ≡ true) × (not (eqb c 10) ≡ true)
digit_other c h = (grind (arith, nat_tests), grind (arith, nat_tests))

letter_other : (c : ℕ) → is_name_letter c ≡ true → (not (eqb c 32) ≡ true) × (not (eqb c 10) ≡ true)
letter_other c h = (grind (arith, nat_tests), grind (arith, nat_tests))

raw_other : (c : ℕ) → is_raw_byte c ≡ true → not (eqb c 10) ≡ true
raw_other c h = grind (arith, nat_tests)

pub digits_clean : (n byte : ℕ) → n < 2 ^ 64 → ((c : ℕ) → is_ascii_digit c ≡ true → not (eqb c byte) ≡ true) → list_all (λ c. not (eqb c byte)) (decimal n) ≡ true
digits_clean n byte small step = weaker is_ascii_digit (λ c. not (eqb c byte)) step (decimal n) (digits_of n small)

name_clean : (p : Position) (byte : ℕ) → p.0 < 4096 → p.1 < 256 → ((c : ℕ) → is_ascii_digit c ≡ true → not (eqb c byte) ≡ true) → ((c : ℕ) → is_name_letter c ≡ true → not (eqb c byte) ≡ true) → list_all (λ c. not (eqb c byte)) (reference_text p) ≡ true
name_clean p byte row column digit letter =
    join_all (λ c. not (eqb c byte)) (column_letters p.1) (decimal (p.0 + 1))
    (weaker is_name_letter (λ c. not (eqb c byte)) letter (column_letters p.1) (column_capitals p.1 column).letters)
    (digits_clean (p.0 + 1) byte (omega (arith, row)) digit)

text_clean : (cell : Cell) (parts : ℕ) → parts ≤ 16 → IsWritable parts cell → cut_at 10 (text_of cell) ≡ None
unfolding text_of
text_clean cell parts few is =
    let row = is.entry.row in
    let part : cell.0.part < 2 ^ 64 = let low = is.part in omega (arith, few, low) in
    let raw : list_all is_raw_byte cell.1 ≡ true = (and_parts (nat_le (length cell.1) 1024) (list_all is_raw_byte cell.1) is.entry.raw).1 in
    clean_from 10 (decimal cell.0.part ++ 32 ∷ (reference_text (position_of cell.0) ++ 32 ∷ cell.1))
    (join_all (λ c. not (eqb c 10)) (decimal cell.0.part) (32 ∷ (reference_text (position_of cell.0) ++ 32 ∷ cell.1))
    (digits_clean cell.0.part 10 part (λ c d. (digit_other c d).1))
    (join_all (λ c. not (eqb c 10)) (reference_text (position_of cell.0)) (32 ∷ cell.1)
    (name_clean (position_of cell.0) 10 is.entry.row is.entry.column (λ c d. (digit_other c d).1) (λ c d. (letter_other c d).1))
    (weaker is_raw_byte (λ c. not (eqb c 10)) raw_other cell.1 raw)))

-- ---- what is written is read

text_read : (cell : Cell) (parts : ℕ) → parts ≤ 16 → IsWritable parts cell → cell_of_text parts (text_of cell) ≡ Some cell
unfolding text_of
text_read cell parts few is =
    let at = cell.0 in
    let raw = cell.1 in
    let name = reference_text (position_of cell.0) in
    let low = is.part in
    let small : cell.0.part < 2 ^ 64 = omega (arith, few, low) in
    let first : cut_at 32 (decimal at.part ++ 32 ∷ (name ++ 32 ∷ raw)) ≡ Some (decimal at.part, name ++ 32 ∷ raw) =
    cut_join 32 (decimal at.part) (name ++ 32 ∷ raw) (clean_from 32 (decimal at.part) (digits_clean at.part 32 small (λ c d. (digit_other c d).0))) in
    let second : cut_at 32 (name ++ 32 ∷ raw) ≡ Some (name, raw) =
    cut_join 32 name raw (clean_from 32 name (name_clean (position_of cell.0) 32 is.entry.row is.entry.column (λ c d. (digit_other c d).0) (λ c d. (letter_other c d).0))) in
    ap (option_and_then (cell_in parts)) first
    ∙ ap (option_and_then (cell_by parts (decimal at.part))) second
    ∙ ap (option_and_then (λ p. option_and_then (λ position. option_map (cell_with p position) (raw_written raw)) (position_named name))) (plain_written (parts - 1) at.part (omega (arith, low)) (omega (arith, few, low)))
    ∙ ap (option_and_then (λ position. option_map (cell_with at.part position) (raw_written raw))) (name_written (position_of cell.0) is.entry.row is.entry.column)
    ∙ ap (option_map (cell_with at.part (position_of cell.0))) (raw_some raw (IsUtf8-from_is_utf8 raw is.entry.utf8) is.entry.some is.entry.raw)

pub line_read : (cell : Cell) (parts : ℕ) → parts ≤ 16 → IsWritable parts cell → cell_said parts (line_of cell) ≡ Some cell
unfolding cell_said
line_read cell parts few is =
    ap (option_and_then (cell_of_text parts)) (ap before_newline (line_split cell) ∙ text_cut (text_of cell) (text_clean cell parts few is))
    ∙ text_read cell parts few is

-- the line is one that is cut off
pub line_cut : (cell : Cell) (parts : ℕ) (rest : List ℕ) → parts ≤ 16 → IsWritable parts cell → (text : List ℕ) × (cut_at 10 (line_of cell ++ rest) ≡ Some (text, rest)) × (text ++ 10 ∷ [] ≡ line_of cell)
line_cut cell parts rest few is = (
  text_of cell,
  ap (λ (t : List ℕ). cut_at 10 (t ++ rest)) (line_split cell) ∙ ap (cut_at 10) (append_assoc (text_of cell) (10 ∷ []) rest) ∙ cut_join 10 (text_of cell) rest (text_clean cell parts few is),
  sym (line_split cell),
)

-- ---- what is read is written so

-- a line has a newline only at its end
abbrev pub IsLine : List ℕ → Type 0
IsLine line = (front back : List ℕ) → cut_at 10 line ≡ Some (front, back) → back ≡ []

text_spelled : (cell : Cell) (parts : ℕ) (text : List ℕ) → parts ≤ 16 → IsSaid parts text cell → text ≡ text_of cell
unfolding text_of
text_spelled cell parts text few said =
    said.front.joined
    ∙ ap (λ (t : List ℕ). said.part ++ 32 ∷ t) said.back.joined
    ∙ ap (λ (t : List ℕ). t ++ 32 ∷ (said.name ++ 32 ∷ cell.1)) (sym (plain_spelled (parts - 1) said.part cell.0.part (omega (arith, few)) said.number))
    ∙ ap (λ (t : List ℕ). decimal cell.0.part ++ 32 ∷ (t ++ 32 ∷ cell.1)) (sym (name_spelled said.name (position_of cell.0) said.position))

pub record IsLineOf (parts : ℕ) (line : List ℕ) (cell : Cell) : Type 0 where
  pub spelled : line ≡ line_of cell
  pub writable : IsWritable parts cell

writable : (cell : Cell) (parts : ℕ) (text : List ℕ) → 1 ≤ parts → IsSaid parts text cell → IsWritable parts cell
writable cell parts text some said =
    let at = said_cell parts text cell some said in
    record { part = at.part; entry = record { row = at.row; column = at.col; some = said.some; raw = said.raw; utf8 = said.utf8 } }

pub line_spelled : (cell : Cell) (parts : ℕ) (line : List ℕ) → 1 ≤ parts → parts ≤ 16 → IsLine line → cell_said parts line ≡ Some cell → IsLineOf parts line cell
unfolding cell_said
line_spelled cell parts line some few one h =
    option_and_then_some (cell_of_text parts) (before_newline line) cell h (λ text cut said. by (cut_at 10 line) refl text cut (said_is parts text cell said))
  where
    by : (o : Option (List ℕ × List ℕ)) → cut_at 10 line ≡ o → (text : List ℕ) → option_map (λ sides. sides.0) o ≡ Some text → IsSaid parts text cell → IsLineOf parts line cell
    by None is text e said = cc
    by (Some s) is text e said =
        let same : s.0 ≡ text = same_Some s.0 text e in
        let joined = (cut_is 10 line s.0 s.1 is).joined in
        record {
          spelled =
              joined ∙ ap (λ (t : List ℕ). s.0 ++ 10 ∷ t) (one s.0 s.1 is) ∙ ap (λ (t : List ℕ). t ++ 10 ∷ []) (same ∙ text_spelled cell parts text few said) ∙ sym (line_split cell);
          writable = writable cell parts text some said;
        }

-- ---- the lines of a file

pub all_lines_are : (bytes : List ℕ) → AllByRecursion IsLine (lines_of bytes)
all_lines_are [] = subst (AllByRecursion IsLine) (sym no_lines) tt
all_lines_are (c ∷ bytes) = by (eqb c 10) refl (all_lines_are bytes)
  where
    last : (front back : List ℕ) → cut_at 10 (10 ∷ []) ≡ Some (front, back) → back ≡ []
    last front back e = sym (ap (λ (q : List ℕ × List ℕ). q.1) (same_Some ([], []) (front, back) e))

    longer : (b : Bool) → eqb c 10 ≡ b → b ≡ false → (line : List ℕ) → IsLine line → IsLine (c ∷ line)
    longer b is no_newline line one front back e =
        deeper (cut_at 10 line) refl (sym (ap (λ (t : Bool). cond t (Some ([], line)) (option_map (with_front c) (cut_at 10 line))) (is ∙ no_newline)) ∙ e)
      where
        deeper : (o : Option (List ℕ × List ℕ)) → cut_at 10 line ≡ o → option_map (with_front c) o ≡ Some (front, back) → back ≡ []
        deeper None cut f = cc
        deeper (Some s) cut f = sym (ap (λ (q : List ℕ × List ℕ). q.1) (same_Some (with_front c s) (front, back) f)) ∙ one s.0 s.1 cut

    front_all : eqb c 10 ≡ false → (lines : List (List ℕ)) → AllByRecursion IsLine lines → AllByRecursion IsLine (in_front c lines)
    front_all is [] all = (longer (eqb c 10) refl is [] (λ front back e. cc), tt)
    front_all is (line ∷ lines) all = (longer (eqb c 10) refl is line all.0, all.1)

    by : (b : Bool) → eqb c 10 ≡ b → AllByRecursion IsLine (lines_of bytes) → AllByRecursion IsLine (lines_of (c ∷ bytes))
    by true is all = subst (AllByRecursion IsLine) (sym (line_step c bytes true is)) (last, all)
    by false is all = subst (AllByRecursion IsLine) (sym (line_step c bytes false is)) (front_all is (lines_of bytes) all)

-- the bytes of lines
abbrev pub joined : List (List ℕ) → List ℕ
joined [] = []
joined (line ∷ lines) = line ++ joined lines

pub lines_joined : (bytes : List ℕ) → joined (lines_of bytes) ≡ bytes
lines_joined [] = ap joined no_lines
lines_joined (c ∷ bytes) = by (eqb c 10) refl (lines_joined bytes)
  where
    front_joined : (lines : List (List ℕ)) → joined (in_front c lines) ≡ c ∷ joined lines
    front_joined [] = refl
    front_joined (line ∷ lines) = refl

    by : (b : Bool) → eqb c 10 ≡ b → joined (lines_of bytes) ≡ bytes → joined (lines_of (c ∷ bytes)) ≡ c ∷ bytes
    by true is rest = ap joined (line_step c bytes true is) ∙ ap (λ (t : List ℕ). 10 ∷ t) rest ∙ ap (λ (d : ℕ). d ∷ bytes) (sym (newline is))
      where
        newline : eqb c 10 ≡ true → c ≡ 10
        newline h = grind (arith, nat_tests)
    by false is rest = ap joined (line_step c bytes false is) ∙ front_joined (lines_of bytes) ∙ ap (λ (t : List ℕ). c ∷ t) rest
