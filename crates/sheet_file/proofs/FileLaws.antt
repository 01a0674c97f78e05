-- What is written of a book is read again, and a book has one spelling.
use Rattle.std.proofs.Common.{◌≡◌, ℕ, ◌+◌, ◌<◌, ◌≤◌, Bool, true, false, not, cond, eqb, le-leb, le-ltb, List, [], ◌∷◌, ◌++◌, length, map, Option, Some, None, Ok, Err, refl, ap, sym, ◌∙◌, subst, arith, append_assoc}
use Rattle.std.specs.Prelude.{fold, replicate, codes, nat_lt}
use Rattle.std.specs.Option.{option_map, option_and_then}
use Rattle.std.specs.List.{AllByRecursion, list_all}
use Rattle.std.specs.Fmt.{decimal}
use Rattle.std.specs.Str.{bytes_eq}
use Rattle.std.proofs.lemmas.Bool.{cond-false}
use Rattle.std.proofs.lemmas.Option.{same_Some, option_and_then_some}
use Rattle.std.proofs.lemmas.Slice.Eq.{bytes_eq-Decides}
use Rattle.cool_words.specs.Words.{cut_at}
use Rattle.sheet_cells.specs.declared.cells.CellRef.{CellRef}
use Rattle.sheet_calc.specs.Books.{Parts, IsBook}
use Rattle.sheet_calc.specs.FileText.{all_lines, file_text}
use Rattle.sheet_file.specs.declared.fault.BookFault.{BookFault}
use Rattle.sheet_file.specs.declared.fault.BookFault.TheVariants.{TooLarge, OutOfOrder}
use Rattle.sheet_file.specs.Lines.{Cell, lines_of, before_newline, some_parts, parts_in, parts_of_text, parts_said, cell_said}
use Rattle.sheet_file.specs.BookFile.{comes_after, first_fault, with_said, unless_fault, with_lines, cells_read, parts_read, header_fault, lines_read, book_of}
use Rattle.sheet_file.proofs.CutLaws.{cut_is, cut_join, no_lines}
use Rattle.sheet_file.proofs.Words.{plain_spelled, plain_written, join_all}
use Rattle.sheet_file.proofs.Spelled.{clean_from, digit_other, digits_clean, IsWritable, line_of, IsLine, line_spelled, all_lines_are, joined, lines_joined}
use Rattle.sheet_file.proofs.ReadLaws.{parts_known, parts_cut, header_cut}
use Rattle.sheet_file.proofs.Written.{cells_from, parts_written, lines_apart, cells_said, parts_writable, parts_ordered, no_fault_in, parts_made}
use Rattle.sheet_file.proofs.Gathered.{Ordered, IsGathered, gathered, empty_below, empty_book, empty_length, empty_lines}

-- ---- what is read is written so

-- the cells that lines say
record IsRead (count : ℕ) (before : Option CellRef) (lines : List (List ℕ)) : Type 0 where
  pub cells : List Cell
  pub said : map (cell_said count) lines ≡ map Some cells
  pub spelled : joined lines ≡ joined (map line_of cells)
  pub writable : AllByRecursion (IsWritable count) cells
  pub ordered : Ordered before cells

lines_said : (count k : ℕ) (before : Option CellRef) (lines : List (List ℕ)) → 1 ≤ count → count ≤ 16 → AllByRecursion IsLine lines → first_fault k before (map (cell_said count) lines) ≡ None → IsRead count before lines
lines_said count k before [] some few all fine = record { cells = []; said = refl; spelled = refl; writable = tt; ordered = tt }
lines_said count k before (line ∷ lines) some few all fine =
    by (λ b h. lines_said count (k + 1) b lines some few all.1 h) (cell_said count line) refl fine
  where
    ordered_by : ((b : Option CellRef) → first_fault (k + 1) b (map (cell_said count) lines) ≡ None → IsRead count b lines) → (cell : Cell) → cell_said count line ≡ Some cell
        → (b : Bool) → comes_after before cell.0 ≡ b → cond b (first_fault (k + 1) (Some cell.0) (map (cell_said count) lines)) (Some (OutOfOrder k)) ≡ None → IsRead count before (line ∷ lines)
    ordered_by ih cell is true after e =
        let rest = ih (Some cell.0) e in
        let one = line_spelled cell count line some few all.0 is in
        record {
          cells = cell ∷ rest.cells;
          said = ap (λ (o : Option Cell). o ∷ map (cell_said count) lines) is ∙ ap (λ (os : List (Option Cell)). Some cell ∷ os) rest.said;
          spelled = ap (λ (t : List ℕ). t ++ joined lines) one.spelled ∙ ap (λ (t : List ℕ). line_of cell ++ t) rest.spelled;
          writable = (one.writable, rest.writable);
          ordered = (after, rest.ordered);
        }
    ordered_by ih cell is false after e = cc

    by : ((b : Option CellRef) → first_fault (k + 1) b (map (cell_said count) lines) ≡ None → IsRead count b lines) → (o : Option Cell) → cell_said count line ≡ o → first_fault k before (o ∷ map (cell_said count) lines) ≡ None → IsRead count before (line ∷ lines)
    by ih None is e = cc
    by ih (Some cell) is e = ordered_by ih cell is (comes_after before cell.0) refl e

-- how many parts the second line says that there are
record IsCount (line : List ℕ) (count : ℕ) : Type 0 where
  pub some : 1 ≤ count
  pub few : count ≤ 16
  pub spelled : line ≡ codes "parts " ++ (decimal count ++ codes "\n")

count_spelled : (line : List ℕ) (count : ℕ) → IsLine line → parts_said line ≡ Some count → IsCount line count
unfolding parts_said
count_spelled line count one h = option_and_then_some parts_of_text (before_newline line) count h (λ text cut said. by (cut_at 10 line) refl text cut said)
  where
    by : (o : Option (List ℕ × List ℕ)) → cut_at 10 line ≡ o → (text : List ℕ) → option_map (λ sides. sides.0) o ≡ Some text → parts_of_text text ≡ Some count → IsCount line count
    by None is text e said = cc
    by (Some s) is text e said =
        let known = parts_known text count said in
        let rest = known.2.0 in
        let word : text ≡ codes "parts" ++ 32 ∷ known.2.0 = (cut_is 32 text (codes "parts") known.2.0 known.2.1).joined in
        let number : decimal count ≡ known.2.0 = plain_spelled 16 known.2.0 count (omega arith) known.2.2 in
        record {
          some = known.0;
          few = known.1;
          spelled =
              (cut_is 10 line s.0 s.1 is).joined
              ∙ ap (λ (t : List ℕ). s.0 ++ 10 ∷ t) (one s.0 s.1 is)
              ∙ ap (λ (t : List ℕ). t ++ 10 ∷ []) (same_Some s.0 text e ∙ word ∙ ap (λ (t : List ℕ). codes "parts" ++ 32 ∷ t) (sym number));
        }

record IsSpelled (bytes : List ℕ) (parts : Parts) : Type 0 where
  pub book : IsBook parts
  pub text : bytes ≡ file_text parts

no_fault : (fault : Option BookFault) (made parts : Parts) → unless_fault fault made ≡ Ok parts → (fault ≡ None) × (made ≡ parts)
no_fault None made parts e = (refl, cc)
no_fault (Some f) made parts e = cc

file_spelled : (bytes line second : List ℕ) (lines : List (List ℕ)) (count : ℕ) (parts : Parts) → bytes ≡ line ++ (second ++ joined lines) → line ≡ codes "coolsheet 1\n" → IsCount second count → AllByRecursion IsLine lines
    → with_lines (replicate count []) 3 None (map (cell_said count) lines) ≡ Ok parts → IsSpelled bytes parts
unfolding file_text
file_spelled bytes line second lines count parts joined_is first number all told =
    let made = no_fault (first_fault 3 None (map (cell_said count) lines)) (fold with_said (replicate count []) (map (cell_said count) lines)) parts told in
    let read = lines_said count 3 None lines number.some number.few all made.0 in
    let is : fold with_said (replicate count []) (map Some read.cells) ≡ parts = ap (fold with_said (replicate count [])) (sym read.said) ∙ made.1 in
    let told_of = gathered read.cells (replicate count []) None (empty_book count number.some number.few) (λ at after. empty_below 0 count at)
    (subst (λ (n : ℕ). AllByRecursion (IsWritable n) read.cells) (sym (empty_length count)) read.writable) read.ordered in
    let gathered_parts : IsGathered (replicate count []) read.cells parts = subst (IsGathered (replicate count []) read.cells) is told_of in
    let cells : joined lines ≡ all_lines 0 parts = read.spelled ∙ ap (λ (t : List ℕ). t ++ joined (map line_of read.cells)) (sym (empty_lines 0 count)) ∙ sym gathered_parts.lines in
    let long : count ≡ length parts = sym (gathered_parts.count ∙ empty_length count) in
    record {
      book = gathered_parts.book;
      text =
          joined_is
          ∙ ap (λ (t : List ℕ). t ++ (second ++ joined lines)) first
          ∙ ap (λ (t : List ℕ). codes "coolsheet 1\n" ++ (t ++ joined lines)) number.spelled
          ∙ ap (λ (t : List ℕ). codes "coolsheet 1\n" ++ (codes "parts " ++ t)) (append_assoc (decimal count) (codes "\n") (joined lines))
          ∙ ap (λ (t : List ℕ). codes "coolsheet 1\n" ++ (codes "parts " ++ (decimal count ++ (codes "\n" ++ t)))) cells
          ∙ ap (λ (n : ℕ). codes "coolsheet 1\n" ++ (codes "parts " ++ (decimal n ++ (codes "\n" ++ all_lines 0 parts)))) long;
    }

spelled : (bytes : List ℕ) (parts : Parts) → 0 < length bytes → book_of bytes ≡ Ok parts → IsSpelled bytes parts
unfolding book_of
spelled bytes parts some told = large (nat_lt 2097152 (length bytes)) told
  where
    counted : (line second : List ℕ) (lines : List (List ℕ)) → bytes ≡ line ++ (second ++ joined lines) → line ≡ codes "coolsheet 1\n" → IsLine second → AllByRecursion IsLine lines → (o : Option ℕ) → parts_said second ≡ o → cells_read o lines ≡ Ok parts → IsSpelled bytes parts
    counted line second lines is first one all None number e = cc
    counted line second lines is first one all (Some count) number e = file_spelled bytes line second lines count parts is first (count_spelled second count one number) all e

    behind : (line : List ℕ) (lines : List (List ℕ)) → bytes ≡ line ++ joined lines → line ≡ codes "coolsheet 1\n" → AllByRecursion IsLine lines → parts_read lines ≡ Ok parts → IsSpelled bytes parts
    behind line [] is first all e = cc
    behind line (second ∷ lines) is first all e = counted line second lines is first all.0 all.1 (parts_said second) refl e

    header : (line : List ℕ) (lines : List (List ℕ)) → bytes ≡ line ++ joined lines → AllByRecursion IsLine lines → (b : Bool) → bytes_eq line (codes "coolsheet 1\n") ≡ b → cond b (parts_read lines) (Err (header_fault line)) ≡ Ok parts → IsSpelled bytes parts
    header line lines is all true first e = behind line lines is ((bytes_eq-Decides line (codes "coolsheet 1\n")).0 first) all e
    header line lines is all false first e = cc

    cut : (lines : List (List ℕ)) → joined lines ≡ bytes → AllByRecursion IsLine lines → lines_read lines ≡ Ok parts → IsSpelled bytes parts
    cut [] is all e = absurd (let none : length bytes ≡ 0 = ap (λ (t : List ℕ). length t) (sym is) in omega (arith, none, some))
    cut (line ∷ lines) is all e = header line lines (sym is) all.1 (bytes_eq line (codes "coolsheet 1\n")) refl e

    large : (b : Bool) → cond b (Err TooLarge) (lines_read (lines_of bytes)) ≡ Ok parts → IsSpelled bytes parts
    large true e = cc
    large false e = cut (lines_of bytes) (lines_joined bytes) (all_lines_are bytes) e

-- what a file says are parts that a book can have
pub read_is_book : (bytes : List ℕ) (parts : Parts) → book_of bytes ≡ Ok parts → IsBook parts
unfolding book_of
read_is_book [] parts told =
    let one : [] ∷ [] ≡ parts = (no_fault None ([] ∷ []) parts (sym (ap lines_read no_lines) ∙ told)).1 in
    subst IsBook one (empty_book 1 (omega arith) (omega arith))
read_is_book (c ∷ bytes) parts told = (spelled (c ∷ bytes) parts (omega arith) told).book

-- a file with a byte is the one text of the book that it says
pub read_is_written : (bytes : List ℕ) (parts : Parts) → 0 < length bytes → book_of bytes ≡ Ok parts → bytes ≡ file_text parts
read_is_written bytes parts some told = (spelled bytes parts some told).text

-- ---- what is written is read

-- the text of the second line
count_text : ℕ → List ℕ
count_text n = codes "parts" ++ 32 ∷ decimal n

count_cut : (n : ℕ) (rest : List ℕ) → n ≤ 16 → cut_at 10 (codes "parts " ++ (decimal n ++ (codes "\n" ++ rest))) ≡ Some (count_text n, rest)
unfolding count_text
count_cut n rest few =
    let digits : list_all (λ c. not (eqb c 10)) (decimal n) ≡ true = digits_clean n 10 (omega (arith, few)) (λ c d. (digit_other c d).1) in
    let clean : cut_at 10 (codes "parts" ++ 32 ∷ decimal n) ≡ None = clean_from 10 (codes "parts" ++ 32 ∷ decimal n) (join_all (λ c. not (eqb c 10)) (codes "parts ") (decimal n) refl digits) in
    cut_join 10 (codes "parts" ++ 32 ∷ decimal n) rest clean

count_read : (n : ℕ) → 1 ≤ n → n ≤ 16 → parts_of_text (count_text n) ≡ Some n
unfolding count_text
count_read n some few =
    let cut : cut_at 32 (codes "parts" ++ 32 ∷ decimal n) ≡ Some (codes "parts", decimal n) = cut_join 32 (codes "parts") (decimal n) refl in
    ap (option_and_then parts_in) cut
    ∙ ap (option_and_then some_parts) (plain_written 16 n few (omega (arith, few)))
    ∙ ap (λ (b : Bool). cond b (Some n) None) (le-leb 1 n some)

-- the lines of the cells are read
cells_again : (parts : Parts) → IsBook parts → with_lines (replicate (length parts) []) 3 None (map (cell_said (length parts)) (lines_of (all_lines 0 parts))) ≡ Ok parts
cells_again parts book =
    let few = book.few in
    let cells = cells_from 0 parts in
    let writable = parts_writable (length parts) 0 parts (omega arith) book.each in
    let said : map (cell_said (length parts)) (lines_of (all_lines 0 parts)) ≡ map Some (cells_from 0 parts) =
    ap (λ (bytes : List ℕ). map (cell_said (length parts)) (lines_of bytes)) (parts_written 0 parts)
    ∙ ap (map (cell_said (length parts))) (lines_apart (length parts) cells few writable)
    ∙ cells_said (length parts) cells few writable in
    ap (with_lines (replicate (length parts) []) 3 None) said
    ∙ ap (λ (o : Option BookFault). unless_fault o (fold with_said (replicate (length parts) []) (map Some (cells_from 0 parts)))) (no_fault_in 3 None cells (parts_ordered 0 parts None book.each tt))
    ∙ ap (λ (made : Parts). Ok made) (parts_made [] parts 0 refl book.each)

-- the file of parts that a book can have says these parts
pub file_is_read : (parts : Parts) → IsBook parts → length (file_text parts) ≤ 2097152 → book_of (file_text parts) ≡ Ok parts
unfolding book_of file_text
file_is_read parts book short =
    let rest = codes "parts " ++ (decimal (length parts) ++ (codes "\n" ++ all_lines 0 parts)) in
    let small : nat_lt 2097152 (length (file_text parts)) ≡ false = le-ltb 2097152 (length (file_text parts)) short in
    cond-false (nat_lt 2097152 (length (file_text parts))) (Err TooLarge) (lines_read (lines_of (file_text parts))) small
    ∙ header_cut (file_text parts) (codes "coolsheet 1") (codes "parts " ++ (decimal (length parts) ++ (codes "\n" ++ all_lines 0 parts))) (cut_join 10 (codes "coolsheet 1") (codes "parts " ++ (decimal (length parts) ++ (codes "\n" ++ all_lines 0 parts))) refl)
    ∙ parts_cut (codes "parts " ++ (decimal (length parts) ++ (codes "\n" ++ all_lines 0 parts))) (count_text (length parts)) (all_lines 0 parts) (count_cut (length parts) (all_lines 0 parts) book.few)
    ∙ ap (λ (o : Option ℕ). cells_read o (lines_of (all_lines 0 parts))) (count_read (length parts) book.some book.few)
    ∙ cells_again parts book
