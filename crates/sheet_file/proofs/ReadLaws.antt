-- Reading line by line says what the lines say.
use Rattle.std.proofs.Common.{◌≡◌, ℕ, ◌+◌, ◌<◌, ◌≤◌, Bool, true, false, cond, List, [], ◌∷◌, ◌++◌, length, map, Option, Some, None, Ok, Err, refl, ap, sym, ◌∙◌, arith}
use Rattle.std.proofs.Math.ListN.{length-set}
use Rattle.std.specs.Prelude.{fold, replicate, codes, nat_le, Result, IfErr}
use Rattle.std.specs.Str.{bytes_eq}
use Rattle.std.specs.Option.{option_map, option_and_then}
use Rattle.std.proofs.lemmas.Bool.{both_ways, false_from_ne_true, leb-true}
use Rattle.std.proofs.lemmas.List.{append_cancel_right}
use Rattle.std.proofs.lemmas.Slice.Eq.{bytes_eq-Decides}
use Rattle.std.proofs.lemmas.Option.{same_Some, none-some, option_and_then_some}
use Rattle.cool_words.specs.Words.{cut_at}
use Rattle.sheet_cells.specs.declared.cells.CellRef.{CellRef}
use Rattle.part_calc.specs.Parts.{with_text}
use Rattle.sheet_calc.specs.Books.{Parts, position_of, part_at, with_cell}
use Rattle.sheet_file.specs.declared.fault.BookFault.{BookFault}
use Rattle.sheet_file.specs.declared.fault.BookFault.TheVariants.{NoHeader, BadLine, OutOfOrder}
use Rattle.sheet_file.specs.Lines.{Cell, lines_of, plain_number, some_parts, parts_in, parts_of_text, parts_said, cell_of_text, cell_said, first_said}
use Rattle.sheet_file.specs.BookFile.{comes_after, first_fault, with_said, unless_fault, with_lines, cells_read, parts_read, header_fault, lines_read, is_early}
use Rattle.sheet_file.proofs.CutLaws.{cut_is, cut_join, no_lines, lines_cut, lines_uncut, text_cut, text_uncut}
use Rattle.sheet_file.proofs.LineLaws.{number_small, plain_is}

-- ---- the first line of some lines

said_uncut : (parts : ℕ) (line : List ℕ) → cut_at 10 line ≡ None → cell_said parts line ≡ None
unfolding cell_said
said_uncut parts line none = ap (option_and_then (cell_of_text parts)) (text_uncut line none)

said_cut : (parts : ℕ) (text : List ℕ) → cut_at 10 text ≡ None → cell_said parts (text ++ 10 ∷ []) ≡ cell_of_text parts text
unfolding cell_said
said_cut parts text clean = ap (option_and_then (cell_of_text parts)) (text_cut text clean)

pub first_uncut : (parts : ℕ) (bytes : List ℕ) → cut_at 10 bytes ≡ None → first_said parts (lines_of bytes) ≡ None
first_uncut parts [] none = ap (first_said parts) no_lines
first_uncut parts (c ∷ bytes) none =
    ap (first_said parts) (lines_uncut (c ∷ bytes) none (omega arith))
    ∙ ap (option_map (λ cell. (cell, []))) (said_uncut parts (c ∷ bytes) none)

pub first_cut : (parts : ℕ) (bytes text behind : List ℕ) → cut_at 10 bytes ≡ Some (text, behind) → first_said parts (lines_of bytes) ≡ option_map (λ cell. (cell, lines_of behind)) (cell_of_text parts text)
first_cut parts bytes text behind h =
    ap (first_said parts) (lines_cut bytes text behind h)
    ∙ ap (option_map (λ cell. (cell, lines_of behind))) (said_cut parts text (cut_is 10 bytes text behind h).clean)

-- ---- a turn of reading

first_some : (parts : ℕ) (lines : List (List ℕ)) (cell : Cell) (behind : List (List ℕ)) → first_said parts lines ≡ Some (cell, behind) → map (cell_said parts) lines ≡ Some cell ∷ map (cell_said parts) behind
first_some parts [] cell behind h = cc
first_some parts (line ∷ lines) cell behind h = by (cell_said parts line) refl h
  where
    by : (o : Option Cell) → cell_said parts line ≡ o → option_map {U = Cell × List (List ℕ)} (λ x. (x, lines)) o ≡ Some (cell, behind) → map (cell_said parts) (line ∷ lines) ≡ Some cell ∷ map (cell_said parts) behind
    by None is e = cc
    by (Some x) is e =
        let pair : (x, lines) ≡ (cell, behind) = same_Some (x, lines) (cell, behind) e in
        ap (λ (o : Option Cell). o ∷ map (cell_said parts) lines) is
        ∙ ap (λ (q : Cell × List (List ℕ)). Some q.0 ∷ map (cell_said parts) q.1) pair

first_none : (parts : ℕ) (line : List ℕ) (lines : List (List ℕ)) → first_said parts (line ∷ lines) ≡ None → cell_said parts line ≡ None
first_none parts line lines h = by (cell_said parts line) h
  where
    by : (o : Option Cell) → option_map {U = Cell × List (List ℕ)} (λ x. (x, lines)) o ≡ None → o ≡ None
    by None e = refl
    by (Some x) e = cc

-- where something stands there is a line
some_lines : (bytes : List ℕ) → 0 < length bytes → (line : List ℕ) × (lines : List (List ℕ)) × (lines_of bytes ≡ line ∷ lines)
some_lines bytes some = by (cut_at 10 bytes) refl
  where
    by : (o : Option (List ℕ × List ℕ)) → cut_at 10 bytes ≡ o → (line : List ℕ) × (lines : List (List ℕ)) × (lines_of bytes ≡ line ∷ lines)
    by None is = (bytes, [], lines_uncut bytes is some)
    by (Some s) is = (s.0 ++ 10 ∷ [], lines_of s.1, lines_cut bytes s.0 s.1 is)

pub lines_turn : (parts n : ℕ) (draft : Parts) (before : Option CellRef) (lines behind : List (List ℕ)) (cell : Cell) → Some (cell, behind) ≡ first_said parts lines → comes_after before cell.0 ≡ true
    → with_lines draft n before (map (cell_said parts) lines) ≡ with_lines (with_cell draft cell.0 cell.1) (n + 1) (Some cell.0) (map (cell_said parts) behind)
lines_turn parts n draft before lines behind cell h ordered =
    ap (with_lines draft n before) (first_some parts lines cell behind (sym h))
    ∙ ap (λ (b : Bool). unless_fault (cond b (first_fault (n + 1) (Some cell.0) (map (cell_said parts) behind)) (Some (OutOfOrder n))) (fold with_said (with_cell draft cell.0 cell.1) (map (cell_said parts) behind))) ordered

pub lines_disordered : (parts n : ℕ) (draft : Parts) (before : Option CellRef) (lines behind : List (List ℕ)) (cell : Cell) → Some (cell, behind) ≡ first_said parts lines → comes_after before cell.0 ≡ false
    → with_lines draft n before (map (cell_said parts) lines) ≡ Err (OutOfOrder n)
lines_disordered parts n draft before lines behind cell h ordered =
    ap (with_lines draft n before) (first_some parts lines cell behind (sym h))
    ∙ ap (λ (b : Bool). unless_fault (cond b (first_fault (n + 1) (Some cell.0) (map (cell_said parts) behind)) (Some (OutOfOrder n))) (fold with_said (with_cell draft cell.0 cell.1) (map (cell_said parts) behind))) ordered

pub lines_bad : (parts n : ℕ) (draft : Parts) (before : Option CellRef) (bytes : List ℕ) → 0 < length bytes → None ≡ first_said parts (lines_of bytes) → with_lines draft n before (map (cell_said parts) (lines_of bytes)) ≡ Err (BadLine n)
lines_bad parts n draft before bytes some h = by (some_lines bytes some)
  where
    by : (line : List ℕ) × (lines : List (List ℕ)) × (lines_of bytes ≡ line ∷ lines) → with_lines draft n before (map (cell_said parts) (lines_of bytes)) ≡ Err (BadLine n)
    by (line, lines, is) =
        ap (λ (ls : List (List ℕ)). with_lines draft n before (map (cell_said parts) ls)) is
        ∙ ap (λ (o : Option Cell). with_lines draft n before (o ∷ map (cell_said parts) lines)) (first_none parts line lines (ap (first_said parts) (sym is) ∙ sym h))

pub lines_done : (parts n : ℕ) (draft : Parts) (before : Option CellRef) (bytes : List ℕ) → length bytes ≡ 0 → with_lines draft n before (map (cell_said parts) (lines_of bytes)) ≡ Ok draft
lines_done parts n draft before [] none = ap (λ (ls : List (List ℕ)). with_lines draft n before (map (cell_said parts) ls)) no_lines
lines_done parts n draft before (c ∷ bytes) none = absurd (omega arith)

pub same_length : (draft : Parts) (at : CellRef) (raw : List ℕ) → length (with_cell draft at raw) ≡ length draft
unfolding with_cell
same_length draft at raw = length-set draft at.part (with_text (part_at draft at.part) (position_of at) raw)

-- ---- the second line

parts_none : (line : List ℕ) → cut_at 10 line ≡ None → parts_said line ≡ None
unfolding parts_said
parts_none line none = ap (option_and_then parts_of_text) (text_uncut line none)

parts_text : (text : List ℕ) → cut_at 10 text ≡ None → parts_said (text ++ 10 ∷ []) ≡ parts_of_text text
unfolding parts_said
parts_text text clean = ap (option_and_then parts_of_text) (text_cut text clean)

pub parts_uncut : (bytes : List ℕ) → cut_at 10 bytes ≡ None → parts_read (lines_of bytes) ≡ Err (BadLine 2)
parts_uncut [] none = ap parts_read no_lines
parts_uncut (c ∷ bytes) none =
    ap parts_read (lines_uncut (c ∷ bytes) none (omega arith))
    ∙ ap (λ (o : Option ℕ). cells_read o []) (parts_none (c ∷ bytes) none)

pub parts_cut : (bytes text behind : List ℕ) → cut_at 10 bytes ≡ Some (text, behind) → parts_read (lines_of bytes) ≡ cells_read (parts_of_text text) (lines_of behind)
parts_cut bytes text behind h =
    ap parts_read (lines_cut bytes text behind h)
    ∙ ap (λ (o : Option ℕ). cells_read o (lines_of behind)) (parts_text text (cut_is 10 bytes text behind h).clean)

-- ---- the first line

abbrev header : List ℕ
header = codes "coolsheet 1"

is_text : (a b : List ℕ) → bytes_eq a b ≡ true → a ≡ b
is_text a b h = (bytes_eq-Decides a b).0 h

not_text : (a b : List ℕ) → (a ≡ b → ⊥) → bytes_eq a b ≡ false
not_text a b apart = false_from_ne_true (bytes_eq a b) (λ h. apart (is_text a b h))

header_clean : cut_at 10 header ≡ None
header_clean = refl

-- a text with a newline behind it is the header with its newline where the text is the header, and never the header without one
header_line : (text : List ℕ) (lines : List (List ℕ)) → cut_at 10 text ≡ None → lines_read ((text ++ 10 ∷ []) ∷ lines) ≡ cond (bytes_eq text header) (parts_read lines) (Err NoHeader)
header_line text lines clean = by (bytes_eq text header) refl
  where
    by : (b : Bool) → bytes_eq text header ≡ b → lines_read ((text ++ 10 ∷ []) ∷ lines) ≡ cond b (parts_read lines) (Err NoHeader)
    by true is = ap (λ (t : List ℕ). lines_read ((t ++ 10 ∷ []) ∷ lines)) (is_text text header is)
    by false is =
        let other : bytes_eq (text ++ 10 ∷ []) (codes "coolsheet 1\n") ≡ false =
        not_text (text ++ 10 ∷ []) (codes "coolsheet 1\n") (λ e. both_ways (bytes_eq text header) is ((bytes_eq-Decides text header).1 (append_cancel_right text header (10 ∷ []) e))) in
        let never : bytes_eq (text ++ 10 ∷ []) header ≡ false =
        not_text (text ++ 10 ∷ []) header (λ e. none-some (text, []) (sym header_clean ∙ ap (cut_at 10) (sym e) ∙ cut_join 10 text [] clean)) in
        ap (λ (b : Bool). cond b (parts_read lines) (Err (header_fault (text ++ 10 ∷ [])))) other
        ∙ ap (λ (b : Bool). Err (cond b (BadLine 1) NoHeader)) never

pub header_cut : (bytes text behind : List ℕ) → cut_at 10 bytes ≡ Some (text, behind) → lines_read (lines_of bytes) ≡ cond (bytes_eq text (codes "coolsheet 1")) (parts_read (lines_of behind)) (Err NoHeader)
header_cut bytes text behind h = ap lines_read (lines_cut bytes text behind h) ∙ header_line text (lines_of behind) (cut_is 10 bytes text behind h).clean

-- a last line without a newline is no header with one
pub header_uncut : (bytes : List ℕ) → cut_at 10 bytes ≡ None → 0 < length bytes → lines_read (lines_of bytes) ≡ Err (header_fault bytes)
header_uncut bytes none some =
    let other : bytes_eq bytes (codes "coolsheet 1\n") ≡ false =
    not_text bytes (codes "coolsheet 1\n") (λ e. none-some (header, []) (sym none ∙ ap (cut_at 10) e ∙ cut_join 10 header [] header_clean)) in
    ap lines_read (lines_uncut bytes none some)
    ∙ ap (λ (b : Bool). cond b (parts_read []) (Err (header_fault bytes))) other

-- ---- how many parts there are

pub parts_known : (text : List ℕ) (n : ℕ) → parts_of_text text ≡ Some n → (1 ≤ n) × (n ≤ 16) × ((rest : List ℕ) × (cut_at 32 text ≡ Some (codes "parts", rest)) × (plain_number 16 rest ≡ Some n))
parts_known text n h = option_and_then_some parts_in (cut_at 32 text) n h (λ s cut more. by s cut (bytes_eq s.0 (codes "parts")) refl more)
  where
    last : (s : List ℕ × List ℕ) → cut_at 32 text ≡ Some s → bytes_eq s.0 (codes "parts") ≡ true → (m : ℕ) → plain_number 16 s.1 ≡ Some m → (b : Bool) → nat_le 1 m ≡ b → cond b (Some m) None ≡ Some n
        → (1 ≤ n) × (n ≤ 16) × ((rest : List ℕ) × (cut_at 32 text ≡ Some (codes "parts", rest)) × (plain_number 16 rest ≡ Some n))
    last s cut word m number true some e =
        let same : m ≡ n = same_Some m n e in
        let few = number_small 2 16 s.1 m (plain_is 16 s.1 m number).1 in
        let one = leb-true 1 m some in
        (omega (arith, same, one), omega (arith, same, few), (s.1, cut ∙ ap (λ (w : List ℕ). Some (w, s.1)) (is_text s.0 (codes "parts") word), number ∙ ap (λ (k : ℕ). Some k) same))
    last s cut word m number false some e = cc

    by : (s : List ℕ × List ℕ) → cut_at 32 text ≡ Some s → (b : Bool) → bytes_eq s.0 (codes "parts") ≡ b → cond b (option_and_then some_parts (plain_number 16 s.1)) None ≡ Some n
        → (1 ≤ n) × (n ≤ 16) × ((rest : List ℕ) × (cut_at 32 text ≡ Some (codes "parts", rest)) × (plain_number 16 rest ≡ Some n))
    by s cut true word e = option_and_then_some some_parts (plain_number 16 s.1) n e (λ m number more. last s cut word m number (nat_le 1 m) refl more)
    by s cut false word e = cc

pub cells_told : (bytes text behind : List ℕ) (n : ℕ) (draft : Parts) → Some (text, behind) ≡ cut_at 10 bytes → Some n ≡ parts_of_text text → draft ≡ replicate n [] → parts_read (lines_of bytes) ≡ with_lines draft 3 None (map (cell_said n) (lines_of behind))
cells_told bytes text behind n draft cut parts empty =
    parts_cut bytes text behind (sym cut) ∙ ap (λ (o : Option ℕ). cells_read o (lines_of behind)) (sym parts)
    ∙ ap (λ (d : Parts). with_lines d 3 None (map (cell_said n) (lines_of behind))) (sym empty)

pub count_bad : (bytes text behind : List ℕ) → Some (text, behind) ≡ cut_at 10 bytes → None ≡ parts_of_text text → parts_read (lines_of bytes) ≡ Err (BadLine 2)
count_bad bytes text behind cut parts = parts_cut bytes text behind (sym cut) ∙ ap (λ (o : Option ℕ). cells_read o (lines_of behind)) (sym parts)

pub none_read : (bytes : List ℕ) (draft : Parts) → length bytes ≡ 0 → draft ≡ replicate 1 [] → lines_read (lines_of bytes) ≡ Ok draft
none_read [] draft none empty = ap lines_read no_lines ∙ ap (λ (d : Parts). Ok d) (sym empty)
none_read (c ∷ bytes) draft none empty = absurd (omega arith)

-- ---- what is judged before memory is taken

no_early_line : (k : ℕ) → 3 ≤ k → nat_le k 2 ≡ false
no_early_line k h = grind (arith, h)

late_turn : (b : Bool) (k : ℕ) (rest : Option BookFault) (parts : Parts) → is_early (unless_fault rest parts) ≡ false → is_early (unless_fault (cond b rest (Some (OutOfOrder k))) parts) ≡ false
late_turn true k rest parts h = h
late_turn false k rest parts h = refl

late_among : (k : ℕ) (last : Option CellRef) (cells : List (Option Cell)) → 3 ≤ k → (parts : Parts) → is_early (unless_fault (first_fault k last cells) parts) ≡ false
late_among k last [] h parts = refl
late_among k last (None ∷ cells) h parts = no_early_line k h
late_among k last (Some cell ∷ cells) h parts =
    late_turn (comes_after last cell.0) k (first_fault (k + 1) (Some cell.0) cells) parts (late_among (k + 1) (Some cell.0) cells (omega (arith, h)) parts)

-- a fault of a line behind the first two isn't
pub late_fault : (draft : Parts) (n : ℕ) (before : Option CellRef) (said : List (Option Cell)) → 3 ≤ n → is_early (with_lines draft n before said) ≡ false
late_fault draft n before said late = late_among n before said late (fold with_said draft said)

-- the lines behind the first, where the second says how many parts there are
pub cells_late : (bytes text behind : List ℕ) (n : ℕ) → Some (text, behind) ≡ cut_at 10 bytes → Some n ≡ parts_of_text text → is_early (parts_read (lines_of bytes)) ≡ false
cells_late bytes text behind n cut parts =
    ap is_early (cells_told bytes text behind n (replicate n []) cut parts refl) ∙ late_fault (replicate n []) 3 None (map (cell_said n) (lines_of behind)) (omega arith)

-- what holds of any fault holds where there is one
pub of_any_fault : {A E : Type 0} (Q : E → Type 0) (r : Result A E) → ((e : E) → Q e) → IfErr r Q
of_any_fault Q (Ok a) h = tt
of_any_fault Q (Err e) h = h e
