-- An edit of a book is an edit of one of its parts.
use Rattle.std.proofs.Common.{◌≡◌, ◌≢◌, ◌↔◌, ℕ, zero, suc, ◌+◌, ◌<◌, ◌≤◌, List, [], ◌∷◌, ◌++◌, length, get_or, drop, refl, ap, sym, ◌∙◌, subst, ⊎_elim, arith, append_assoc, append-nil, length-append, drop-cons, add-one, get_or-set_same, get_or-set_other, drop_of_length-le}
use Rattle.std.proofs.Math.ListN.{set, length-set}
use Rattle.std.proofs.lemmas.Bool.{cases_eq}
use Rattle.std.proofs.lemmas.List.{get_or_default}
use Rattle.std.specs.Prelude.{Result, Ok, Err, OnOk}
use Rattle.std.specs.Fmt.{decimal}
use Rattle.std.specs.List.{Contains, AllByRecursion}
use Rattle.sheet_cells.specs.declared.cells.CellRef.{CellRef}
use Rattle.formula_base.specs.Ranges.{Position}
use Rattle.part_calc.specs.Parts.{Part, text_at, with_text}
use Rattle.part_calc.specs.Shown.{shown_at, changed_cells}
use Rattle.part_calc.specs.Kept.{IsPart}
use Rattle.part_calc.specs.Text.{line_at, part_lines}
use Rattle.part_calc.proofs.EditLengths.{edited_length}
use Rattle.sheet_calc.specs.Books.{Parts, IsBook, position_of, part_at, text_of, shown_of, with_cell, changed_in, IsAmong}
use Rattle.sheet_calc.specs.FileText.{all_lines, file_text}

-- the part of a cell once it was put back
part_same : (parts : Parts) (n : ℕ) (part : Part) → n < length parts → part_at (set parts n part) n ≡ part
part_same parts n part h = rw get_or-set_same refl

part_other : (parts : Parts) (n m : ℕ) (part : Part) → m ≢ n → part_at (set parts n part) m ≡ part_at parts m
part_other parts n m part apart = rw get_or-set_other refl

-- two cells of one part with one position are one
same_cell : (a b : CellRef) → a.part ≡ b.part → position_of a ≡ position_of b → a ≡ b
same_cell a b part position =
    ap (λ (n : ℕ). record { part = n; row = a.row; col = a.col }) part
    ∙ ap (λ (p : Position). record { part = b.part; row = p.0; col = p.1 }) position

-- ---- what an edit leaves

abbrev pub Elsewhere : Part → Part → Position → Type 0
Elsewhere before after at = (other : Position) → other ≢ at → text_at after other ≡ text_at before other

pub there : (parts : Parts) (part : Part) (at : CellRef) (raw : List ℕ) → at.part < length parts → text_at part (position_of at) ≡ raw → text_of (set parts at.part part) at ≡ raw
unfolding text_of
there parts part at raw h is = ap (λ (s : Part). text_at s (position_of at)) (part_same parts at.part part h) ∙ is

pub elsewhere : (parts : Parts) (part : Part) (at : CellRef) → at.part < length parts → Elsewhere (part_at parts at.part) part (position_of at) → (other : CellRef) → other ≢ at → text_of (set parts at.part part) other ≡ text_of parts other
unfolding text_of
elsewhere parts part at h kept other apart =
    ⊎_elim
    (λ (same : other.part ≡ at.part).
    ap (λ (n : ℕ). text_at (part_at (set parts at.part part) n) (position_of other)) same
    ∙ ap (λ (s : Part). text_at s (position_of other)) (part_same parts at.part part h)
    ∙ kept (position_of other) (λ position. apart (same_cell other at same position))
    ∙ ap (λ (n : ℕ). text_at (part_at parts n) (position_of other)) (sym same))
    (λ (differs : other.part ≡ at.part → ⊥). ap (λ (s : Part). text_at s (position_of other)) (part_other parts at.part other.part part differs))
    (cases_eq other.part at.part)

pub exactly : (parts : Parts) (part : Part) (at : CellRef) (positions : List Position) → at.part < length parts → ((p : Position) → Contains positions p ↔ (shown_at (part_at parts at.part) p ≢ shown_at part p))
    → (cell : CellRef) → IsAmong (record { part = at.part; positions = positions }) cell ↔ (shown_of parts cell ≢ shown_of (set parts at.part part) cell)
unfolding shown_of
exactly parts part at positions h told cell = (
  λ among same.
      (told (position_of cell)).0 among.1
      (sym (ap (λ (n : ℕ). shown_at (part_at parts n) (position_of cell)) among.0) ∙ same ∙ after among.0),
  λ differs.
      ⊎_elim
      (λ (same : cell.part ≡ at.part).
      (same, (told (position_of cell)).1 (λ alike. differs (ap (λ (n : ℕ). shown_at (part_at parts n) (position_of cell)) same ∙ alike ∙ sym (after same)))))
      (λ (apart : cell.part ≡ at.part → ⊥). absurd (differs (ap (λ (s : Part). shown_at s (position_of cell)) (sym (part_other parts at.part cell.part part apart)))))
      (cases_eq cell.part at.part),
)
  where
    after : cell.part ≡ at.part → shown_at (part_at (set parts at.part part) cell.part) (position_of cell) ≡ shown_at part (position_of cell)
    after same = ap (λ (n : ℕ). shown_at (part_at (set parts at.part part) n) (position_of cell)) same ∙ ap (λ (s : Part). shown_at s (position_of cell)) (part_same parts at.part part h)

-- ---- the length of the file

pub lines_turn : (parts : Parts) (n total more : ℕ) → n < length parts → total + length (all_lines n (drop n parts)) ≡ length (all_lines 0 parts) → more ≡ length (part_lines n (part_at parts n)) → total + more + length (all_lines (n + 1) (drop (n + 1) parts)) ≡ length (all_lines 0 parts)
lines_turn parts n total more h told line =
    let split : length (all_lines n (drop n parts)) ≡ length (part_lines n (part_at parts n)) + length (all_lines (n + 1) (drop (n + 1) parts)) =
    ap (λ (s : Parts). length (all_lines n s)) (drop-cons parts n [] h)
    ∙ length-append (part_lines n (part_at parts n)) (all_lines (n + 1) (drop (suc n) parts))
    ∙ ap (λ (j : ℕ). length (part_lines n (part_at parts n)) + length (all_lines (n + 1) (drop j parts))) (sym (add-one n)) in
    omega (arith, told, line, split)

pub lines_end : (parts : Parts) (n total : ℕ) → length parts ≤ n → total + length (all_lines n (drop n parts)) ≡ length (all_lines 0 parts) → total ≡ length (all_lines 0 parts)
lines_end parts n total h told =
    let none : length (all_lines n (drop n parts)) ≡ 0 = ap (λ (s : Parts). length (all_lines n s)) (drop_of_length-le parts h) in
    omega (arith, told, none)

pub text_is : (parts : Parts) (a b : ℕ) → a ≡ length (decimal (length parts)) → b ≡ length (all_lines 0 parts) → a + 19 + b ≡ length (file_text parts)
unfolding file_text
text_is parts a b x y = simp length-append (omega (arith, x, y))

-- ---- the lines that are written

pub written_turn : (parts : Parts) (n : ℕ) (out more all : List ℕ) → n < length parts → out ++ all_lines n (drop n parts) ≡ all → more ≡ out ++ part_lines n (part_at parts n) → more ++ all_lines (n + 1) (drop (n + 1) parts) ≡ all
written_turn parts n out more all h told line =
    ap (λ (bytes : List ℕ). bytes ++ all_lines (n + 1) (drop (n + 1) parts)) line
    ∙ append_assoc out (part_lines n (part_at parts n)) (all_lines (n + 1) (drop (n + 1) parts))
    ∙ ap (λ (j : ℕ). out ++ (part_lines n (part_at parts n) ++ all_lines (n + 1) (drop j parts))) (add-one n)
    ∙ ap (λ (s : Parts). out ++ all_lines n s) (sym (drop-cons parts n [] h)) ∙ told

pub written_end : (parts : Parts) (n : ℕ) (out all : List ℕ) → length parts ≤ n → out ++ all_lines n (drop n parts) ≡ all → out ≡ all
written_end parts n out all h told = sym (append-nil out) ∙ ap (λ (s : Parts). out ++ all_lines n s) (sym (drop_of_length-le parts h)) ∙ told

-- ---- the length of the file after an edit

part_kept : (parts : Parts) (k : ℕ) → k < length parts → AllByRecursion IsPart parts → IsPart (part_at parts k)
part_kept [] k h all = absurd (omega arith)
part_kept (part ∷ parts) zero h all = all.0
part_kept (part ∷ parts) (suc k) h all = part_kept parts k (omega arith) all.1

lines_set : (parts : Parts) (n k m : ℕ) (part : Part) → m ≡ n + k → k < length parts → length (all_lines n (set parts k part)) + length (part_lines m (part_at parts k)) ≡ length (all_lines n parts) + length (part_lines m part)
lines_set [] n k m part at h = absurd (omega arith)
lines_set (old ∷ parts) n zero m part at h =
    let same : m ≡ n = omega (arith, at) in
    let after = length-append (part_lines n part) (all_lines (n + 1) parts) in
    let before = length-append (part_lines n old) (all_lines (n + 1) parts) in
    let one : length (part_lines m old) ≡ length (part_lines n old) = ap (λ (j : ℕ). length (part_lines j old)) same in
    let two : length (part_lines m part) ≡ length (part_lines n part) = ap (λ (j : ℕ). length (part_lines j part)) same in
    omega (arith, after, before, one, two)
lines_set (old ∷ parts) n (suc k) m part at h =
    let behind = lines_set parts (n + 1) k m part (omega (arith, at)) (omega (arith, h)) in
    let after = length-append (part_lines n old) (all_lines (n + 1) (set parts k part)) in
    let before = length-append (part_lines n old) (all_lines (n + 1) parts) in
    omega (arith, behind, after, before)

length_text : (parts : Parts) → length (file_text parts) ≡ length (decimal (length parts)) + 19 + length (all_lines 0 parts)
length_text parts = sym (text_is parts (length (decimal (length parts))) (length (all_lines 0 parts)) refl refl)

length_set : (parts : Parts) (k : ℕ) (part : Part) → length (set parts k part) ≡ length parts
length_set parts k part = length-set parts k part

pub edited_text : (parts : Parts) (at : CellRef) (raw : List ℕ) → IsBook parts → at.part < length parts
    → length (file_text (with_cell parts at raw)) + length (line_at at.part (position_of at) (text_of parts at)) ≡ length (file_text parts) + length (line_at at.part (position_of at) raw)
unfolding with_cell text_of
edited_text parts at raw book h =
    let old = part_at parts at.part in
    let new = with_text old (position_of at) raw in
    let after = length_text (set parts at.part new) in
    let before = length_text parts in
    let digits : length (decimal (length (set parts at.part new))) ≡ length (decimal (length parts)) = ap (λ (n : ℕ). length (decimal n)) (length_set parts at.part new) in
    let swap = lines_set parts 0 at.part at.part new (omega arith) h in
    let part = edited_length at.part old (position_of at) raw (part_kept parts at.part h book.each) in
    omega (arith, after, before, digits, swap, part)

-- ---- for the code: the part that is lent, and what is put back

pub the_part : (parts : Parts) (n : ℕ) (old : Part) → n < length parts → old ≡ get_or parts n old → old ≡ part_at parts n
the_part parts n old h is = is ∙ get_or_default parts n old [] h

within : (inside before : Parts) (n : ℕ) → inside ≡ before → n < length before → n < length inside
within inside before n view h = subst (λ (s : Parts). n < length s) (sym view) h

pub set_ok : (inside before : Parts) (at : CellRef) (raw : List ℕ) (old after : Part) → inside ≡ before → at.part < length before → old ≡ get_or inside at.part old → after ≡ with_text old (position_of at) raw → set inside at.part after ≡ with_cell before at raw
unfolding with_cell
set_ok inside before at raw old after view h lent put =
    ap (set inside at.part) (put ∙ ap (λ (s : Part). with_text s (position_of at) raw) (the_part inside at.part old (within inside before at.part view h) lent))
    ∙ ap (λ (s : Parts). set s at.part (with_text (part_at s at.part) (position_of at) raw)) view

pub added_ok : {T E : Type 0} (inside before : Parts) (at : CellRef) (raw : List ℕ) (old after : Part) (r : Result T E) → inside ≡ before → at.part < length before → old ≡ get_or inside at.part old
    → OnOk r (after ≡ with_text old (position_of at) raw) → OnOk r (set inside at.part after ≡ with_cell before at raw)
added_ok inside before at raw old after (Ok x) view h lent put = set_ok inside before at raw old after view h lent put
added_ok inside before at raw old after (Err e) view h lent put = tt

pub set_there : (inside before : Parts) (at : CellRef) (raw : List ℕ) (after : Part) → inside ≡ before → at.part < length before → text_at after (position_of at) ≡ raw → text_of (set inside at.part after) at ≡ raw
set_there inside before at raw after view h is = there inside after at raw (within inside before at.part view h) is

pub set_elsewhere : (inside before : Parts) (at : CellRef) (old after : Part) → inside ≡ before → at.part < length before → old ≡ get_or inside at.part old → Elsewhere old after (position_of at)
    → (other : CellRef) → other ≢ at → text_of (set inside at.part after) other ≡ text_of before other
set_elsewhere inside before at old after view h lent kept other apart =
    let k = within inside before at.part view h in
    elsewhere inside after at k (subst (λ (s : Part). Elsewhere s after (position_of at)) (the_part inside at.part old k lent) kept) other apart
    ∙ ap (λ (s : Parts). text_of s other) view

pub set_exactly : (inside before : Parts) (at : CellRef) (positions : List Position) (old after : Part) → inside ≡ before → at.part < length before → old ≡ get_or inside at.part old → ((p : Position) → Contains positions p ↔ (shown_at old p ≢ shown_at after p))
    → (cell : CellRef) → IsAmong (record { part = at.part; positions = positions }) cell ↔ (shown_of before cell ≢ shown_of (set inside at.part after) cell)
set_exactly inside before at positions old after view h lent told cell =
    let k = within inside before at.part view h in
    subst (λ (s : Parts). IsAmong (record { part = at.part; positions = positions }) cell ↔ (shown_of s cell ≢ shown_of (set inside at.part after) cell)) view
    (exactly inside after at positions k (subst (λ (s : Part). (p : Position) → Contains positions p ↔ (shown_at s p ≢ shown_at after p)) (the_part inside at.part old k lent) told) cell)

pub set_changed : (inside before : Parts) (at : CellRef) (raw : List ℕ) (positions : List Position) (old after : Part) → inside ≡ before → at.part < length before → old ≡ get_or inside at.part old → after ≡ with_text old (position_of at) raw
    → positions ≡ changed_cells old (with_text old (position_of at) raw) → record { part = at.part; positions = positions } ≡ changed_in before (set inside at.part after) at.part
unfolding changed_in
set_changed inside before at raw positions old after view h lent put told =
    let k = within inside before at.part view h in
    ap (λ (ps : List Position). record { part = at.part; positions = ps })
    (told ∙ ap (changed_cells old) (sym put)
    ∙ ap (λ (s : Part). changed_cells s after) (the_part inside at.part old k lent ∙ ap (λ (s : Parts). part_at s at.part) view)
    ∙ ap (changed_cells (part_at before at.part)) (sym (part_same inside at.part after k)))
