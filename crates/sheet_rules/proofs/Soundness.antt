-- What an input leaves is such as a document can be.
use Rattle.std.proofs.Common.{◌≡◌, ◌⊎◌, ℕ, zero, suc, ◌+◌, ◌-◌, ◌/◌, ◌%◌, ◌<◌, ◌≤◌, min, Bool, true, false, cond, not, ◌&&◌, ◌||◌, ◌==◌, nat_eq, nat_lt, nat_le, List, [], ◌∷◌, ◌++◌, length, take, drop, Option, Some, None, unwrap_or, IfSome, if◌then◌else◌, refl, ap, sym, ◌∙◌, subst, ⊎_elim, arith, lit≤, lit<, eqb-true, leb-true, ltb-true, le-leb, le-ltb, lt-ltb, ne_eqb}
use Rattle.std.specs.List.{AllByRecursion, list_all}
use Rattle.std.specs.List.Sorted.{IsStrictlySortedBy}
use Rattle.std.specs.Ordering.{nat_cmp, match_ordering}
use Rattle.std.specs.declared.cmp.Ordering.{Ordering}
use Rattle.std.specs.declared.cmp.Ordering.TheVariants.{Less, Equal, Greater}
use Rattle.std.specs.Map.{lookup, remove_entry, keys_of}
use Rattle.std.specs.BTreeMap.{is_at, insert_entry}
use Rattle.std.specs.BTreeSet.{insert_key}
use Rattle.std.specs.Str.{chars, IsUtf8, encode_utf8_all, all_scalars}
use Rattle.std.specs.Char.{encode_utf8}
use Rattle.std.proofs.Math.ListN.{set, length-set}
use Rattle.std.proofs.lemmas.Bool.{and_parts, and_from, cases_Bool}
use Rattle.std.proofs.lemmas.List.{take-append-drop}
use Rattle.std.proofs.lemmas.List.Folds.{list_all-append}
use Rattle.std.proofs.lemmas.Str.{IsUtf8-nil, IsUtf8-append, IsUtf8-encode, IsUtf8-from_is_utf8, encodes-append, encodes-chars, scalars-chars}
use Rattle.sheet_cells.specs.declared.cells.CellRef.{CellRef}
use Rattle.sheet_cells.specs.Cells.{IsCell, IsRaw, is_raw_byte}
use Rattle.formula_base.specs.Ranges.{Position, position_cmp}
use Rattle.part_calc.specs.Parts.{Part, text_at, with_text}
use Rattle.part_calc.specs.Kept.{IsEntry, IsPart}
use Rattle.part_calc.proofs.KeptLaws.{put_kept}
use Rattle.part_calc.proofs.ListLaws.{sorted_insert}
use Rattle.sheet_calc.specs.Books.{Parts, IsBook, position_of, part_at, text_of, with_cell}
use Rattle.sheet_calc.specs.FileText.{file_text}
use Rattle.kit_trait.specs.declared.keys.KeyCode.{KeyCode}
use Rattle.kit_trait.specs.declared.keys.KeyCode.TheVariants.{Down, Up, Left, Right, Home, End, Return, Tab, Backspace, Delete}
use Rattle.kit_trait.specs.Keys.{key_with, is_scalar, is_typed}
use Rattle.kit_trait.specs.declared.values.Input.{Input}
use Rattle.kit_trait.specs.declared.values.What.{What}
use Rattle.kit_trait.specs.declared.values.What.TheVariants.{Key, Mouse}
use Rattle.sheet_rules.specs.declared.cursors.Cursor.{Cursor}
use Rattle.sheet_rules.specs.declared.cursors.Meaning.{Meaning}
use Rattle.sheet_rules.specs.declared.cursors.Meaning.TheVariants.{Stays, Goes, Writes}
use Rattle.sheet_rules.specs.Typing.{Sheet, first_cursor, cursor_in, cursor_of, cell_below, cell_above, cell_left, cell_right, row_start, last_filled, row_end, is_inside, cell_at, without_last, char_meaning, code_meaning, key_meaning, mouse_meaning, meaning_of, fits, writes_raw, written, carried_out, stepped}
use Rattle.sheet_rules.specs.Sheets.{AreCursors, IsSheet}
use Rattle.sheet_rules.proofs.ChangedCells.{part_kept}

-- what holds of both sides of a choice holds of the choice
either : {A : Type 0} (P : A → Type 0) (b : Bool) (x y : A) → P x → P y → P (if b then x else y)
either P true x y px py = px
either P false x y px py = py

-- ---- cursors

cursors_put : (n : ℕ) (es : List (ℕ × Cursor)) (view : ℕ) (a : Cursor) → AreCursors n es → IsCell n a.at → AreCursors n (insert_entry nat_cmp es view a)
cursors_put n [] view a all here = (here, tt)
cursors_put n (e ∷ es) view a all here = by (nat_cmp view e.0) (cursors_put n es view a all.1 here)
  where
    by : (o : Ordering) → AreCursors n (insert_entry nat_cmp es view a) → AreCursors n (match_ordering o ((view, a) ∷ e ∷ es) ((e.0, a) ∷ es) (e ∷ insert_entry nat_cmp es view a))
    by Less ih = (here, all)
    by Equal ih = (here, all.1)
    by Greater ih = (all.0, ih)

found : (n : ℕ) (test : ℕ → Bool) (es : List (ℕ × Cursor)) → AreCursors n es → IfSome (lookup test es) (λ a. IsCell n a.at)
found n test [] all = tt
found n test (e ∷ es) all = by (test e.0) (found n test es all.1)
  where
    by : (b : Bool) → IfSome (lookup test es) (λ a. IsCell n a.at) → IfSome (cond b (Some e.1) (lookup test es)) (λ a. IsCell n a.at)
    by true ih = all.0
    by false ih = ih

first_cell : (n part : ℕ) → part < n → IsCell n (first_cursor part).at
first_cell n part h = record { part = h; row = lit< tt; col = lit< tt }

in_cell : (n part : ℕ) (o : Option Cursor) → part < n → IfSome o (λ a. IsCell n a.at) → IsCell n (cursor_in part o).at
in_cell n part None h some = first_cell n part h
in_cell n part (Some a) h some = either (λ k. IsCell n k.at) (nat_eq a.at.part part) a (first_cursor part) some (first_cell n part h)

in_part : (part : ℕ) (o : Option Cursor) → (cursor_in part o).at.part ≡ part
in_part part None = refl
in_part part (Some a) = by (nat_eq a.at.part part) refl
  where
    by : (b : Bool) → nat_eq a.at.part part ≡ b → (if b then a else first_cursor part).at.part ≡ part
    by true e = eqb-true a.at.part part e
    by false e = refl

-- a view stands in a cell of the part
pub cursor_cell : (n : ℕ) (es : List (ℕ × Cursor)) (view part : ℕ) → AreCursors n es → part < n → IsCell n (cursor_of es view part).at
cursor_cell n es view part all h = in_cell n part (lookup (is_at (nat_cmp view)) es) h (found n (is_at (nat_cmp view)) es all)

pub cursor_part : (es : List (ℕ × Cursor)) (view part : ℕ) → (cursor_of es view part).at.part ≡ part
cursor_part es view part = in_part part (lookup (is_at (nat_cmp view)) es)

-- ---- raw texts

-- a text that a cell may have, but for its length
pub record IsText (raw : List ℕ) : Type 0 where
  pub bytes : list_all is_raw_byte raw ≡ true
  pub utf8 : IsUtf8 raw

no_text : IsText []
no_text = record { bytes = refl; utf8 = IsUtf8-nil }

found_text : (test : Position → Bool) (part : Part) → AllByRecursion IsEntry part → IsText (unwrap_or (lookup test part) [])
found_text test [] all = no_text
found_text test (e ∷ part) all = by (test e.0) (found_text test part all.1)
  where
    by : (b : Bool) → IsText (unwrap_or (lookup test part) []) → IsText (unwrap_or (cond b (Some e.1) (lookup test part)) [])
    by true ih = record { bytes = (and_parts (nat_le (length e.1) 1024) (list_all is_raw_byte e.1) all.0.raw).1; utf8 = IsUtf8-from_is_utf8 e.1 all.0.utf8 }
    by false ih = ih

-- the raw text of a cell
pub text_is : (parts : Parts) (at : CellRef) → IsBook parts → IsText (text_of parts at)
unfolding text_of text_at
text_is parts at book = found_text (is_at (position_cmp (position_of at))) (part_at parts at.part) (part_kept parts at.part book.each).entries

front_scalars : (n : ℕ) (cs : List ℕ) → all_scalars cs ≡ true → all_scalars (take n cs) ≡ true
front_scalars zero cs e = refl
front_scalars (suc n) [] e = refl
front_scalars (suc n) (c ∷ cs) e =
    let parts = and_parts _ (all_scalars cs) e in
    and_from _ (all_scalars (take n cs)) parts.0 (front_scalars n cs parts.1)

-- a front of it
front_text : (raw : List ℕ) (n : ℕ) → IsText raw → IsText (encode_utf8_all (take n (chars raw)))
front_text raw n text =
    let cut : encode_utf8_all (take n (chars raw)) ++ encode_utf8_all (drop n (chars raw)) ≡ raw =
    sym (encodes-append (take n (chars raw)) (drop n (chars raw))) ∙ ap encode_utf8_all (take-append-drop n (chars raw)) ∙ encodes-chars raw text.utf8 in
    record {
      bytes = (and_parts (list_all is_raw_byte (encode_utf8_all (take n (chars raw)))) (list_all is_raw_byte (encode_utf8_all (drop n (chars raw))))
          (sym (list_all-append is_raw_byte (encode_utf8_all (take n (chars raw))) (encode_utf8_all (drop n (chars raw)))) ∙ ap (list_all is_raw_byte) cut ∙ text.bytes)).0;
      utf8 = (take n (chars raw), (front_scalars n (chars raw) (scalars-chars raw text.utf8), refl));
    }

shorter_text : (raw : List ℕ) → IsText raw → IsText (without_last raw)
unfolding without_last
shorter_text raw text = front_text raw (length (chars raw) - 1) text

high_byte : (b : ℕ) → 128 ≤ b → is_raw_byte b ≡ true
high_byte b h = and_from (nat_le 32 b) (not (nat_eq b 127)) (le-leb 32 b (omega arith)) (ap not (ne_eqb b 127 (λ e. omega (arith, e, h))))

both : (a b : Bool) → a ≡ true → b ≡ true → (a && b) ≡ true
both a b p q = rw (p, q) refl

high_bytes : (a b : ℕ) (s : List ℕ) → 128 ≤ a → 128 ≤ b → list_all is_raw_byte s ≡ true → list_all is_raw_byte (a ∷ b ∷ s) ≡ true
high_bytes a b s h k e = both (is_raw_byte a) (list_all is_raw_byte (b ∷ s)) (high_byte a h) (both (is_raw_byte b) (list_all is_raw_byte s) (high_byte b k) e)

-- a typed char
encoded_bytes : (c : ℕ) → is_raw_byte c ≡ true → list_all is_raw_byte (encode_utf8 c) ≡ true
unfolding encode_utf8
encoded_bytes c plain =
    let P : List ℕ → Type 0 = λ s. list_all is_raw_byte s ≡ true in
    either P (nat_lt c 128) (c ∷ []) _ (both (is_raw_byte c) true plain refl)
    (either P (nat_lt c 2048) ((192 + c / 64) ∷ (128 + c % 64) ∷ []) _ (high_bytes (192 + c / 64) (128 + c % 64) [] (omega arith) (omega arith) refl)
    (either P (nat_lt c 65536) ((224 + c / 4096) ∷ (128 + c / 64 % 64) ∷ (128 + c % 64) ∷ []) ((240 + c / 262144) ∷ (128 + c / 4096 % 64) ∷ (128 + c / 64 % 64) ∷ (128 + c % 64) ∷ [])
    (high_bytes (224 + c / 4096) (128 + c / 64 % 64) ((128 + c % 64) ∷ []) (omega arith) (omega arith) (both (is_raw_byte (128 + c % 64)) true (high_byte (128 + c % 64) (omega arith)) refl))
    (high_bytes (240 + c / 262144) (128 + c / 4096 % 64) ((128 + c / 64 % 64) ∷ (128 + c % 64) ∷ []) (omega arith) (omega arith) (high_bytes (128 + c / 64 % 64) (128 + c % 64) [] (omega arith) (omega arith) refl))))

scalar_is : (a b : Bool) → (a || b) ≡ true → cond a true b ≡ true
scalar_is true b e = refl
scalar_is false b e = e

typed_text : (c : ℕ) → is_typed c ≡ true → IsText (encode_utf8 c)
typed_text c e =
    let parts = and_parts (is_scalar c) (nat_le 32 c && not (nat_eq c 127)) e in
    record { bytes = encoded_bytes c parts.1; utf8 = IsUtf8-encode c (scalar_is (nat_lt c 55296) (nat_le 57344 c && nat_lt c 1114112) parts.0) }

added_text : (a b : List ℕ) → IsText a → IsText b → IsText (a ++ b)
added_text a b s t = record {
  bytes = list_all-append is_raw_byte a b ∙ both (list_all is_raw_byte a) (list_all is_raw_byte b) s.bytes t.bytes;
  utf8 = IsUtf8-append a b s.utf8 t.utf8;
}

-- ---- acts

-- a meaning goes to a cell, or writes a text that a cell may have
abbrev pub IsMeant : ℕ → Meaning → Type 0
IsMeant n Stays = Unit {0}
IsMeant n (Goes to) = IsCell n to
IsMeant n (Writes raw fresh) = IsText raw

char_is : (n : ℕ) (parts : Parts) (a : Cursor) (chr : ℕ) → IsBook parts → IsMeant n (char_meaning parts a chr)
char_is n parts a chr book = by (is_typed chr) refl
  where
    by : (b : Bool) → is_typed chr ≡ b → IsMeant n (if b then Writes (if a.fresh then encode_utf8 chr else text_of parts a.at ++ encode_utf8 chr) false else Stays)
    by true e = either IsText a.fresh (encode_utf8 chr) (text_of parts a.at ++ encode_utf8 chr) (typed_text chr e) (added_text (text_of parts a.at) (encode_utf8 chr) (text_is parts a.at book) (typed_text chr e))
    by false e = tt

last_small : (text : ℕ → List ℕ) (n : ℕ) → last_filled text n ≤ n - 1
unfolding last_filled
last_small text zero = omega arith
last_small text (suc n) = either (λ k. k ≤ suc n - 1) (length (text n) == 0) (last_filled text n) n (omega (arith, last_small text n)) (omega arith)

end_is : (n : ℕ) (parts : Parts) (at : CellRef) → IsCell n at → IsCell n (row_end parts at)
unfolding row_end
end_is n parts at cell = record { part = cell.part; row = cell.row; col = omega (arith, last_small (λ col. text_of parts (record at { col = col })) 256) }

below_is : (n : ℕ) (at : CellRef) → IsCell n at → IsCell n (cell_below at)
below_is n at cell = record { part = cell.part; row = omega arith; col = cell.col }

above_is : (n : ℕ) (at : CellRef) → IsCell n at → IsCell n (cell_above at)
above_is n at cell = record { part = cell.part; row = omega (arith, cell.row); col = cell.col }

left_is : (n : ℕ) (at : CellRef) → IsCell n at → IsCell n (cell_left at)
left_is n at cell = record { part = cell.part; row = cell.row; col = omega (arith, cell.col) }

right_is : (n : ℕ) (at : CellRef) → IsCell n at → IsCell n (cell_right at)
right_is n at cell = record { part = cell.part; row = cell.row; col = omega arith }

start_is : (n : ℕ) (at : CellRef) → IsCell n at → IsCell n (row_start at)
start_is n at cell = record { part = cell.part; row = cell.row; col = lit< tt }

code_is : (n : ℕ) (parts : Parts) (a : Cursor) (key : KeyCode) → IsBook parts → IsCell n a.at → IsMeant n (code_meaning parts a key)
code_is n parts a Down book cell = below_is n a.at cell
code_is n parts a Up book cell = above_is n a.at cell
code_is n parts a Left book cell = left_is n a.at cell
code_is n parts a Right book cell = right_is n a.at cell
code_is n parts a Home book cell = start_is n a.at cell
code_is n parts a End book cell = end_is n parts a.at cell
code_is n parts a Return book cell = below_is n a.at cell
code_is n parts a Tab book cell = right_is n a.at cell
code_is n parts a Backspace book cell = shorter_text (text_of parts a.at) (text_is parts a.at book)
code_is n parts a Delete book cell = no_text

key_is : (n : ℕ) (parts : Parts) (a : Cursor) (chr : ℕ) (key : Option KeyCode) → IsBook parts → IsCell n a.at → IsMeant n (key_meaning parts a chr key)
key_is n parts a chr (Some key) book cell = code_is n parts a key book cell
key_is n parts a chr None book cell = char_is n parts a chr book

mouse_is : (n part x y : ℕ) → part < n → IsMeant n (mouse_meaning part x y)
mouse_is n part x y h = by (is_inside x y) refl
  where
    by : (b : Bool) → is_inside x y ≡ b → IsMeant n (if b then Goes (cell_at part x y) else Stays)
    by true e =
        let sides = and_parts (nat_lt x 245760) (nat_lt y 983040) e in
        record { part = h; row = omega (arith, ltb-true y 983040 sides.1); col = omega (arith, ltb-true x 245760 sides.0) }
    by false e = tt

pub meaning_is : (n : ℕ) (parts : Parts) (a : Cursor) (part : ℕ) (what : What) → IsBook parts → IsCell n a.at → part < n → IsMeant n (meaning_of parts a part what)
meaning_is n parts a part (Key chr code) book cell h = key_is n parts a chr (key_with code) book cell
meaning_is n parts a part (Mouse x y count buttons modifier) book cell h = mouse_is n part x y h

-- so what it writes may stand in a raw text
pub meaning_writes : (n : ℕ) (meaning : Meaning) → IsMeant n meaning → writes_raw meaning ≡ true
meaning_writes n Stays is = refl
meaning_writes n (Goes to) is = refl
meaning_writes n (Writes raw fresh) is = is.bytes

-- ---- parts

keys_inserted : (part : Part) (p : Position) (raw : List ℕ) → insert_key position_cmp (keys_of part) p ≡ keys_of (insert_entry position_cmp part p raw)
keys_inserted [] p raw = refl
keys_inserted (e ∷ part) p raw = by (position_cmp p e.0) (keys_inserted part p raw)
  where
    by : (o : Ordering) → insert_key position_cmp (keys_of part) p ≡ keys_of (insert_entry position_cmp part p raw)
        → match_ordering o (p ∷ e.0 ∷ keys_of part) (e.0 ∷ keys_of part) (e.0 ∷ insert_key position_cmp (keys_of part) p) ≡ keys_of (match_ordering o ((p, raw) ∷ e ∷ part) ((e.0, raw) ∷ part) (e ∷ insert_entry position_cmp part p raw))
    by Less ih = refl
    by Equal ih = refl
    by Greater ih = ap (λ (ks : List Position). e.0 ∷ ks) ih

all_removed : (P : Position → Type 0) (test : Position → Bool) (part : Part) → AllByRecursion P (keys_of part) → AllByRecursion P (keys_of (remove_entry test part))
all_removed P test [] all = tt
all_removed P test (e ∷ part) all = by (test e.0) (all_removed P test part all.1)
  where
    by : (b : Bool) → AllByRecursion P (keys_of (remove_entry test part)) → AllByRecursion P (keys_of (cond b part (e ∷ remove_entry test part)))
    by true ih = all.1
    by false ih = (all.0, ih)

sorted_removed : (test : Position → Bool) (part : Part) → IsStrictlySortedBy position_cmp (keys_of part) → IsStrictlySortedBy position_cmp (keys_of (remove_entry test part))
unfolding IsStrictlySortedBy
sorted_removed test [] s = tt
sorted_removed test (e ∷ part) s = by (test e.0) (sorted_removed test part s.1)
  where
    by : (b : Bool) → IsStrictlySortedBy position_cmp (keys_of (remove_entry test part)) → IsStrictlySortedBy position_cmp (keys_of (cond b part (e ∷ remove_entry test part)))
    by true ih = s.1
    by false ih = (all_removed (λ q. position_cmp e.0 q ≡ Less) test part s.0, ih)

sorted_edit : (part : Part) (p : Position) (raw : List ℕ) → IsStrictlySortedBy position_cmp (keys_of part) → IsStrictlySortedBy position_cmp (keys_of (with_text part p raw))
unfolding with_text
sorted_edit part p [] s = sorted_removed (is_at (position_cmp p)) part s
sorted_edit part p (c ∷ raw) s = subst (IsStrictlySortedBy position_cmp) (keys_inserted part p (c ∷ raw)) (sorted_insert (keys_of part) p s)

part_edited : (part : Part) (p : Position) (raw : List ℕ) → IsPart part → p.0 < 4096 → p.1 < 256 → IsRaw raw → IsUtf8 raw → IsPart (with_text part p raw)
part_edited part p raw is row col valid utf8 = put_kept part (with_text part p raw) p raw raw is row col valid utf8 refl refl (sorted_edit part p raw is.ordered)

each_set : (parts : Parts) (n : ℕ) (part : Part) → AllByRecursion IsPart parts → IsPart part → AllByRecursion IsPart (set parts n part)
each_set [] n part all is = tt
each_set (p ∷ parts) zero part all is = (is, all.1)
each_set (p ∷ parts) (suc n) part all is = (all.0, each_set parts n part all.1 is)

-- the parts stay as many
pub parts_stay : (parts : Parts) (at : CellRef) (raw : List ℕ) → length (with_cell parts at raw) ≡ length parts
unfolding with_cell
parts_stay parts at raw = length-set parts at.part (with_text (part_at parts at.part) (position_of at) raw)

book_edited : (parts : Parts) (at : CellRef) (raw : List ℕ) → IsBook parts → IsCell (length parts) at → IsRaw raw → IsUtf8 raw → IsBook (with_cell parts at raw)
unfolding with_cell
book_edited parts at raw book cell valid utf8 =
    let new = with_text (part_at parts at.part) (position_of at) raw in
    let same = length-set parts at.part new in
    record {
      some = omega (arith, book.some, same);
      few = omega (arith, book.few, same);
      each = each_set parts at.part new book.each (part_edited (part_at parts at.part) (position_of at) raw (part_kept parts at.part book.each) cell.row cell.col valid utf8);
    }

-- ---- the document

what_fits : (parts : Parts) (at : CellRef) (raw : List ℕ) → fits parts at raw ≡ true → (length raw ≤ 1024) × (length (file_text (with_cell parts at raw)) ≤ 2097152)
unfolding fits
what_fits parts at raw e =
    let sides = and_parts (nat_le (length raw) 1024) (nat_le (length (file_text (with_cell parts at raw))) 2097152) e in
    (leb-true (length raw) 1024 sides.0, leb-true (length (file_text (with_cell parts at raw))) 2097152 sides.1)

written_sound : (c : Sheet) (view : ℕ) (a : Cursor) (raw : List ℕ) → IsSheet c → IsCell (length c.parts) a.at → IsText raw → IsSheet (written c view a raw)
written_sound c view a raw sound cell text = by (fits c.parts a.at raw) refl
  where
    by : (b : Bool) → fits c.parts a.at raw ≡ b → IsSheet (if b then record { parts = with_cell c.parts a.at raw; cursors = insert_entry nat_cmp c.cursors view a } else c)
    by true e = record {
      book = book_edited c.parts a.at raw sound.book cell (and_from (nat_le (length raw) 1024) (list_all is_raw_byte raw) (le-leb (length raw) 1024 (what_fits c.parts a.at raw e).0) text.bytes) text.utf8;
      short = (what_fits c.parts a.at raw e).1;
      cursors = subst (λ (n : ℕ). AreCursors n (insert_entry nat_cmp c.cursors view a)) (sym (parts_stay c.parts a.at raw)) (cursors_put (length c.parts) c.cursors view a sound.cursors cell);
    }
    by false e = sound

pub carried_out_sound : (c : Sheet) (view : ℕ) (at : CellRef) (meaning : Meaning) → IsSheet c → IsCell (length c.parts) at → IsMeant (length c.parts) meaning → IsSheet (carried_out c view at meaning)
carried_out_sound c view at Stays sound cell is = sound
carried_out_sound c view at (Goes to) sound cell is =
    record { book = sound.book; short = sound.short; cursors = cursors_put (length c.parts) c.cursors view (record { at = to; fresh = true }) sound.cursors is }
carried_out_sound c view at (Writes raw fresh) sound cell is = written_sound c view (record { at = at; fresh = fresh }) raw sound cell is

pub step_sound : (c : Sheet) (input : Input) → IsSheet c → IsSheet (stepped c input)
step_sound c input sound = by (nat_lt input.part (length c.parts)) refl
  where
    by : (b : Bool) → nat_lt input.part (length c.parts) ≡ b → IsSheet (if b then carried_out c input.view.0 (cursor_of c.cursors input.view.0 input.part).at (meaning_of c.parts (cursor_of c.cursors input.view.0 input.part) input.part input.what) else c)
    by true e =
        let h = ltb-true input.part (length c.parts) e in
        let a = cursor_of c.cursors input.view.0 input.part in
        let cell = cursor_cell (length c.parts) c.cursors input.view.0 input.part sound.cursors h in
        carried_out_sound c input.view.0 a.at (meaning_of c.parts a input.part input.what) sound cell (meaning_is (length c.parts) c.parts a input.part input.what sound.book cell h)
    by false e = sound
