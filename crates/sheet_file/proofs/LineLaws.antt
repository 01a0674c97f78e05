-- What a line says, word by word.
use Rattle.std.proofs.Common.{◌≡◌, ℕ, zero, suc, ◌-◌, ◌<◌, ◌≤◌, Bool, true, false, ◌&&◌, cond, leb, ltb, List, [], ◌∷◌, length, get_or, Option, Some, None, IsTrue, refl, ap, ◌∙◌, subst, arith}
use Rattle.std.specs.Option.{option_map, option_and_then}
use Rattle.std.specs.List.{list_all, prefix_len}
use Rattle.std.specs.Prelude.{take, drop, nat_le, nat_lt, slice_index}
use Rattle.std.specs.Str.{IsUtf8, is_utf8}
use Rattle.std.proofs.lemmas.Bool.{and_parts, and_from, leb-true, le-leb, ltb-true, false_from_ne_true}
use Rattle.std.proofs.lemmas.Str.{is_utf8-from_IsUtf8, IsUtf8-from_is_utf8, IsUtf8-from_ascii}
use Rattle.std.proofs.lemmas.Option.{cond_some, option_and_then_some, same_Some}
use Rattle.cool_base.specs.Numbers.{number, is_decimal, decimal_value}
use Rattle.cool_words.specs.Words.{cut_at}
use Rattle.sheet_cells.specs.Cells.{IsCell, IsRaw, is_raw}
use Rattle.sheet_cells.specs.References.{is_name_letter, column_number, column_of, row_of, reference}
use Rattle.formula_base.specs.Ranges.{Position}
use Rattle.sheet_file.specs.Lines.{has_leading_zero, plain_number, position_named, raw_written, Cell, cell_with, cell_by, cell_in, cell_of_text}
use Rattle.sheet_file.proofs.CutLaws.{IsCut, cut_is}

-- a number that is read is within its limit
pub number_small : (most limit : ℕ) (word : List ℕ) (n : ℕ) → number most limit word ≡ Some n → n ≤ limit
number_small most limit word n h =
    let hit = cond_some (is_decimal word && (leb (length word) most && leb (decimal_value word) limit)) (decimal_value word) n h in
    let outer = and_parts (is_decimal word) (leb (length word) most && leb (decimal_value word) limit) hit.0 in
    let right = and_parts (leb (length word) most) (leb (decimal_value word) limit) outer.1 in
    subst (λ (m : ℕ). m ≤ limit) hit.1 (leb-true (decimal_value word) limit right.1)

-- a word that is a number
pub plain_is : (limit : ℕ) (word : List ℕ) (n : ℕ) → plain_number limit word ≡ Some n → (has_leading_zero word ≡ false) × (number 2 limit word ≡ Some n)
plain_is limit word n h = by (has_leading_zero word) refl h
  where
    by : (b : Bool) → has_leading_zero word ≡ b → cond b None (number 2 limit word) ≡ Some n → (b ≡ false) × (number 2 limit word ≡ Some n)
    by true is e = cc
    by false is e = (refl, e)

pub named_is : (word : List ℕ) (p : Position) → position_named word ≡ Some p → (list_all (λ c. nat_lt c 97) word ≡ true) × (reference word ≡ Some p)
named_is word p h = by (list_all (λ c. nat_lt c 97) word) refl h
  where
    by : (b : Bool) → list_all (λ c. nat_lt c 97) word ≡ b → cond b (reference word) None ≡ Some p → (b ≡ true) × (reference word ≡ Some p)
    by true is e = (refl, e)
    by false is e = cc

-- a text that is UTF-8, and one that isn't
pub raw_of_text : (raw : List ℕ) → IsUtf8 raw → raw_written raw ≡ cond (nat_le 1 (length raw) && is_raw raw) (Some raw) None
raw_of_text raw utf8 =
    let known : is_utf8 raw ≡ true = is_utf8-from_IsUtf8 raw utf8 in
    ap (λ (b : Bool). cond (nat_le 1 (length raw) && is_raw raw && b) (Some raw) None) known
    ∙ ap (λ (b : Bool). cond b (Some raw) None) (and_true (nat_le 1 (length raw) && is_raw raw))
  where
    and_true : (b : Bool) → (b && true) ≡ b
    and_true true = refl
    and_true false = refl

pub raw_some : (raw : List ℕ) → IsUtf8 raw → 1 ≤ length raw → is_raw raw ≡ true → raw_written raw ≡ Some raw
raw_some raw utf8 some valid = raw_of_text raw utf8 ∙ ap (λ (b : Bool). cond b (Some raw) None) (and_from (nat_le 1 (length raw)) (is_raw raw) (le-leb 1 (length raw) some) valid)

pub raw_of_none : (raw : List ℕ) → ¬ (IsUtf8 raw) → raw_written raw ≡ None
raw_of_none raw fails =
    let known : is_utf8 raw ≡ false = false_from_ne_true (is_utf8 raw) (λ h. fails (IsUtf8-from_is_utf8 raw h)) in
    ap (λ (b : Bool). cond (nat_le 1 (length raw) && is_raw raw && b) (Some raw) None) known
    ∙ ap (λ (b : Bool). cond b (Some raw) None) (and_false (nat_le 1 (length raw) && is_raw raw))
  where
    and_false : (b : Bool) → (b && false) ≡ false
    and_false true = refl
    and_false false = refl

-- a word without small letters is ASCII
small_at : (word : List ℕ) (i : ℕ) → list_all (λ c. nat_lt c 97) word ≡ true → get_or word i 0 < 128
small_at [] i h = omega arith
small_at (c ∷ word) zero h = let both = and_parts (ltb c 97) (list_all (λ d. nat_lt d 97) word) h in let low = ltb-true c 97 both.0 in omega (arith, low)
small_at (c ∷ word) (suc i) h = small_at word i (and_parts (ltb c 97) (list_all (λ d. nat_lt d 97) word) h).1

pub capitals_are_utf8 : (word : List ℕ) → list_all (λ c. nat_lt c 97) word ≡ true → IsUtf8 word
capitals_are_utf8 word h = IsUtf8-from_ascii word (λ i. small_at word i h)

-- what a line's text holds where it says a cell
pub record IsSaid (parts : ℕ) (text : List ℕ) (cell : Cell) : Type 0 where
  pub part : List ℕ
  pub name : List ℕ
  pub behind : List ℕ
  pub front : IsCut 32 text part behind
  pub back : IsCut 32 behind name cell.1
  pub number : plain_number (parts - 1) part ≡ Some cell.0.part
  pub position : position_named name ≡ Some (cell.0.row, cell.0.col)
  pub some : 1 ≤ length cell.1
  pub raw : IsRaw cell.1
  pub utf8 : IsTrue (is_utf8 cell.1)

written_is : (parts : ℕ) (text part name behind raw : List ℕ) (p : ℕ) (position : Position) (cell : Cell) → cut_at 32 text ≡ Some (part, behind) → cut_at 32 behind ≡ Some (name, raw) → plain_number (parts - 1) part ≡ Some p → position_named name ≡ Some position
    → option_map (cell_with p position) (raw_written raw) ≡ Some cell → IsSaid parts text cell
written_is parts text part name behind raw p position cell one two number named h = by (nat_le 1 (length raw) && is_raw raw && is_utf8 raw) refl h
  where
    by : (b : Bool) → nat_le 1 (length raw) && is_raw raw && is_utf8 raw ≡ b → option_map (cell_with p position) (cond b (Some raw) None) ≡ Some cell → IsSaid parts text cell
    by true valid e =
        let same : cell_with p position raw ≡ cell = same_Some (cell_with p position raw) cell e in
        let first = and_parts (nat_le 1 (length raw) && is_raw raw) (is_utf8 raw) valid in
        let second = and_parts (nat_le 1 (length raw)) (is_raw raw) first.0 in
        subst (IsSaid parts text) same (record {
          part = part;
          name = name;
          behind = behind;
          front = cut_is 32 text part behind one;
          back = cut_is 32 behind name raw two;
          number = number;
          position = named;
          some = leb-true 1 (length raw) second.0;
          raw = second.1;
          utf8 = first.1;
        })
    by false valid e = cc

pub said_is : (parts : ℕ) (text : List ℕ) (cell : Cell) → cell_of_text parts text ≡ Some cell → IsSaid parts text cell
said_is parts text cell h =
    option_and_then_some (cell_in parts) (cut_at 32 text) cell h
    (λ one cut inner.
    option_and_then_some (cell_by parts one.0) (cut_at 32 one.1) cell inner
    (λ two again more.
    option_and_then_some (λ p. option_and_then (λ position. option_map (cell_with p position) (raw_written two.1)) (position_named two.0)) (plain_number (parts - 1) one.0) cell more
    (λ p number left.
    option_and_then_some (λ position. option_map (cell_with p position) (raw_written two.1)) (position_named two.0) cell left
    (λ position named last. written_is parts text one.0 two.0 one.1 two.1 p position cell cut again number named last))))

-- the row and the column of a name
row_small : (digits : List ℕ) (row : ℕ) → row_of digits ≡ Some row → row < 4096
row_small digits row h = by (nat_le 49 (slice_index digits 0)) (number 4 4096 digits) refl h
  where
    by : (b : Bool) (o : Option ℕ) → number 4 4096 digits ≡ o → cond b (option_map (λ n. n - 1) o) None ≡ Some row → row < 4096
    by true None is e = cc
    by true (Some n) is e = let small = number_small 4 4096 digits n is in let same : n - 1 ≡ row = same_Some (n - 1) row e in omega (arith, small, same)
    by false o is e = cc

column_small : (letters : List ℕ) (column : ℕ) → column_of letters ≡ Some column → column < 256
column_small letters column h =
    let hit = cond_some (nat_le 1 (length letters) && nat_le (length letters) 2 && list_all is_name_letter letters && nat_le (column_number letters) 256) (column_number letters - 1) column h in
    let last = and_parts (nat_le 1 (length letters) && nat_le (length letters) 2 && list_all is_name_letter letters) (nat_le (column_number letters) 256) hit.0 in
    let small = leb-true (column_number letters) 256 last.1 in
    let same = hit.1 in
    omega (arith, small, same)

pub reference_small : (word : List ℕ) (p : Position) → reference word ≡ Some p → (p.0 < 4096) × (p.1 < 256)
reference_small word p h = by (row_of (drop (prefix_len is_name_letter word) word)) refl (column_of (take (prefix_len is_name_letter word) word)) refl h
  where
    by : (r : Option ℕ) → row_of (drop (prefix_len is_name_letter word) word) ≡ r → (k : Option ℕ) → column_of (take (prefix_len is_name_letter word) word) ≡ k → option_and_then (λ row. option_map (λ column. (row, column)) k) r ≡ Some p → (p.0 < 4096) × (p.1 < 256)
    by None ris k kis e = cc
    by (Some row) ris None kis e = cc
    by (Some row) ris (Some column) kis e =
        let same : (row, column) ≡ p = same_Some (row, column) p e in
        subst (λ (q : Position). (q.0 < 4096) × (q.1 < 256)) same (row_small (drop (prefix_len is_name_letter word) word) row ris, column_small (take (prefix_len is_name_letter word) word) column kis)

pub said_cell : (parts : ℕ) (text : List ℕ) (cell : Cell) → 1 ≤ parts → IsSaid parts text cell → IsCell parts cell.0
said_cell parts text cell some said =
    let number = number_small 2 (parts - 1) said.part cell.0.part (plain_is (parts - 1) said.part cell.0.part said.number).1 in
    let position = reference_small said.name (cell.0.row, cell.0.col) (named_is said.name (cell.0.row, cell.0.col) said.position).1 in
    record { part = omega (arith, number); row = position.0; col = position.1 }
