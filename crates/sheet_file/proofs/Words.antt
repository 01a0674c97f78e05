-- The words of a line: what is read is spelled so, and what is spelled is read.
use Rattle.std.proofs.Common.{◌≡◌, ℕ, zero, suc, ◌+◌, ◌-◌, ◌*◌, ◌/◌, ◌%◌, ◌^◌, ◌<◌, ◌≤◌, Bool, true, false, ◌&&◌, cond, eqb, leb, ltb, List, [], ◌∷◌, ◌++◌, length, get_or, Option, Some, None, refl, ap, sym, ◌∙◌, arith, rules, le-leb}
use Rattle.std.specs.Prelude.{take, drop, nat_le, nat_lt, slice_index}
use Rattle.std.specs.Option.{option_map, option_and_then}
use Rattle.std.specs.List.{list_all, prefix_len}
use Rattle.std.specs.Char.{is_ascii_digit}
use Rattle.std.specs.Fmt.{decimal}
use Rattle.std.specs.Str.Parse.{digits_value}
use Rattle.std.proofs.Math.Seq.{take-append_seam, drop-append_seam}
use Rattle.std.proofs.lemmas.Bool.{and_parts, and_from, leb-true, ltb-true, cond-true, cond-false, both_ways}
use Rattle.std.proofs.lemmas.Bool.Decides.{nat_tests}
use Rattle.std.proofs.lemmas.Fmt.{digits_decimal, decimal-digits_value, decimal_digit, decimal_step, first_decimal}
use Rattle.std.proofs.lemmas.List.{take-append-drop}
use Rattle.std.proofs.lemmas.List.Folds.{list_all-append}
use Rattle.std.proofs.lemmas.Option.{cond_some, same_Some}
use Rattle.std.proofs.lemmas.Str.Parse.{IsDigitsTest, IsNumeralModel, numerals_by_value}
use Rattle.cool_base.specs.Numbers.{number, is_decimal, decimal_value}
use Rattle.cool_base.proofs.NumberLemmas.{number-decimal}
use Rattle.sheet_cells.specs.References.{is_name_letter, letter_number, column_number, column_of, row_of, cell_of, reference}
use Rattle.formula_base.specs.Ranges.{Position}
use Rattle.part_calc.specs.Text.{column_letters, reference_text}
use Rattle.sheet_file.specs.Lines.{has_leading_zero, plain_number, position_named}
use Rattle.sheet_file.proofs.LineLaws.{plain_is, named_is}

tells_digits : IsDigitsTest (λ ds. list_all is_ascii_digit ds ≡ true)
tells_digits = search rules

own_digits : IsNumeralModel (λ ds. list_all is_ascii_digit ds ≡ true) (digits_value 10)
own_digits = numerals_by_value (λ ds. list_all is_ascii_digit ds ≡ true) tells_digits

pub digits_of : (n : ℕ) → n < 2 ^ 64 → list_all is_ascii_digit (decimal n) ≡ true
digits_of n small = digits_decimal own_digits n small

-- ---- numbers

-- digits without a leading zero are what is written of their number
number_spelled : (most limit : ℕ) (word : List ℕ) (n : ℕ) → limit < 2 ^ 64 → number most limit word ≡ Some n → (get_or word 0 0 ≡ 48 → length word ≡ 1) → decimal n ≡ word
number_spelled most limit word n small h plain =
    let hit = cond_some (is_decimal word && (leb (length word) most && leb (decimal_value word) limit)) (decimal_value word) n h in
    let outer = and_parts (is_decimal word) (leb (length word) most && leb (decimal_value word) limit) hit.0 in
    let left = and_parts (ltb 0 (length word)) (list_all is_ascii_digit word) outer.0 in
    let right = and_parts (leb (length word) most) (leb (decimal_value word) limit) outer.1 in
    let low = leb-true (decimal_value word) limit right.1 in
    ap decimal (sym hit.1) ∙ decimal-digits_value own_digits word left.1 (ltb-true 0 (length word) left.0) plain (omega (arith, low, small))

no_zero : (word : List ℕ) → has_leading_zero word ≡ false → get_or word 0 0 ≡ 48 → length word ≡ 1
no_zero [] h first = absurd (omega (arith, first))
no_zero (c ∷ []) h first = refl
no_zero (c ∷ d ∷ word) h first = absurd (both_ways (eqb c 48) h (grind (arith, nat_tests)))

pub plain_spelled : (limit : ℕ) (word : List ℕ) (n : ℕ) → limit < 2 ^ 64 → plain_number limit word ≡ Some n → decimal n ≡ word
plain_spelled limit word n small h =
    let told = plain_is limit word n h in
    number_spelled 2 limit word n small told.1 (no_zero word told.0)

written_plain : (n : ℕ) → n < 100 → has_leading_zero (decimal n) ≡ false
written_plain n h = by (ltb n 10) refl
  where
    by : (b : Bool) → ltb n 10 ≡ b → has_leading_zero (decimal n) ≡ false
    by true is = ap has_leading_zero (decimal_digit n (ltb-true n 10 is))
    by false is =
        let large : 10 ≤ n = grind (arith, nat_tests) in
        let one = decimal_digit (n / 10) (omega (arith, h)) in
        let test : eqb (48 + n / 10) 48 ≡ false = let more : 1 ≤ n / 10 = omega (arith, large) in grind (arith, nat_tests) in
        ap has_leading_zero (decimal_step n large (omega (arith, h)) ∙ ap (λ (ds : List ℕ). ds ++ (48 + n % 10) ∷ []) one) ∙ test

pub plain_written : (limit n : ℕ) → n ≤ limit → n < 100 → plain_number limit (decimal n) ≡ Some n
plain_written limit n low small =
    cond-false (has_leading_zero (decimal n)) None (number 2 limit (decimal n)) (written_plain n small)
    ∙ number-decimal 2 limit n (omega arith) (omega (arith, small)) (omega (arith, small)) low

-- ---- columns

-- a capital letter
record IsCapital (c : ℕ) : Type 0 where
  pub low : 65 ≤ c
  pub high : c ≤ 90

capital : (c : ℕ) → is_name_letter c ≡ true → nat_lt c 97 ≡ true → IsCapital c
capital c letter small = record { low = grind (arith, nat_tests); high = grind (arith, nat_tests) }

capital_number : (c : ℕ) → IsCapital c → letter_number c ≡ c - 64
capital_number c is = let high = is.high in grind (arith, nat_tests)

one_letter : (a : ℕ) → IsCapital a → column_letters (26 * 0 + letter_number a - 1) ≡ a ∷ []
one_letter a is =
    let n : 26 * 0 + letter_number a - 1 ≡ a - 65 = let e = capital_number a is in omega (arith, e) in
    let test : nat_lt (a - 65) 26 ≡ true = let high = is.high in grind (arith, nat_tests) in
    ap column_letters n ∙ cond-true (nat_lt (a - 65) 26) ((65 + (a - 65)) ∷ []) ((64 + (a - 65) / 26) ∷ (65 + (a - 65) % 26) ∷ []) test
    ∙ ap (λ (c : ℕ). c ∷ []) (let low = is.low in omega (arith, low))

two_letters : (a b : ℕ) → IsCapital a → IsCapital b → column_letters (26 * (26 * 0 + letter_number a) + letter_number b - 1) ≡ a ∷ b ∷ []
two_letters a b first last =
    let low = first.low in let high = first.high in let low2 = last.low in let high2 = last.high in
    let e = capital_number a first in let f = capital_number b last in
    let n : 26 * (26 * 0 + letter_number a) + letter_number b - 1 ≡ 26 * (a - 64) + (b - 65) = omega (arith, e, f) in
    let k : ℕ = 26 * (a - 64) + (b - 65) in
    let test : nat_lt (26 * (a - 64) + (b - 65)) 26 ≡ false = grind (arith, nat_tests) in
    let q : 64 + (26 * (a - 64) + (b - 65)) / 26 ≡ a = omega arith in
    let r : 65 + (26 * (a - 64) + (b - 65)) % 26 ≡ b = omega arith in
    ap column_letters n ∙ cond-false (nat_lt (26 * (a - 64) + (b - 65)) 26) ((65 + (26 * (a - 64) + (b - 65))) ∷ []) ((64 + (26 * (a - 64) + (b - 65)) / 26) ∷ (65 + (26 * (a - 64) + (b - 65)) % 26) ∷ []) test
    ∙ ap (λ (c : ℕ). c ∷ (65 + (26 * (a - 64) + (b - 65)) % 26) ∷ []) q ∙ ap (λ (c : ℕ). a ∷ c ∷ []) r

column_spelled : (letters : List ℕ) (column : ℕ) → column_of letters ≡ Some column → list_all (λ c. nat_lt c 97) letters ≡ true → column_letters column ≡ letters
column_spelled [] column h small = cc
column_spelled (a ∷ []) column h small =
    let hit = cond_some (nat_le 1 1 && nat_le 1 2 && list_all is_name_letter (a ∷ []) && nat_le (column_number (a ∷ [])) 256) (column_number (a ∷ []) - 1) column h in
    let outer = and_parts (nat_le 1 1 && nat_le 1 2 && list_all is_name_letter (a ∷ [])) (nat_le (column_number (a ∷ [])) 256) hit.0 in
    let letters = (and_parts (nat_le 1 1 && nat_le 1 2) (list_all is_name_letter (a ∷ [])) outer.0).1 in
    ap column_letters (sym hit.1) ∙ one_letter a (capital a (and_parts (is_name_letter a) true letters).0 (and_parts (nat_lt a 97) true small).0)
column_spelled (a ∷ b ∷ []) column h small =
    let hit = cond_some (nat_le 1 2 && nat_le 2 2 && list_all is_name_letter (a ∷ b ∷ []) && nat_le (column_number (a ∷ b ∷ [])) 256) (column_number (a ∷ b ∷ []) - 1) column h in
    let outer = and_parts (nat_le 1 2 && nat_le 2 2 && list_all is_name_letter (a ∷ b ∷ [])) (nat_le (column_number (a ∷ b ∷ [])) 256) hit.0 in
    let letters = (and_parts (nat_le 1 2 && nat_le 2 2) (list_all is_name_letter (a ∷ b ∷ [])) outer.0).1 in
    let first = and_parts (is_name_letter a) (is_name_letter b && true) letters in
    let low = and_parts (nat_lt a 97) (nat_lt b 97 && true) small in
    ap column_letters (sym hit.1) ∙ two_letters a b (capital a first.0 low.0) (capital b (and_parts (is_name_letter b) true first.1).0 (and_parts (nat_lt b 97) true low.1).0)
column_spelled (a ∷ b ∷ c ∷ letters) column h small =
    let hit = cond_some (nat_le 1 (length (a ∷ b ∷ c ∷ letters)) && nat_le (length (a ∷ b ∷ c ∷ letters)) 2 && list_all is_name_letter (a ∷ b ∷ c ∷ letters) && nat_le (column_number (a ∷ b ∷ c ∷ letters)) 256) (column_number (a ∷ b ∷ c ∷ letters) - 1) column h in
    let outer = and_parts (nat_le 1 (length (a ∷ b ∷ c ∷ letters)) && nat_le (length (a ∷ b ∷ c ∷ letters)) 2 && list_all is_name_letter (a ∷ b ∷ c ∷ letters)) (nat_le (column_number (a ∷ b ∷ c ∷ letters)) 256) hit.0 in
    let inner = and_parts (nat_le 1 (length (a ∷ b ∷ c ∷ letters)) && nat_le (length (a ∷ b ∷ c ∷ letters)) 2) (list_all is_name_letter (a ∷ b ∷ c ∷ letters)) outer.0 in
    let short = leb-true (length (a ∷ b ∷ c ∷ letters)) 2 (and_parts (nat_le 1 (length (a ∷ b ∷ c ∷ letters))) (nat_le (length (a ∷ b ∷ c ∷ letters)) 2) inner.0).1 in
    absurd (omega (arith, short))

-- ---- rows

row_spelled : (digits : List ℕ) (row : ℕ) → row_of digits ≡ Some row → decimal (row + 1) ≡ digits
row_spelled digits row h = by (nat_le 49 (slice_index digits 0)) refl (number 4 4096 digits) refl h
  where
    by : (b : Bool) → nat_le 49 (slice_index digits 0) ≡ b → (o : Option ℕ) → number 4 4096 digits ≡ o → cond b (option_map (λ n. n - 1) o) None ≡ Some row → decimal (row + 1) ≡ digits
    by true first None is e = cc
    by true first (Some n) is e =
        let large = leb-true 49 (slice_index digits 0) first in
        let spelled : decimal n ≡ digits = number_spelled 4 4096 digits n (omega arith) is (λ zero_first. absurd (omega (arith, large, zero_first))) in
        let some : 1 ≤ n = above n spelled large in
        let same : n - 1 ≡ row = same_Some (n - 1) row e in
        let n_is : row + 1 ≡ n = omega (arith, same, some) in
        ap decimal n_is ∙ spelled
      where
        above : (m : ℕ) → decimal m ≡ digits → 49 ≤ slice_index digits 0 → 1 ≤ m
        above zero s l =
            let zero_first : slice_index digits 0 ≡ 48 = ap (λ (ds : List ℕ). get_or ds 0 0) (sym s ∙ decimal_digit 0 (omega arith)) in
            absurd (omega (arith, zero_first, l))
        above (suc m) s l = omega arith
    by false first o is e = cc

-- ---- names

split_all : (p : ℕ → Bool) (xs ys : List ℕ) → list_all p (xs ++ ys) ≡ true → (list_all p xs ≡ true) × (list_all p ys ≡ true)
split_all p xs ys h = and_parts (list_all p xs) (list_all p ys) (sym (list_all-append p xs ys) ∙ h)

pub name_spelled : (word : List ℕ) (p : Position) → position_named word ≡ Some p → reference_text p ≡ word
name_spelled word p h =
    let told = named_is word p h in
    let k = prefix_len is_name_letter word in
    by (row_of (drop k word)) refl (column_of (take k word)) refl told.1
    (split_all (λ c. nat_lt c 97) (take k word) (drop k word) (ap (list_all (λ c. nat_lt c 97)) (take-append-drop k word) ∙ told.0)).0
  where
    by : (r : Option ℕ) → row_of (drop (prefix_len is_name_letter word) word) ≡ r → (c : Option ℕ) → column_of (take (prefix_len is_name_letter word) word) ≡ c → option_and_then (λ row. option_map (λ column. (row, column)) c) r ≡ Some p
        → list_all (λ c. nat_lt c 97) (take (prefix_len is_name_letter word) word) ≡ true → reference_text p ≡ word
    by None ris c cis e small = cc
    by (Some row) ris None cis e small = cc
    by (Some row) ris (Some column) cis e small =
        let same : (row, column) ≡ p = same_Some (row, column) p e in
        ap reference_text (sym same)
        ∙ ap (λ (t : List ℕ). t ++ decimal (row + 1)) (column_spelled (take (prefix_len is_name_letter word) word) column cis small)
        ∙ ap (λ (t : List ℕ). take (prefix_len is_name_letter word) word ++ t) (row_spelled (drop (prefix_len is_name_letter word) word) row ris)
        ∙ take-append-drop (prefix_len is_name_letter word) word

-- ---- names that are written

pub record IsCapitals (word : List ℕ) : Type 0 where
  pub letters : list_all is_name_letter word ≡ true
  pub capitals : list_all (λ c. nat_lt c 97) word ≡ true

capital_code : (c : ℕ) → 65 ≤ c → c ≤ 90 → (is_name_letter c ≡ true) × (nat_lt c 97 ≡ true)
capital_code c low high = (grind (arith, nat_tests), grind (arith, nat_tests))

one_capital : (a : ℕ) → 65 ≤ a → a ≤ 90 → IsCapitals (a ∷ [])
one_capital a low high =
    let code = capital_code a low high in
    record { letters = and_from (is_name_letter a) true code.0 refl; capitals = and_from (nat_lt a 97) true code.1 refl }

two_capitals : (a b : ℕ) → 65 ≤ a → a ≤ 90 → 65 ≤ b → b ≤ 90 → IsCapitals (a ∷ b ∷ [])
two_capitals a b low high low2 high2 =
    let first = capital_code a low high in
    let last = one_capital b low2 high2 in
    record { letters = and_from (is_name_letter a) (list_all is_name_letter (b ∷ [])) first.0 last.letters; capitals = and_from (nat_lt a 97) (list_all (λ c. nat_lt c 97) (b ∷ [])) first.1 last.capitals }

pub column_capitals : (column : ℕ) → column < 256 → IsCapitals (column_letters column)
column_capitals column h = by (nat_lt column 26) refl
  where
    by : (b : Bool) → nat_lt column 26 ≡ b → IsCapitals (cond b ((65 + column) ∷ []) ((64 + column / 26) ∷ (65 + column % 26) ∷ []))
    by true is = let low = ltb-true column 26 is in one_capital (65 + column) (omega arith) (omega (arith, low))
    by false is =
        let high : 26 ≤ column = grind (arith, nat_tests) in
        two_capitals (64 + column / 26) (65 + column % 26) (omega (arith, high)) (omega (arith, h)) (omega arith) (omega arith)

column_value : (a : ℕ) → IsCapital a → 26 * 0 + letter_number a ≡ a - 64
column_value a is = let e = capital_number a is in omega (arith, e)

column_from : (letters : List ℕ) (n : ℕ) → nat_le 1 (length letters) ≡ true → nat_le (length letters) 2 ≡ true → list_all is_name_letter letters ≡ true → column_number letters ≡ n + 1 → n < 256 → column_of letters ≡ Some n
column_from letters n some few all is small =
    let value : nat_le (column_number letters) 256 ≡ true = le-leb (column_number letters) 256 (omega (arith, is, small)) in
    let last : column_number letters - 1 ≡ n = omega (arith, is) in
    cond-true (nat_le 1 (length letters) && nat_le (length letters) 2 && list_all is_name_letter letters && nat_le (column_number letters) 256) (Some (column_number letters - 1)) None
    (and_from (nat_le 1 (length letters) && nat_le (length letters) 2 && list_all is_name_letter letters) (nat_le (column_number letters) 256)
    (and_from (nat_le 1 (length letters) && nat_le (length letters) 2) (list_all is_name_letter letters) (and_from (nat_le 1 (length letters)) (nat_le (length letters) 2) some few) all) value)
    ∙ ap (λ (k : ℕ). Some k) last

column_written : (column : ℕ) → column < 256 → column_of (column_letters column) ≡ Some column
column_written column h = by (nat_lt column 26) refl
  where
    by : (b : Bool) → nat_lt column 26 ≡ b → column_of (cond b ((65 + column) ∷ []) ((64 + column / 26) ∷ (65 + column % 26) ∷ [])) ≡ Some column
    by true is =
        let low = ltb-true column 26 is in
        let a : IsCapital (65 + column) = record { low = omega arith; high = omega (arith, low) } in
        let e = column_value (65 + column) a in
        column_from ((65 + column) ∷ []) column refl refl (one_capital (65 + column) (omega arith) (omega (arith, low))).letters (omega (arith, e)) h
    by false is =
        let high : 26 ≤ column = grind (arith, nat_tests) in
        let a : IsCapital (64 + column / 26) = record { low = omega (arith, high); high = omega (arith, h) } in
        let b : IsCapital (65 + column % 26) = record { low = omega arith; high = omega arith } in
        let e = column_value (64 + column / 26) a in
        let f = capital_number (65 + column % 26) b in
        column_from ((64 + column / 26) ∷ (65 + column % 26) ∷ []) column refl refl (two_capitals (64 + column / 26) (65 + column % 26) a.low a.high b.low b.high).letters (omega (arith, e, f)) h

row_written : (row : ℕ) → row < 4096 → row_of (decimal (row + 1)) ≡ Some row
row_written row h =
    let first : 48 < slice_index (decimal (row + 1)) 0 = first_decimal (row + 1) (omega arith) (omega (arith, h)) in
    let test : nat_le 49 (slice_index (decimal (row + 1)) 0) ≡ true = le-leb 49 (slice_index (decimal (row + 1)) 0) (omega (arith, first)) in
    let last : row + 1 - 1 ≡ row = omega arith in
    cond-true (nat_le 49 (slice_index (decimal (row + 1)) 0)) (option_map (λ n. n - 1) (number 4 4096 (decimal (row + 1)))) None test
    ∙ ap (option_map (λ n. n - 1)) (number-decimal 4 4096 (row + 1) (omega arith) (omega (arith, h)) (omega (arith, h)) (omega (arith, h)))
    ∙ ap (λ (k : ℕ). Some k) last

-- letters, and then something that is no letter
run_length : (p : ℕ → Bool) (xs ys : List ℕ) → list_all p xs ≡ true → prefix_len p ys ≡ 0 → prefix_len p (xs ++ ys) ≡ length xs
run_length p [] ys h none = none
run_length p (c ∷ xs) ys h none =
    let parts = and_parts (p c) (list_all p xs) h in
    let rest = run_length p xs ys parts.1 none in
    ap (λ (b : Bool). cond b (1 + prefix_len p (xs ++ ys)) 0) parts.0 ∙ omega (arith, rest)

digit_code : (c : ℕ) → is_ascii_digit c ≡ true → (is_name_letter c ≡ false) × (nat_lt c 97 ≡ true)
digit_code c h = (grind (arith, nat_tests), grind (arith, nat_tests))

no_letters : (digits : List ℕ) → list_all is_ascii_digit digits ≡ true → prefix_len is_name_letter digits ≡ 0
no_letters [] h = refl
no_letters (c ∷ digits) h = ap (λ (b : Bool). cond b (1 + prefix_len is_name_letter digits) 0) (digit_code c (and_parts (is_ascii_digit c) (list_all is_ascii_digit digits) h).0).0

pub small_digits : (digits : List ℕ) → list_all is_ascii_digit digits ≡ true → list_all (λ c. nat_lt c 97) digits ≡ true
small_digits [] h = refl
small_digits (c ∷ digits) h =
    let parts = and_parts (is_ascii_digit c) (list_all is_ascii_digit digits) h in
    and_from (nat_lt c 97) (list_all (λ d. nat_lt d 97) digits) (digit_code c parts.0).1 (small_digits digits parts.1)

pub join_all : (p : ℕ → Bool) (xs ys : List ℕ) → list_all p xs ≡ true → list_all p ys ≡ true → list_all p (xs ++ ys) ≡ true
join_all p xs ys h k = list_all-append p xs ys ∙ and_from (list_all p xs) (list_all p ys) h k

pub name_written : (p : Position) → p.0 < 4096 → p.1 < 256 → position_named (reference_text p) ≡ Some p
name_written p row column =
    let letters = column_letters p.1 in
    let digits = decimal (p.0 + 1) in
    let capitals = column_capitals p.1 column in
    let all : list_all is_ascii_digit (decimal (p.0 + 1)) ≡ true = digits_of (p.0 + 1) (omega (arith, row)) in
    let small : list_all (λ c. nat_lt c 97) (reference_text p) ≡ true = join_all (λ c. nat_lt c 97) letters digits capitals.capitals (small_digits digits all) in
    let long : prefix_len is_name_letter (reference_text p) ≡ length letters = run_length is_name_letter letters digits capitals.letters (no_letters digits all) in
    let front : take (prefix_len is_name_letter (reference_text p)) (reference_text p) ≡ letters = ap (λ (k : ℕ). take k (reference_text p)) long ∙ take-append_seam letters digits in
    let back : drop (prefix_len is_name_letter (reference_text p)) (reference_text p) ≡ digits = ap (λ (k : ℕ). drop k (reference_text p)) long ∙ drop-append_seam letters digits in
    cond-true (list_all (λ c. nat_lt c 97) (reference_text p)) (reference (reference_text p)) None small
    ∙ ap (λ (ls : List ℕ). cell_of ls (drop (prefix_len is_name_letter (reference_text p)) (reference_text p))) front
    ∙ ap (cell_of letters) back
    ∙ ap (λ (r : Option ℕ). option_and_then (λ row. option_map {U = Position} (λ column. (row, column)) (column_of letters)) r) (row_written p.0 row)
    ∙ ap (option_map {U = Position} (λ c. (p.0, c))) (column_written p.1 column)
