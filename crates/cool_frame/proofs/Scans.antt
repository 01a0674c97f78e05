-- What is written of a number or a word is found again.
use Rattle.std.proofs.Common.{◌≡◌, ℕ, ◌+◌, ◌<◌, ◌≤◌, ◌^◌, Bool, true, not, List, [], ◌∷◌, ◌++◌, length, Some, refl, arith, lit<, rules}
use Rattle.std.proofs.lemmas.Bool.{and_parts}
use Rattle.std.proofs.lemmas.Fmt.{digits_decimal, decimal_nonempty}
use Rattle.std.proofs.lemmas.Str.Parse.{IsDigitsTest, IsNumeralModel, numerals_by_value}
use Rattle.std.proofs.Math.Seq.{take-append_seam, drop-append_seam, drop-append-add}
use Rattle.std.specs.Char.{is_ascii_digit}
use Rattle.std.specs.Fmt.{decimal}
use Rattle.std.specs.List.{list_all, prefix_len, position_or_len, after_first}
use Rattle.std.specs.Str.Parse.{digits_value}
use Rattle.cool_base.proofs.NumberLemmas.{number-decimal}
use Rattle.cool_frame.specs.Likely.{number_in, from_digit, is_other, is_equals, is_mark, word_in, behind_word}
use Rattle.cool_words.specs.Words.{is_letter}

-- a scan passes over a list that passes
passes : (q : ℕ → Bool) (xs ys : List ℕ) → list_all q xs ≡ true → prefix_len q (xs ++ ys) ≡ length xs + prefix_len q ys
passes q [] ys h = omega arith
passes q (x ∷ xs) ys h =
    let parts = and_parts (q x) (list_all q xs) h in
    let rest : prefix_len q (xs ++ ys) ≡ length xs + prefix_len q ys = passes q xs ys parts.1 in
    rw (parts.0, rest) (omega arith)

-- and ends behind it, where what follows stops it
passed : (q : ℕ → Bool) (xs ys : List ℕ) → list_all q xs ≡ true → prefix_len q ys ≡ 0 → prefix_len q (xs ++ ys) ≡ length xs
passed q xs ys h stop = rw (passes q xs ys h, stop) (omega arith)

-- a test and the test twice turned round
twice : (q : ℕ → Bool) (xs : List ℕ) → list_all q xs ≡ true → list_all (λ x. not (not (q x))) xs ≡ true
twice q [] h = refl
twice q (x ∷ xs) h =
    let parts = and_parts (q x) (list_all q xs) h in
    rw (parts.0, twice q xs parts.1) refl

-- a digit at the front stops a scan for digits
stops : (ds rest : List ℕ) → 0 < length ds → list_all is_ascii_digit ds ≡ true → prefix_len (λ b. not (is_ascii_digit b)) (ds ++ rest) ≡ 0
stops [] rest some h = absurd (omega arith)
stops (d ∷ ds) rest some h = let parts = and_parts (is_ascii_digit d) (list_all is_ascii_digit ds) h in rw parts.0 refl

tells_digits : IsDigitsTest (λ ds. list_all is_ascii_digit ds ≡ true)
tells_digits = search rules

own_digits : IsNumeralModel (λ ds. list_all is_ascii_digit ds ≡ true) (digits_value 10)
own_digits = numerals_by_value (λ ds. list_all is_ascii_digit ds ≡ true) tells_digits

-- a number behind a text without digits, and before a text that begins with none
pub number_again : (limit n : ℕ) (lit rest : List ℕ) → list_all is_other lit ≡ true → position_or_len is_other rest ≡ 0 → n < 2 ^ 64 → n ≤ limit → number_in limit (lit ++ (decimal n ++ rest)) ≡ Some (n, rest)
unfolding number_in
number_again limit n lit rest before stop small within =
    let ds : List ℕ = decimal n in
    let digits : list_all is_ascii_digit (decimal n) ≡ true = digits_decimal own_digits n small in
    let some : 0 < length (decimal n) = decimal_nonempty n small in
    let at : position_or_len is_ascii_digit (lit ++ (decimal n ++ rest)) ≡ length lit = passed is_other lit (decimal n ++ rest) before (stops (decimal n) rest some digits) in
    let from : from_digit (lit ++ (decimal n ++ rest)) ≡ decimal n ++ rest = rw (at, drop-append_seam lit (decimal n ++ rest)) refl in
    let count : position_or_len is_other (decimal n ++ rest) ≡ length (decimal n) = passed (λ b. not (is_other b)) (decimal n) rest (twice is_ascii_digit (decimal n) digits) stop in
    let fits : n < 10 ^ 20 = omega arith in
    rw (from, count, take-append_seam (decimal n) rest, drop-append_seam (decimal n) rest, number-decimal 20 limit n (lit< tt) fits small within) refl

-- a word behind an equals sign
pub word_again : (lit word rest : List ℕ) → list_all (λ b. not (is_equals b)) lit ≡ true → list_all is_letter word ≡ true → position_or_len is_mark rest ≡ 0
    → (word_in (lit ++ (61 ∷ (word ++ rest))) ≡ word) × (behind_word (lit ++ (61 ∷ (word ++ rest))) ≡ rest)
unfolding word_in behind_word
word_again lit word rest before letters stop =
    let at : position_or_len is_equals (lit ++ (61 ∷ (word ++ rest))) ≡ length lit = passed (λ b. not (is_equals b)) lit (61 ∷ (word ++ rest)) before refl in
    let from : after_first is_equals (lit ++ (61 ∷ (word ++ rest))) ≡ word ++ rest = rw (at, drop-append-add lit (61 ∷ (word ++ rest)) 1) refl in
    let count : position_or_len is_mark (word ++ rest) ≡ length word = passed (λ b. not (is_mark b)) word rest (twice is_letter word letters) stop in
    (rw (from, count, take-append_seam word rest) refl, rw (from, count, drop-append_seam word rest) refl)
