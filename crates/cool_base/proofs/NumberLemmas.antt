-- What a digit, or a number grown too large, says of the whole text.
use Rattle.std.proofs.Common.{◌≡◌, ℕ, ◌+◌, ◌*◌, ◌<◌, ◌≤◌, true, false, nat_lt, List, length, get_or, take, Some, None, arith, le-ltb, lt-ltb, ◌^◌, nat_le, le-leb, refl, rules}
use Rattle.std.specs.Char.{is_ascii_digit, digit_value}
use Rattle.std.specs.List.{list_all}
use Rattle.std.proofs.lemmas.List.Folds.{list_all_at, list_all_more}
use Rattle.std.proofs.lemmas.Int.Digits.{digits_value_more}
use Rattle.std.specs.Fmt.{decimal}
use Rattle.std.specs.Str.Parse.{digits_value}
use Rattle.std.proofs.lemmas.Fmt.{digits_decimal, digits_value-decimal, decimal_nonempty, length-decimal-le}
use Rattle.std.proofs.lemmas.Str.Parse.{digits_value-take-le, IsDigitsTest, IsNumeralModel, numerals_by_value}
use Rattle.std.proofs.lemmas.List.{take_all}
use Rattle.std.proofs.lemmas.Grind.{common_steps}
use Rattle.cool_base.specs.Numbers.{decimal_value, value_below, number}

pub no_digit : (end : ℕ) (text : List ℕ) (i : ℕ) → i < length text → is_ascii_digit (get_or text i 0) ≡ false → value_below end text ≡ None
no_digit end text i here none = let e : list_all is_ascii_digit text ≡ false = list_all_at is_ascii_digit text i 0 here none in grind (arith, common_steps)

pub too_large : (end : ℕ) (text : List ℕ) (i : ℕ) → i < length text → end ≤ decimal_value (take i text) * 10 + digit_value (get_or text i 0) → value_below end text ≡ None
too_large end text i here large =
    let more = digits_value_more 10 text i here in
    let kept = digits_value-take-le 10 text (i + 1) (omega arith) in
    let e : nat_lt (decimal_value text) end ≡ false = le-ltb (decimal_value text) end (omega (arith, more, kept)) in
    grind (arith, common_steps)

pub one_more_value : (text : List ℕ) (i v w : ℕ) → i < length text → v ≡ decimal_value (take i text) → w ≡ v * 10 + digit_value (get_or text i 0) → w ≡ decimal_value (take (i + 1) text)
one_more_value text i v w here is more = rw (digits_value_more 10 text i here) (omega (arith, is, more))

pub one_more_digit : (text : List ℕ) (i : ℕ) → i < length text → list_all is_ascii_digit (take i text) ≡ true → is_ascii_digit (get_or text i 0) ≡ true → list_all is_ascii_digit (take (i + 1) text) ≡ true
one_more_digit text i here so_far one = rw (list_all_more is_ascii_digit text i 0 here, so_far) one

pub all_read : (end : ℕ) (text : List ℕ) (v i : ℕ) → length text ≤ i → v ≡ decimal_value (take i text) → list_all is_ascii_digit (take i text) ≡ true → v < end → Some v ≡ value_below end text
all_read end text v i whole is digits small =
    let e : take i text ≡ text = take_all i text whole in
    let v_is : v ≡ decimal_value text = rw e at is in
    let d : list_all is_ascii_digit text ≡ true = rw e at digits in
    let b : nat_lt (decimal_value text) end ≡ true = rw (← v_is) (lt-ltb v end small) in
    grind (arith, common_steps)

pub ruleset readings = (no_digit, too_large, one_more_value, one_more_digit, all_read)

tells_digits : IsDigitsTest (λ ds. list_all is_ascii_digit ds ≡ true)
tells_digits = search rules

own_digits : IsNumeralModel (λ ds. list_all is_ascii_digit ds ≡ true) (digits_value 10)
own_digits = numerals_by_value (λ ds. list_all is_ascii_digit ds ≡ true) tells_digits

-- what is written of a number is read as that number
pub number-decimal : (most limit n : ℕ) → 0 < most → n < 10 ^ most → n < 2 ^ 64 → n ≤ limit → number most limit (decimal n) ≡ Some n
number-decimal most limit n some fits small within =
    let digits : list_all is_ascii_digit (decimal n) ≡ true = digits_decimal own_digits n small in
    let value : decimal_value (decimal n) ≡ n = digits_value-decimal own_digits n small in
    let long : nat_lt 0 (length (decimal n)) ≡ true = lt-ltb 0 (length (decimal n)) (decimal_nonempty n small) in
    let short : nat_le (length (decimal n)) most ≡ true = le-leb (length (decimal n)) most (length-decimal-le most n some fits small) in
    let low : nat_le n limit ≡ true = le-leb n limit within in
    rw (long, digits, short, value, low) refl
