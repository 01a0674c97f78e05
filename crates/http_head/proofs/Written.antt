-- A length that is written in digits is read as that length.
use Rattle.std.proofs.Common.{◌≡◌, ℕ, ◌<◌, ◌^◌, true, length, refl, arith, nat_le, nat_lt, le-leb, lt-ltb, rules}
use Rattle.std.specs.Prelude.{decimal}
use Rattle.std.specs.List.{list_all}
use Rattle.std.specs.Char.{is_ascii_digit}
use Rattle.std.specs.Str.Parse.{digits_value}
use Rattle.std.proofs.lemmas.Fmt.{digits_decimal, digits_value-decimal, decimal_nonempty, length-decimal-le}
use Rattle.std.proofs.lemmas.Str.Parse.{IsDigitsTest, IsNumeralModel, numerals_by_value}
use Rattle.cool_base.specs.Numbers.{decimal_value}
use Rattle.http_head.specs.declared.framing.Said.TheVariants.{Length}
use Rattle.http_head.specs.Framings.{length_said}

tells_digits : IsDigitsTest (λ ds. list_all is_ascii_digit ds ≡ true)
tells_digits = search rules

own_digits : IsNumeralModel (λ ds. list_all is_ascii_digit ds ≡ true) (digits_value 10)
own_digits = numerals_by_value (λ ds. list_all is_ascii_digit ds ≡ true) tells_digits

pub written_digits : (n : ℕ) → n < 10 ^ 19 → list_all is_ascii_digit (decimal n) ≡ true
written_digits n small = digits_decimal own_digits n (omega arith)

pub length_written : (n : ℕ) → n < 10 ^ 19 → length_said (decimal n) ≡ Length n
length_written n small =
    let fits : n < 2 ^ 64 = omega arith in
    let digits = written_digits n small in
    let value : decimal_value (decimal n) ≡ n = digits_value-decimal own_digits n fits in
    let long : nat_lt 0 (length (decimal n)) ≡ true = lt-ltb 0 (length (decimal n)) (decimal_nonempty n fits) in
    let short : nat_le (length (decimal n)) 19 ≡ true = le-leb (length (decimal n)) 19 (length-decimal-le 19 n (omega arith) small fits) in
    rw (long, digits, short, value) refl
