-- Decimal numbers: in messages, frames, script lines and files alike.
use Rattle.std.specs.Prelude.{ℕ, Bool, ◌&&◌, nat_lt, nat_le, List, length, Option, Some, None, if◌then◌else◌}
use Rattle.std.specs.List.{list_all}
use Rattle.std.specs.Char.{is_ascii_digit}
use Rattle.std.specs.Str.Parse.{digits_value}

-- whether the text is one or more decimal digits and nothing else
abbrev pub is_decimal : List ℕ → Bool
is_decimal text = nat_lt 0 (length text) && list_all is_ascii_digit text

-- the number that decimal digits write, the first being the highest
abbrev pub decimal_value : List ℕ → ℕ
decimal_value text = digits_value 10 text

-- the number that digits write, where it is below `end`
abbrev pub value_below : ℕ → List ℕ → Option ℕ
value_below end text = if nat_lt (decimal_value text) end && list_all is_ascii_digit text then Some (decimal_value text) else None

-- the number of a text of at most `most` decimal digits, leading zeros allowed, where it is at most `limit`
abbrev pub number : ℕ → ℕ → List ℕ → Option ℕ
number most limit text =
    if is_decimal text && (nat_le (length text) most && nat_le (decimal_value text) limit) then Some (decimal_value text) else None

-- a number of a message: 1 to 10 digits with a value of at most 2,147,483,647
abbrev pub number_31 : List ℕ → Option ℕ
number_31 text = number 10 2147483647 text

-- a number of 64 bits: 1 to 20 digits with a value below 2 ^ 64
abbrev pub number_64 : List ℕ → Option ℕ
number_64 text = number 20 18446744073709551615 text
