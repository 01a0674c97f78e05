-- Values of visible ASCII are text; a length of 19 digits fits.
use Rattle.std.proofs.Common.{◌≡◌, ℕ, ◌<◌, ◌≤◌, ◌&&◌, Bool, true, false, List, length, Some, None, refl, arith, ap, nat_le, nat_lt, le-leb, leb-true, rules}
use Rattle.std.specs.Prelude.{IsUtf8, if◌then◌else◌}
use Rattle.std.specs.List.{list_all}
use Rattle.std.specs.Char.{is_ascii_digit, is_ascii_graphic}
use Rattle.std.specs.Str.Parse.{digits_value}
use Rattle.std.proofs.lemmas.Bool.Decides.{nat_tests}
use Rattle.std.proofs.lemmas.List.Sums.{AllPass-from_list_all}
use Rattle.std.proofs.lemmas.List.Elements.{All-weaker}
use Rattle.std.proofs.lemmas.Str.{IsUtf8-from_ascii}
use Rattle.std.proofs.lemmas.Str.Ascii.{IsAscii-from_all}
use Rattle.std.proofs.lemmas.Str.Parse.{IsDigitsTest, IsNumeralModel, numerals_by_value, digits_value_short}
use Rattle.cool_base.specs.Numbers.{number, decimal_value}
use Rattle.http_head.specs.declared.framing.Said.TheVariants.{Length, Wrong}
use Rattle.http_head.specs.Lines.{is_shown}
use Rattle.http_head.specs.Framings.{length_said}

tells_digits : IsDigitsTest (λ ds. list_all is_ascii_digit ds ≡ true)
tells_digits = search rules

own_digits : IsNumeralModel (λ ds. list_all is_ascii_digit ds ≡ true) (digits_value 10)
own_digits = numerals_by_value (λ ds. list_all is_ascii_digit ds ≡ true) tells_digits

-- 19 digits write a number below 2 ^ 64
pub digits_fit : (text : List ℕ) → list_all is_ascii_digit text ≡ true → length text ≤ 19 → nat_le (decimal_value text) 18446744073709551615 ≡ true
digits_fit text digits short =
    let below = digits_value_short own_digits text 19 digits short in
    le-leb (decimal_value text) 18446744073709551615 (omega (arith, below))

-- what is no number of 19 digits is no length
pub no_number : (value : List ℕ) → number 19 18446744073709551615 value ≡ None → length_said value ≡ Wrong
no_number value none = by (list_all is_ascii_digit value) (nat_lt 0 (length value)) (nat_le (length value) 19) refl refl none
  where
    by : (d n s : Bool) → list_all is_ascii_digit value ≡ d → nat_le (length value) 19 ≡ s
        → (if (n && d) && (s && nat_le (decimal_value value) 18446744073709551615) then Some (decimal_value value) else None) ≡ None
        → (if (n && d) && s then Length (decimal_value value) else Wrong) ≡ Wrong
    by false true s is_digits is_short none = refl
    by false false s is_digits is_short none = refl
    by true false s is_digits is_short none = refl
    by true true false is_digits is_short none = refl
    by true true true is_digits is_short none =
        let fits = digits_fit value is_digits (leb-true (length value) 19 is_short) in
        let some : (if nat_le (decimal_value value) 18446744073709551615 then Some (decimal_value value) else None) ≡ Some (decimal_value value) = ap (λ b. if b then Some (decimal_value value) else None) fits in
        cc

-- each byte passes one test where it passes a narrower one
pub all_ascii : (p : ℕ → Bool) (text : List ℕ) → ((b : ℕ) → p b ≡ true → b < 128) → list_all p text ≡ true → IsUtf8 text
all_ascii p text narrow passes =
    IsUtf8-from_ascii text (IsAscii-from_all text (All-weaker (λ b. p b ≡ true) (λ b. b < 128) narrow text (AllPass-from_list_all p text passes)))

pub shown_is_text : (text : List ℕ) → list_all is_shown text ≡ true → IsUtf8 text
shown_is_text text passes = all_ascii is_shown text (λ b shows. grind (arith, nat_tests)) passes

pub plain_is_text : (text : List ℕ) → list_all is_ascii_graphic text ≡ true → IsUtf8 text
plain_is_text text passes = all_ascii is_ascii_graphic text (λ b shows. grind (arith, nat_tests)) passes

pub ruleset texts = (no_number, shown_is_text, plain_is_text)
