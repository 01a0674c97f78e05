use Rattle.std.proofs.Common.{◌≡◌, ◌<◌, ◌^◌, true, take}
use Rattle.std.specs.Char.{is_ascii_digit}
use Rattle.std.specs.List.{list_all}
use Rattle.cool_base.specs.Numbers.{decimal_value}
use Rattle.cool_base.proofs.numbers.digits_of.Given as goal

abbrev pub invariant-loop-digit : goal.invariant-loop-digit
invariant-loop-digit l = record {
  value : l.value ≡ decimal_value (take l.digit-index l.text);
  fits : l.value < 2 ^ 64;
  digits : list_all is_ascii_digit (take l.digit-index l.text) ≡ true;
}
