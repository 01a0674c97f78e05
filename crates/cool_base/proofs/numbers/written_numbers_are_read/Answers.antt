use Rattle.std.proofs.Common.{arith, lit<}
use Rattle.cool_base.proofs.NumberLemmas.{number-decimal}
use Rattle.cool_base.proofs.numbers.written_numbers_are_read.Goals as goal

pub returns : goal.returns
returns c = record {
  small = λ n h. number-decimal 10 2147483647 n (lit< tt) (omega arith) (omega arith) h;
  large = λ n h. number-decimal 20 18446744073709551615 n (lit< tt) (omega arith) h (omega arith);
}
