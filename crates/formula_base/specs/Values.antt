-- Signs over values.
use Rattle.std.specs.Prelude.{ℤ, pos, negsuc, neg_ℤ, ◌+ℤ◌, ◌-ℤ◌, ◌*ℤ◌, int_div, ◌^◌, Bool, nat_lt, not, [], Option, Some, None, Result, Ok, Err, if◌then◌else◌}
use Rattle.std.specs.Ordering.{nat_cmp, int_cmp, int_eq, is_eq, is_lt, is_gt}
use Rattle.std.specs.Cmp.Lexicographic.{slice_cmp}
use Rattle.std.specs.declared.cmp.Ordering.{Ordering}
use Rattle.std.specs.declared.cmp.Ordering.TheVariants.{Less, Greater}
use Rattle.formula_base.specs.declared.values.Value.{Value}
use Rattle.formula_base.specs.declared.values.Value.TheVariants.{Empty, Number, Words, Fault}
use Rattle.formula_base.specs.declared.values.CellFault.{CellFault}
use Rattle.formula_base.specs.declared.values.CellFault.TheVariants as fault
use Rattle.formula_base.specs.declared.expressions.Operator.{Operator}
use Rattle.formula_base.specs.declared.expressions.Operator.TheVariants as sign
use Rattle.formula_base.specs.declared.expressions.Comparison.{Comparison}
use Rattle.formula_base.specs.declared.expressions.Comparison.TheVariants as comparison

-- whether the number is one of 64 signed bits
abbrev pub fits_i64 : ℤ → Bool
fits_i64 (pos n) = nat_lt n (2 ^ 63)
fits_i64 (negsuc n) = nat_lt n (2 ^ 63)

-- a number as a value: `#NUM!` where it is out of range
abbrev pub number : ℤ → Value
number z = if fits_i64 z then Number z else Fault fault.Num

-- a number that may be out of range, as a value
abbrev pub number_or_num : Option ℤ → Value
number_or_num (Some z) = Number z
number_or_num None = Fault fault.Num

-- the number that counts for a value between signs: 0 for Empty, none for a text, and an error gives itself
abbrev pub operand : Value → Result ℤ CellFault
operand Empty = Ok (pos 0)
operand (Number z) = Ok z
operand (Words text) = Err fault.Value
operand (Fault f) = Err f

-- a sign over one operand, whose error gives itself
abbrev pub on_number : (ℤ → Value) → Result ℤ CellFault → Value
on_number sign (Err f) = Fault f
on_number sign (Ok x) = sign x

-- a sign over two operands, the left one's error first
abbrev pub on_numbers : (ℤ → ℤ → Value) → Result ℤ CellFault → Result ℤ CellFault → Value
on_numbers sign (Err f) b = Fault f
on_numbers sign (Ok x) (Err f) = Fault f
on_numbers sign (Ok x) (Ok y) = sign x y

-- two numbers and the sign between them; division goes towards zero
abbrev pub arithmetic : Operator → ℤ → ℤ → Value
arithmetic sign.Add x y = number (x +ℤ y)
arithmetic sign.Subtract x y = number (x -ℤ y)
arithmetic sign.Multiply x y = number (x *ℤ y)
arithmetic sign.Divide x y = if int_eq y (pos 0) then Fault fault.Div0 else number (int_div x y)

-- two values and the sign between them
abbrev pub combined : Operator → Value → Value → Value
combined operator left right = on_numbers (arithmetic operator) (operand left) (operand right)

-- a minus sign and its operand
abbrev pub negated : Value → Value
negated a = on_number (λ x. number (neg_ℤ x)) (operand a)

-- the number of a Number, 0 for all else
abbrev pub as_number : Value → ℤ
as_number (Number z) = z
as_number _ = pos 0

-- how two values compare that are no errors: texts by their bytes, a number before a text, numbers by size; Empty counts as the empty text beside a text, and else as 0
abbrev pub order : Value → Value → Ordering
order (Words s) (Words t) = slice_cmp nat_cmp s t
order (Words s) Empty = slice_cmp nat_cmp s []
order Empty (Words t) = slice_cmp nat_cmp [] t
order (Words s) _ = Greater
order _ (Words t) = Less
order a b = int_cmp (as_number a) (as_number b)

-- whether a comparison holds of values that compare so
abbrev pub holds : Comparison → Ordering → Bool
holds comparison.Equal o = is_eq o
holds comparison.NotEqual o = not (is_eq o)
holds comparison.Less o = is_lt o
holds comparison.Greater o = is_gt o
holds comparison.AtMost o = not (is_gt o)
holds comparison.AtLeast o = not (is_lt o)

-- 1 or 0
abbrev pub truth : Bool → Value
truth b = if b then Number (pos 1) else Number (pos 0)

-- two values and the comparison between them; an error gives itself, the left one first
abbrev pub compared : Comparison → Value → Value → Value
compared sign (Fault f) b = Fault f
compared sign a (Fault f) = Fault f
compared sign a b = truth (holds sign (order a b))

-- an if with its condition and its two values: an error gives itself, a text is refused, 0 and Empty choose the second
abbrev pub chosen : Value → Value → Value → Value
chosen (Fault f) a b = Fault f
chosen (Words text) a b = Fault fault.Value
chosen Empty a b = b
chosen (Number z) a b = if int_eq z (pos 0) then b else a
