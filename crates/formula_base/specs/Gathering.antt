-- What is gathered of values in order.
use Rattle.std.specs.Prelude.{◌++◌, Bool, true, false, List, [], ◌∷◌, Some}
use Rattle.std.specs.Option.{option_or}
use Rattle.formula_base.specs.declared.gathering.Gathered.{Gathered}
use Rattle.formula_base.specs.declared.values.Value.{Value}
use Rattle.formula_base.specs.declared.values.Value.TheVariants.{Empty, Number, Words, Fault}
use Rattle.formula_base.specs.Evaluation.{numbers_in, first_fault}

-- the numbers among values and their first error
abbrev pub gathered : List Value → Gathered
gathered values = record { numbers = numbers_in values; fault = first_fault values }

-- whether a value isn't Empty
abbrev pub is_filled : Value → Bool
is_filled Empty = false
is_filled (Number z) = true
is_filled (Words text) = true
is_filled (Fault f) = true

-- the same with one more value
abbrev pub with_value : Gathered → Value → Gathered
with_value g (Number z) = record { numbers = g.numbers ++ z ∷ []; fault = g.fault }
with_value g (Fault f) = record { numbers = g.numbers; fault = option_or g.fault (Some f) }
with_value g Empty = g
with_value g (Words text) = g
