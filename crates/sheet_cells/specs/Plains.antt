-- What a raw text is that holds no formula.
use Rattle.std.specs.Prelude.{ℕ, pos, neg_ℤ, List, [], ◌∷◌, Option, Some, None, ◌==◌, if◌then◌else◌}
use Rattle.cool_base.specs.Numbers.{number}
use Rattle.sheet_cells.specs.declared.plains.Plain.{Plain}
use Rattle.sheet_cells.specs.declared.plains.Plain.TheVariants.{Empty, Number, Text}

-- the number that was read, or a text
abbrev pub number_or_text : (ℕ → Plain) → Option ℕ → Plain
number_or_text as_number (Some n) = as_number n
number_or_text as_number None = Text

-- 1 to 19 digits that write at most 9223372036854775807 are that number
abbrev pub positive : List ℕ → Plain
positive digits = number_or_text (λ n. Number (pos n)) (number 19 9223372036854775807 digits)

-- behind a `-`, 1 to 19 digits that write at most 9223372036854775808 are the number below zero
abbrev pub negative : List ℕ → Plain
negative digits = number_or_text (λ n. Number (neg_ℤ (pos n))) (number 19 9223372036854775808 digits)

-- an empty text is empty, a text that writes a number of 64 signed bits is that number, and any other is a text
abbrev pub plain_of : List ℕ → Plain
plain_of [] = Empty
plain_of (c ∷ rest) = if c == 45 then negative rest else positive (c ∷ rest)
