-- The words and signs of formulas by their characters, with blanks before and behind each of them. Nothing is said of how far a reader goes.
use Rattle.std.specs.Prelude.{◌≡◌, ℕ, pos, ◌==◌, true, List, [], ◌∷◌, ◌++◌, codes, Some, if◌then◌else◌}
use Rattle.std.specs.List.{list_all}
use Rattle.cool_base.specs.Numbers.{number}
use Rattle.sheet_cells.specs.References.{reference}
use Rattle.formula_base.specs.declared.expressions.Operator.{Operator}
use Rattle.formula_base.specs.declared.expressions.Operator.TheVariants as sign
use Rattle.formula_base.specs.declared.expressions.Comparison.{Comparison}
use Rattle.formula_base.specs.declared.expressions.Comparison.TheVariants as comparison
use Rattle.formula_base.specs.declared.expressions.Function.{Function as Named}
use Rattle.formula_base.specs.declared.expressions.Function.TheVariants as function
use Rattle.formula_base.specs.declared.expressions.Expr.{Expr}
use Rattle.sheet_formula.specs.declared.tokens.Token.{Token}
use Rattle.sheet_formula.specs.declared.tokens.Token.TheVariants.{Number, Words, Cell, Function, If, Sign, Compare, Open, Close, Comma, Colon}
use Rattle.sheet_formula.specs.Tokens.{Text, is_named}
use Rattle.formula_laws.specs.Language.{IsComparison, IsFact}

-- the characters of a sign
abbrev pub operator_text : Operator → Text
operator_text sign.Add = codes "+"
operator_text sign.Subtract = codes "-"
operator_text sign.Multiply = codes "*"
operator_text sign.Divide = codes "/"

abbrev pub comparison_text : Comparison → Text
comparison_text comparison.Equal = codes "="
comparison_text comparison.NotEqual = codes "<>"
comparison_text comparison.Less = codes "<"
comparison_text comparison.Greater = codes ">"
comparison_text comparison.AtMost = codes "<="
comparison_text comparison.AtLeast = codes ">="

abbrev pub function_text : Named → Text
function_text function.Sum = codes "SUM"
function_text function.Min = codes "MIN"
function_text function.Max = codes "MAX"
function_text function.Count = codes "COUNT"

-- a text with each quote of it written twice
abbrev pub doubled : Text → Text
doubled [] = []
doubled (c ∷ text) = if c == 34 then 34 ∷ (34 ∷ doubled text) else c ∷ doubled text

-- characters that are a word or a sign
abbrev pub IsSpelled : Text → Token → Type 0
IsSpelled word (Number z) = (value : ℕ) × (z ≡ pos value) × (number 19 9223372036854775807 word ≡ Some value)
IsSpelled word (Words text) = word ≡ 34 ∷ (doubled text ++ 34 ∷ [])
IsSpelled word (Cell position) = reference word ≡ Some position
IsSpelled word (Function name) = is_named word (function_text name) ≡ true
IsSpelled word If = is_named word (codes "IF") ≡ true
IsSpelled word (Sign operator) = word ≡ operator_text operator
IsSpelled word (Compare comparison) = word ≡ comparison_text comparison
IsSpelled word Open = word ≡ codes "("
IsSpelled word Close = word ≡ codes ")"
IsSpelled word Comma = word ≡ codes ","
IsSpelled word Colon = word ≡ codes ":"

abbrev pub AreBlanks : Text → Type 0
AreBlanks text = list_all (λ c. c == 32) text ≡ true

-- a text that is these words and signs, with blanks between them, and before and behind all of them
abbrev pub IsSpelledAs : Text → List Token → Type 0
IsSpelledAs text [] = AreBlanks text
IsSpelledAs text (token ∷ tokens) =
    (blanks : Text) × (word : Text) × (rest : Text)
    × (text ≡ blanks ++ (word ++ rest)) × AreBlanks blanks × IsSpelled word token × IsSpelledAs rest tokens

-- the raw text is `=`, and then characters that are a formula, which says the expression
abbrev pub IsFormulaText : Text → Expr → Type 0
IsFormulaText raw expression =
    (text : Text) × (tokens : List Token)
    × (raw ≡ 61 ∷ text) × IsSpelledAs text tokens × IsComparison (IsFact 64) tokens expression
