-- The grammar of formulas, over words and signs. A rule for each line of the grammar; the rules that nest take the rule one deeper as their argument.
use Rattle.std.specs.Prelude.{ℕ, zero, suc, Bool, true, false, ◌==◌, List, [], ◌∷◌, length, Option, Some, None, option_and_then, if◌then◌else◌}
use Rattle.formula_base.specs.declared.expressions.Operator.{Operator}
use Rattle.formula_base.specs.declared.expressions.Operator.TheVariants.{Add, Subtract, Multiply, Divide}
use Rattle.formula_base.specs.declared.expressions.Comparison.{Comparison}
use Rattle.formula_base.specs.declared.expressions.Argument.{Argument}
use Rattle.formula_base.specs.declared.expressions.Argument.TheVariants as argument
use Rattle.formula_base.specs.declared.expressions.Link.{Link}
use Rattle.formula_base.specs.declared.expressions.Expr.{Expr}
use Rattle.formula_base.specs.declared.expressions.Expr.TheVariants as e
use Rattle.formula_base.specs.Ranges.{Position}
use Rattle.sheet_formula.specs.declared.tokens.Token.{Token}
use Rattle.sheet_formula.specs.declared.tokens.Token.TheVariants.{Number, Words, Cell, Function, If, Sign, Compare, Open, Close, Comma, Colon}
use Rattle.sheet_formula.specs.declared.levels.Level.{Level}
use Rattle.sheet_formula.specs.declared.levels.Level.TheVariants as level
use Rattle.sheet_formula.specs.Tokens.{Text, tokens_of}
use Rattle.sheet_formula.specs.Reading.{Reading, pure, refused, next, ◌>>=◌}
use Rattle.sheet_formula.specs.declared.formulas.TheConstants.{MAX_DEPTH}

-- whether a sign stands between the operands of a level
abbrev pub is_of_level : Level → Operator → Bool
is_of_level level.Sum Add = true
is_of_level level.Sum Subtract = true
is_of_level level.Product Multiply = true
is_of_level level.Product Divide = true
is_of_level _ _ = false

-- the level of the operands of a level
abbrev pub inner_level : Level → Option Level
inner_level level.Fact = None
inner_level level.Product = Some level.Fact
inner_level level.Sum = Some level.Product

-- a sign of the level
abbrev pub sign_of_level : Level → Reading Operator
sign_of_level level (Sign operator ∷ tokens) = if is_of_level level operator then Some (operator, tokens) else None
sign_of_level level _ = None

-- a sign that compares
abbrev pub comparison_sign : Reading Comparison
comparison_sign (Compare comparison ∷ tokens) = Some (comparison, tokens)
comparison_sign _ = None

-- the signs that stand alone
abbrev pub open_sign : Reading Unit
open_sign (Open ∷ tokens) = Some (tt, tokens)
open_sign _ = None

abbrev pub close_sign : Reading Unit
close_sign (Close ∷ tokens) = Some (tt, tokens)
close_sign _ = None

abbrev pub comma_sign : Reading Unit
comma_sign (Comma ∷ tokens) = Some (tt, tokens)
comma_sign _ = None

-- an operand with the signs and operands behind it; with none it is the operand itself
abbrev pub joined : Expr → List (Link Expr) → Expr
joined first [] = first
joined first (link ∷ links) = e.Chain first (link ∷ links)

-- { sign operand }, at most n of them
unfoldable pub links : Level → Reading Expr → ℕ → Reading (List (Link Expr))
links level operand zero tokens = Some ([], tokens)
links level operand (suc n) tokens =
    elim (sign_of_level level tokens) [
      | None ↦ Some ([], tokens)
      | Some found ↦ (operand >>= λ right. links level operand n >>= λ more. pure (record { operator = found.0; operand = right } ∷ more)) found.1
    ]

-- operand { sign operand }: each link takes a sign, so there are no more of them than words and signs
unfoldable pub chain : Level → Reading Expr → Reading Expr
chain level operand = operand >>= λ first. (λ tokens. links level operand (length tokens) tokens) >>= λ more. pure (joined first more)

-- prod := fact { ("*" | "/") fact }, and sum := prod { ("+" | "-") prod }
unfoldable pub level_of : Level → Reading Expr → Reading Expr
level_of level.Fact fact = fact
level_of level.Product fact = chain level.Product fact
level_of level.Sum fact = chain level.Sum (chain level.Product fact)

-- [ sign sum ]
unfoldable pub compared_with : Reading Expr → Expr → Reading Expr
compared_with sum left tokens =
    elim (comparison_sign tokens) [
      | None ↦ Some (left, tokens)
      | Some found ↦ (sum >>= λ right. pure (e.Compare found.0 left right)) found.1
    ]

-- cmp := sum [ sign sum ]
unfoldable pub comparison : Reading Expr → Reading Expr
comparison fact = level_of level.Sum fact >>= λ left. compared_with (level_of level.Sum fact) left

-- cmp, and the sign that ends it
unfoldable pub part : Reading Unit → Reading Expr → Reading Expr
part end fact = comparison fact >>= λ value. end >>= λ _. pure value

-- a cell and a colon begin a range
abbrev pub is_range : List Token → Bool
is_range (Cell position ∷ (Colon ∷ tokens)) = true
is_range _ = false

-- a cell
abbrev pub cell : Reading Position
cell (Cell position ∷ tokens) = Some (position, tokens)
cell _ = None

-- ref ":" ref
unfoldable pub range : Reading (Argument Expr)
range = cell >>= λ first. next >>= λ _. cell >>= λ last. pure (argument.Range first last)

-- arg := ref ":" ref | cmp
unfoldable pub argument_of : Reading Expr → Reading (Argument Expr)
argument_of fact tokens = if is_range tokens then range tokens else (comparison fact >>= λ value. pure (argument.One value)) tokens

-- behind an argument a comma and further ones, or the bracket that ends them
abbrev pub behind_argument : Reading (List (Argument Expr)) → Argument Expr → Token → Reading (List (Argument Expr))
behind_argument further first Comma = further >>= λ more. pure (first ∷ more)
behind_argument further first Close = pure (first ∷ [])
behind_argument further first _ = refused

-- arg { "," arg } ")", at most n arguments
unfoldable pub arguments : Reading Expr → ℕ → Reading (List (Argument Expr))
arguments fact zero = refused
arguments fact (suc n) = argument_of fact >>= λ first. next >>= λ token. behind_argument (arguments fact n) first token

-- "IF" "(" cmp "," cmp "," cmp ")", behind the name
unfoldable pub choice : Reading Expr → Reading Expr
choice fact = open_sign >>= λ _. part comma_sign fact >>= λ condition. part comma_sign fact >>= λ first. part close_sign fact >>= λ second. pure (e.If condition first second)

-- a bracket, a call or a minus sign, behind its first token; `fact` reads what is one deeper
unfoldable pub nested : Reading Expr → Token → Reading Expr
nested fact (Sign Subtract) = fact >>= λ value. pure (e.Negate value)
nested fact Open = part close_sign fact
nested fact (Function function) = open_sign >>= λ _. (λ tokens. arguments fact (length tokens) tokens) >>= λ values. pure (e.Call function values)
nested fact If = choice fact
nested fact _ = refused

-- a number, a text or a cell, and what nests
abbrev pub by_token : Reading Expr → Token → Reading Expr
by_token deeper (Number z) = pure (e.Number z)
by_token deeper (Words text) = pure (e.Words text)
by_token deeper (Cell position) = pure (e.Cell position)
by_token deeper _ = deeper

-- fact, with at most this many brackets, calls and minus signs open at a place in it
unfoldable pub fact : ℕ → Reading Expr
fact zero = next >>= by_token refused
fact (suc depth) = next >>= λ token. by_token (nested (fact depth) token) token

-- the words and signs are a formula, all of them
unfoldable pub formula : List Token → Option Expr
formula tokens = option_and_then (λ found. if length found.1 == 0 then Some found.0 else None) (comparison (fact MAX_DEPTH) tokens)

-- the expression of a raw text: behind a first `=`, all of the text is a formula
unfoldable pub formula_of : Text → Option Expr
formula_of [] = None
formula_of (c ∷ text) = if c == 61 then option_and_then formula (tokens_of text) else None
