-- The grammar of formulas as relations: which words and signs say which expression. Nothing is said of how they are read.
use Rattle.std.specs.Prelude.{◌≡◌, ◌⊎◌, ℕ, zero, suc, true, List, [], ◌∷◌, ◌++◌, Some}
use Rattle.formula_base.specs.declared.expressions.Argument.{Argument}
use Rattle.formula_base.specs.declared.expressions.Argument.TheVariants as argument
use Rattle.formula_base.specs.declared.expressions.Comparison.{Comparison}
use Rattle.formula_base.specs.declared.expressions.Function.{Function}
use Rattle.formula_base.specs.declared.expressions.Operator.TheVariants.{Subtract}
use Rattle.formula_base.specs.declared.expressions.Link.{Link}
use Rattle.formula_base.specs.declared.expressions.Expr.{Expr}
use Rattle.formula_base.specs.declared.expressions.Expr.TheVariants as e
use Rattle.sheet_formula.specs.declared.tokens.Token.{Token}
use Rattle.sheet_formula.specs.declared.tokens.Token.TheVariants.{Number, Words, Cell, Function as Called, If, Sign, Compare, Open, Close, Comma, Colon}
use Rattle.sheet_formula.specs.declared.levels.Level.{Level}
use Rattle.sheet_formula.specs.declared.levels.Level.TheVariants as level
use Rattle.sheet_formula.specs.Tokens.{Text, tokens_of}
use Rattle.sheet_formula.specs.Grammar.{is_of_level, joined}

-- words and signs, and what they say
abbrev pub Says : Type 0 → Type 1
Says A = List Token → A → Type 0

-- { sign operand }
abbrev pub AreLinks : Level → Says Expr → Says (List (Link Expr))
AreLinks level IsOperand tokens [] = tokens ≡ []
AreLinks level IsOperand tokens (link ∷ links) =
    (front : List Token) × (rest : List Token)
    × (tokens ≡ Sign link.operator ∷ (front ++ rest)) × (is_of_level level link.operator ≡ true)
    × IsOperand front link.operand × AreLinks level IsOperand rest links

-- operand { sign operand }
abbrev pub IsChain : Level → Says Expr → Says Expr
IsChain level IsOperand tokens expression =
    (first : Expr) × (links : List (Link Expr)) × (front : List Token) × (rest : List Token)
    × (expression ≡ joined first links) × (tokens ≡ front ++ rest)
    × IsOperand front first × AreLinks level IsOperand rest links

-- sum
abbrev pub IsSum : Says Expr → Says Expr
IsSum IsFact = IsChain level.Sum (IsChain level.Product IsFact)

-- sum sign sum
abbrev pub AreCompared : Says Expr → Says Expr
AreCompared IsOperand tokens expression =
    (sign : Comparison) × (left : Expr) × (right : Expr) × (front : List Token) × (rest : List Token)
    × (expression ≡ e.Compare sign left right) × (tokens ≡ front ++ Compare sign ∷ rest)
    × IsOperand front left × IsOperand rest right

-- cmp
abbrev pub IsComparison : Says Expr → Says Expr
IsComparison IsFact tokens expression = IsSum IsFact tokens expression ⊎ AreCompared (IsSum IsFact) tokens expression

-- arg
abbrev pub IsArgument : Says Expr → Says (Argument Expr)
IsArgument IsFact tokens (argument.Range first last) = tokens ≡ Cell first ∷ (Colon ∷ (Cell last ∷ []))
IsArgument IsFact tokens (argument.One value) = IsComparison IsFact tokens value

-- arg { "," arg }
abbrev pub AreArguments : Says Expr → Says (List (Argument Expr))
AreArguments IsFact tokens [] = ⊥
AreArguments IsFact tokens (value ∷ []) = IsArgument IsFact tokens value
AreArguments IsFact tokens (value ∷ next ∷ values) =
    (front : List Token) × (rest : List Token) × (tokens ≡ front ++ Comma ∷ rest)
    × IsArgument IsFact front value × AreArguments IsFact rest (next ∷ values)

-- number, text and ref
abbrev pub IsLeaf : Says Expr
IsLeaf tokens (e.Number z) = tokens ≡ Number z ∷ []
IsLeaf tokens (e.Words text) = tokens ≡ Words text ∷ []
IsLeaf tokens (e.Cell position) = tokens ≡ Cell position ∷ []
IsLeaf tokens _ = ⊥

-- "-" fact
abbrev pub IsNegation : Says Expr → Says Expr
IsNegation IsFact tokens expression =
    (operand : Expr) × (rest : List Token)
    × (expression ≡ e.Negate operand) × (tokens ≡ Sign Subtract ∷ rest) × IsFact rest operand

-- "(" cmp ")"
abbrev pub IsBracket : Says Expr → Says Expr
IsBracket IsFact tokens expression =
    (rest : List Token) × (tokens ≡ Open ∷ (rest ++ Close ∷ [])) × IsComparison IsFact rest expression

-- a function's name "(" arg { "," arg } ")"
abbrev pub IsCall : Says Expr → Says Expr
IsCall IsFact tokens expression =
    (function : Function) × (values : List (Argument Expr)) × (rest : List Token)
    × (expression ≡ e.Call function values) × (tokens ≡ Called function ∷ (Open ∷ (rest ++ Close ∷ [])))
    × AreArguments IsFact rest values

-- "IF" "(" cmp "," cmp "," cmp ")"
abbrev pub IsChoice : Says Expr → Says Expr
IsChoice IsFact tokens expression =
    (condition : Expr) × (first : Expr) × (second : Expr) × (a : List Token) × (b : List Token) × (c : List Token)
    × (expression ≡ e.If condition first second)
    × (tokens ≡ If ∷ (Open ∷ (a ++ Comma ∷ (b ++ Comma ∷ (c ++ Close ∷ [])))))
    × IsComparison IsFact a condition × IsComparison IsFact b first × IsComparison IsFact c second

-- what takes one of the depth
abbrev pub IsNested : Says Expr → Says Expr
IsNested IsFact tokens expression =
    IsNegation IsFact tokens expression ⊎ (IsBracket IsFact tokens expression ⊎ (IsCall IsFact tokens expression ⊎ IsChoice IsFact tokens expression))

-- fact, with at most this many brackets, calls and leading minus signs open at a place together
unfoldable pub IsFact : ℕ → Says Expr
IsFact zero tokens expression = IsLeaf tokens expression
IsFact (suc depth) tokens expression = IsLeaf tokens expression ⊎ IsNested (IsFact depth) tokens expression

-- the raw text is `=` and a formula that says the expression
abbrev pub IsFormula : Text → Expr → Type 0
IsFormula raw expression =
    (text : Text) × (tokens : List Token)
    × (raw ≡ 61 ∷ text) × (tokens_of text ≡ Some tokens) × IsComparison (IsFact 64) tokens expression
