-- The value of an expression and the cells that it names, each by what one level of it gives.
use Rattle.std.specs.Prelude.{ℤ, pos, ◌+ℤ◌, List, [], ◌∷◌, ◌++◌, length, map, fold, Option, Some, None}
use Rattle.std.specs.Int.{int_min, int_max}
use Rattle.std.specs.List.{flat_map}
use Rattle.formula_base.specs.declared.values.Value.{Value}
use Rattle.formula_base.specs.declared.values.Value.TheVariants as value
use Rattle.formula_base.specs.declared.values.CellFault.{CellFault}
use Rattle.formula_base.specs.declared.expressions.Function.{Function}
use Rattle.formula_base.specs.declared.expressions.Function.TheVariants.{Sum, Min, Max, Count}
use Rattle.formula_base.specs.declared.expressions.Argument.{Argument}
use Rattle.formula_base.specs.declared.expressions.Argument.TheVariants.{Range, One}
use Rattle.formula_base.specs.declared.expressions.Expr.{Expr}
use Rattle.formula_base.specs.declared.expressions.Expr.TheOpen.{Expr-F}
use Rattle.formula_base.specs.declared.expressions.Expr.TheFolds.{fold-Expr}
use Rattle.formula_base.specs.Values.{number, combined, negated, compared, chosen}
use Rattle.formula_base.specs.Ranges.{Position, cells_between, position_cmp}
use Rattle.std.specs.BTreeSet.{insert_key}

-- the numbers among values, in order
abbrev pub numbers_in : List Value → List ℤ
numbers_in [] = []
numbers_in (value.Number z ∷ values) = z ∷ numbers_in values
numbers_in (_ ∷ values) = numbers_in values

-- the first error among values
abbrev pub first_fault : List Value → Option CellFault
first_fault [] = None
first_fault (value.Fault f ∷ values) = Some f
first_fault (_ ∷ values) = first_fault values

-- an error, or else a value
abbrev pub fault_or : Option CellFault → Value → Value
fault_or (Some f) v = value.Fault f
fault_or None v = v

-- the least of some numbers, 0 where there is none
abbrev pub least : List ℤ → ℤ
least [] = pos 0
least (z ∷ numbers) = fold int_min z numbers

-- the greatest
abbrev pub greatest : List ℤ → ℤ
greatest [] = pos 0
greatest (z ∷ numbers) = fold int_max z numbers

-- a function of values in order: the whole sum, the least and the greatest of the numbers among them, unless one is an error; and how many numbers there are, errors or not
abbrev pub function_of : Function → Option CellFault → List ℤ → Value
function_of Sum fault numbers = fault_or fault (number (fold ◌+ℤ◌ (pos 0) numbers))
function_of Min fault numbers = fault_or fault (value.Number (least numbers))
function_of Max fault numbers = fault_or fault (value.Number (greatest numbers))
function_of Count fault numbers = value.Number (pos (length numbers))

-- the values of an argument, those of a range row by row
abbrev pub argument_values : (Position → Value) → Argument Value → List Value
argument_values look (Range p q) = map look (cells_between p q)
argument_values look (One v) = v ∷ []

-- the value of a function's call
abbrev pub called : Function → List Value → Value
called function values = function_of function (first_fault values) (numbers_in values)

-- the value of one level of an expression
abbrev pub eval_layer : (Position → Value) → Expr-F Value → Value
eval_layer look (Expr-F.Number z) = value.Number z
eval_layer look (Expr-F.Words text) = value.Words text
eval_layer look (Expr-F.Cell position) = look position
eval_layer look (Expr-F.Negate a) = negated a
eval_layer look (Expr-F.Chain a links) = fold (λ left link. combined link.operator left link.operand) a links
eval_layer look (Expr-F.Compare sign a b) = compared sign a b
eval_layer look (Expr-F.Call function arguments) = called function (flat_map (argument_values look) arguments)
eval_layer look (Expr-F.If condition a b) = chosen condition a b

-- the value of an expression, where cells have these values
abbrev pub eval_of : (Position → Value) → Expr → Value
eval_of look = fold-Expr Value (eval_layer look)

-- the cells that an argument names
abbrev pub argument_cells : Argument (List Position) → List Position
argument_cells (Range p q) = cells_between p q
argument_cells (One positions) = positions

-- the cells that one level names, in branches not taken too
abbrev pub names_layer : Expr-F (List Position) → List Position
names_layer (Expr-F.Number z) = []
names_layer (Expr-F.Words text) = []
names_layer (Expr-F.Cell position) = position ∷ []
names_layer (Expr-F.Negate a) = a
names_layer (Expr-F.Chain a links) = a ++ flat_map (λ link. link.operand) links
names_layer (Expr-F.Compare sign a b) = a ++ b
names_layer (Expr-F.Call function arguments) = flat_map argument_cells arguments
names_layer (Expr-F.If condition a b) = condition ++ (a ++ b)

-- the cells that an expression names, in the order of its text
abbrev pub names_of : Expr → List Position
names_of = fold-Expr (List Position) names_layer

-- the cells that an expression reads: those that it names, each once, by rows and then columns
abbrev pub reads_of : Expr → List Position
reads_of expression = fold (insert_key position_cmp) [] (names_of expression)
