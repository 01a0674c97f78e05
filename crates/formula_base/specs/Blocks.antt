-- The cells that an expression names, as blocks: a cell alone, and a range by its corners.
use Rattle.std.specs.Prelude.{min, max, Bool, ◌&&◌, nat_le, List, [], ◌∷◌, ◌++◌}
use Rattle.std.specs.List.{flat_map}
use Rattle.formula_base.specs.declared.expressions.Argument.{Argument}
use Rattle.formula_base.specs.declared.expressions.Argument.TheVariants.{Range, One}
use Rattle.formula_base.specs.declared.expressions.Expr.{Expr}
use Rattle.formula_base.specs.declared.expressions.Expr.TheOpen.{Expr-F}
use Rattle.formula_base.specs.declared.expressions.Expr.TheFolds.{fold-Expr}
use Rattle.formula_base.specs.Ranges.{Position}

-- a block of cells by two corners, in whichever order they come
abbrev pub Block : Type 0
Block = Position × Position

-- whether a cell lies in a block
abbrev pub is_within : Position → Block → Bool
is_within p b =
    (nat_le (min b.0.0 b.1.0) p.0 && nat_le p.0 (max b.0.0 b.1.0)) && (nat_le (min b.0.1 b.1.1) p.1 && nat_le p.1 (max b.0.1 b.1.1))

-- the blocks that an argument names
abbrev pub argument_blocks : Argument (List Block) → List Block
argument_blocks (Range p q) = (p, q) ∷ []
argument_blocks (One blocks) = blocks

-- the blocks that one level names, in branches not taken too
abbrev pub blocks_layer : Expr-F (List Block) → List Block
blocks_layer (Expr-F.Number z) = []
blocks_layer (Expr-F.Words text) = []
blocks_layer (Expr-F.Cell position) = (position, position) ∷ []
blocks_layer (Expr-F.Negate a) = a
blocks_layer (Expr-F.Chain a links) = a ++ flat_map (λ link. link.operand) links
blocks_layer (Expr-F.Compare sign a b) = a ++ b
blocks_layer (Expr-F.Call function arguments) = flat_map argument_blocks arguments
blocks_layer (Expr-F.If condition a b) = condition ++ (a ++ b)

-- the blocks that an expression names, in the order of its text
abbrev pub blocks_of : Expr → List Block
blocks_of = fold-Expr (List Block) blocks_layer
