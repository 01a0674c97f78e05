-- What a raw text says: a value, or a formula.
use Rattle.std.specs.Prelude.{ℕ, Bool, true, false, List, [], Option, Some, None}
use Rattle.sheet_cells.specs.declared.plains.Plain.{Plain}
use Rattle.sheet_cells.specs.declared.plains.Plain.TheVariants as plain
use Rattle.sheet_cells.specs.Plains.{plain_of}
use Rattle.formula_base.specs.declared.values.Value.{Value}
use Rattle.formula_base.specs.declared.values.Value.TheVariants as value
use Rattle.formula_base.specs.declared.expressions.Expr.{Expr}
use Rattle.formula_base.specs.Ranges.{Position}
use Rattle.formula_base.specs.Evaluation.{eval_of, reads_of}
use Rattle.formula_base.specs.Blocks.{Block, blocks_of}
use Rattle.sheet_formula.specs.Grammar.{formula_of}
use Rattle.part_calc.specs.declared.contents.Content.{Content}
use Rattle.part_calc.specs.declared.contents.Content.TheVariants.{Plain as Fixed, Formula}

-- the value of a raw text without a formula: Empty, the number that it writes, or the text itself
abbrev pub plain_value : List ℕ → Plain → Value
plain_value raw plain.Empty = value.Empty
plain_value raw (plain.Number z) = value.Number z
plain_value raw plain.Text = value.Words raw

abbrev pub content_with : List ℕ → Option Expr → Content
content_with raw (Some e) = Formula e
content_with raw None = Fixed (plain_value raw (plain_of raw))

-- what a raw text says: the formula behind its `=`, or else the value that it is
unfoldable pub content_of : List ℕ → Content
content_of raw = content_with raw (formula_of raw)

-- whether it is a formula
abbrev pub is_formula : Content → Bool
is_formula (Fixed v) = false
is_formula (Formula e) = true

-- the cells that it reads
abbrev pub reads_in : Content → List Position
reads_in (Fixed v) = []
reads_in (Formula e) = reads_of e

-- the blocks of cells that it names
abbrev pub blocks_in : Content → List Block
blocks_in (Fixed v) = []
blocks_in (Formula e) = blocks_of e

-- its value, where the cells of the part have these values
abbrev pub value_with : Content → (Position → Value) → Value
value_with (Fixed v) look = v
value_with (Formula e) look = eval_of look e
