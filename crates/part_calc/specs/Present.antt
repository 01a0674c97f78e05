-- The cells of a block that are there.
use Rattle.std.specs.Prelude.{ℕ, min, max, Bool, List, unwrap_or}
use Rattle.std.specs.BTreeMap.Range.{entries_between}
use Rattle.std.specs.declared.ops.Bound.TheVariants.{Included, Excluded}
use Rattle.std.specs.List.{filter}
use Rattle.std.specs.Option.{is_some}
use Rattle.formula_base.specs.declared.values.Value.{Value}
use Rattle.formula_base.specs.declared.values.Value.TheVariants.{Fault}
use Rattle.formula_base.specs.declared.values.CellFault.TheVariants.{Circ}
use Rattle.formula_base.specs.Blocks.{Block, is_within}
use Rattle.formula_base.specs.Ranges.{Position, position_cmp}
use Rattle.part_calc.specs.declared.ranges.Stretch.{Stretch}
use Rattle.part_calc.specs.Contents.{content_of}
use Rattle.part_calc.specs.Finding.{Known, seen_in}
use Rattle.part_calc.specs.Parts.{Part}

-- the first cell of a block, and the last, by rows and then columns
abbrev pub first_of : Block → Position
first_of b = (min b.0.0 b.1.0, min b.0.1 b.1.1)

abbrev pub last_of : Block → Position
last_of b = (max b.0.0 b.1.0, max b.0.1 b.1.1)

-- all of a block, and what comes before one of its cells and behind it
abbrev pub whole : Block → Stretch
whole b = record { block = b; start = Included (first_of b); end = Included (last_of b) }

abbrev pub before : Block → Position → Stretch
before b at = record { block = b; start = Included (first_of b); end = Excluded at }

abbrev pub behind : Block → Position → Stretch
behind b at = record { block = b; start = Excluded at; end = Included (last_of b) }

-- the cells of a block that are there
abbrev pub within : Block → Part → Part
within b cells = filter (λ e. is_within e.0 b) cells

-- those of a stretch of it
abbrev pub stretched : Stretch → Part → Part
stretched s cells = within s.block (entries_between position_cmp s.start s.end cells)

-- the value of a cell with this text as far as it is seen, and that for a formula that names it
abbrev pub is_entry_seen : Known → Position × List ℕ → Bool
is_entry_seen known e = is_some (seen_in (content_of e.1) (known e.0))

abbrev pub entry_value : Known → Position × List ℕ → Value
entry_value known e = unwrap_or (seen_in (content_of e.1) (known e.0)) (Fault Circ)
