use Rattle.std.proofs.Common.{◌≡◌, true, not, ◌||◌}
use Rattle.std.specs.BTreeMap.{is_at}
use Rattle.std.specs.List.{list_any}
use Rattle.formula_base.specs.Blocks.{Block}
use Rattle.formula_base.specs.Ranges.{Position, position_cmp}
use Rattle.part_calc.specs.Lanes.{is_block, has_span}
use Rattle.part_calc.proofs.lanes.forget.Given as goal

abbrev pub invariant-loop-block : goal.invariant-loop-block
invariant-loop-block l =
    (b : Block) (c : Position) → has_span l.fn.index.entries b c ≡ true → (not (is_at (position_cmp c) l.reader) || list_any (is_block b) l.staying) ≡ true → has_span l.index.entries b c ≡ true
