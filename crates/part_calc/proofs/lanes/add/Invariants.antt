use Rattle.std.proofs.Common.{◌≡◌, true, ◌||◌, take}
use Rattle.std.specs.List.{list_any}
use Rattle.formula_base.specs.Blocks.{Block}
use Rattle.part_calc.specs.Lanes.{is_block, has_span, IsGrown}
use Rattle.part_calc.proofs.lanes.add.Given as goal

abbrev pub invariant-loop-block : goal.invariant-loop-block
invariant-loop-block l = record {
  grown : IsGrown l.fn.index.entries l.index.entries;
  added : (b : Block) → list_any (is_block b) (take l.block-index l.blocks) ≡ true → (list_any (is_block b) l.present || has_span l.index.entries b l.reader) ≡ true;
}
