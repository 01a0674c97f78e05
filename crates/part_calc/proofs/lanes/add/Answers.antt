use Rattle.std.proofs.Common.{◌<◌, length, get_or, arith}
use Rattle.std.proofs.lemmas.List.{get_or_default}
use Rattle.formula_base.specs.Blocks.{Block}
use Rattle.part_calc.proofs.KnowLaws.{grown_both, added_more}
use Rattle.part_calc.proofs.lanes.add.Goals as goal

pub loop-block-preserved : goal.loop-block-preserved
loop-block-preserved c =
    let blocks = c.args.blocks.now in
    let i = c.loop-block.block-index in
    let within : i < length blocks = omega arith in
    let block : Block = get_or blocks i ((0, 0), (0, 0)) in
    record {
      grown = grown_both c.args.index.now.entries c.loop-block.index.entries c.add_block.new.index.entries c.loop-block.invariant.grown c.add_block.ensures.grown;
      added = added_more blocks c.args.present.now c.loop-block.index.entries c.add_block.new.index.entries c.args.reader i block within (get_or_default blocks i ((0, 0), (0, 0)) block within) c.loop-block.invariant.added c.add_block.ensures.grown c.in_ok-add_block.ensures.added;
    }
