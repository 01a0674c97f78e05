use Rattle.std.proofs.Common.{◌≡◌, ◌++◌, take}
use Rattle.std.specs.List.{flat_map}
use Rattle.formula_base.proofs.BlockLaws.{link_blocks, blocks_in}
use Rattle.formula_base.proofs.naming.+add_blocks.Given as goal

abbrev pub invariant-loop-link : goal.invariant-loop-link
invariant-loop-link l = l.blocks.items ≡ l.initial.blocks.items ++ flat_map link_blocks (take l.link-index l.link-items)

abbrev pub invariant-loop-argument : goal.invariant-loop-argument
invariant-loop-argument l = l.blocks.items ≡ l.fn.blocks.items ++ flat_map blocks_in (take l.argument-index l.argument-items)
