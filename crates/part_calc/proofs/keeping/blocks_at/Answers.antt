use Rattle.std.proofs.Common.{sym, ◌∙◌}
use Rattle.part_calc.proofs.KnowLaws.{blocks_there, no_blocks}
use Rattle.part_calc.proofs.keeping.blocks_at.Goals as goal

pub returns-in-Some : goal.returns-in-Some
returns-in-Some c = c.named_blocks.ensures ∙ blocks_there c.args.cells.now.entries c.args.at c.in-Some.cell.now (sym c.in-Some.ensures.value)

pub returns-in-None : goal.returns-in-None
returns-in-None c = no_blocks c.args.cells.now.entries c.args.at (sym c.in-None.ensures.value)
