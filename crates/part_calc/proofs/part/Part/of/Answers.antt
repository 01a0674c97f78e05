use Rattle.std.proofs.Common.{arith}
use Rattle.part_calc.proofs.LengthLaws.{text_fits}
use Rattle.part_calc.proofs.part.Part.of.Goals as goal

pub lines_len-kept-requires : goal.lines_len-kept-requires
lines_len-kept-requires c = text_fits 0 c.args.cells.entries (omega arith) c.requires.cells
