use Rattle.std.proofs.Common.{◌<◌, ◌++◌, length, ap, ◌∙◌, arith}
use Rattle.part_calc.specs.Parts.{Part}
use Rattle.part_calc.specs.Text.{part_lines}
use Rattle.sheet_calc.proofs.BookLaws.{written_turn, written_end, the_part}
use Rattle.sheet_calc.proofs.book.write_lines.Goals as goal

pub loop-number-preserved : goal.loop-number-preserved
loop-number-preserved c =
    let within : c.loop-number.number < length c.args.parts.now = omega arith in
    written_turn c.args.parts.now c.loop-number.number c.loop-number.out.items c.write_lines.new.out.items _ within c.loop-number.invariant
    (c.in_ok-write_lines.ensures ∙ ap (λ (part : Part). c.loop-number.out.items ++ part_lines c.loop-number.number part) (the_part c.args.parts.now c.loop-number.number c.index-parts-number.result within c.index-parts-number.is))

pub returns : goal.returns
returns c = written_end c.args.parts.now c.loop-number.number c.loop-number.out.items _ (omega arith) c.loop-number.invariant
