use Rattle.std.proofs.Common.{sym, ◌∙◌}
use Rattle.part_calc.proofs.ReaderLaws.{reader_found, reader_passed, readers_end}
use Rattle.part_calc.proofs.readers.readers.Goals as goal

pub loop-position-preserved-in-Continue-1 : goal.loop-position-preserved-in-Continue-1
loop-position-preserved-in-Continue-1 c =
    reader_found c.args.at (c.in-Some.position.now, c.in-Some.cell.now) c.loop-position.position-iterator c.next.new.self c.args.cells.now.entries c.loop-position.readers.items c.push.new.self.items
    c.loop-position.invariant c.in-Some.ensures.steps (sym c.if-names.true ∙ c.names.ensures) c.in_ok-push.ensures.items

pub loop-position-preserved : goal.loop-position-preserved
loop-position-preserved c =
    reader_passed c.args.at (c.in-Some.position.now, c.in-Some.cell.now) c.loop-position.position-iterator c.next.new.self c.args.cells.now.entries c.loop-position.readers.items
    c.loop-position.invariant c.in-Some.ensures.steps (sym c.if-names.false ∙ c.names.ensures)

pub returns : goal.returns
returns c = readers_end c.args.at c.loop-position.position-iterator c.args.cells.now.entries c.loop-position.readers.items c.loop-position.invariant c.in-None.ensures.steps.0
