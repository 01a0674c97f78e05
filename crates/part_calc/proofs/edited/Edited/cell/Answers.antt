use Rattle.std.proofs.Common.{sym, ◌∙◌}
use Rattle.part_calc.proofs.PositionLaws.{position_from_parts, parts_differ}
use Rattle.part_calc.proofs.TextLaws.{cell_here, cell_there}
use Rattle.part_calc.proofs.edited.Edited.cell.Goals as goal

pub returns-then-eq : goal.returns-then-eq
returns-then-eq c =
    let fields = c.self.inside in
    cell_here fields.cells.now.entries c.args.self.now fields.at c.args.position fields.cell.now c.self.invariant c.self.view_is (position_from_parts c.args.position fields.at (sym c.if-eq.true ∙ c.eq.ensures))

pub returns-else-eq : goal.returns-else-eq
returns-else-eq c =
    let fields = c.self.inside in
    cell_there fields.cells.now.entries c.args.self.now fields.at c.args.position fields.cell.now c.self.invariant c.self.view_is (parts_differ c.args.position fields.at (sym c.if-eq.false ∙ c.eq.ensures)) c.get.result c.get.ensures.value
