use Rattle.std.proofs.Common.{sym, ◌∙◌}
use Rattle.part_calc.proofs.KnowLaws.{formula_there, no_formula_there}
use Rattle.part_calc.proofs.keeping.has_formula.Goals as goal

pub returns-in-Some : goal.returns-in-Some
returns-in-Some c = c.is_formula.ensures ∙ formula_there c.args.cells.now.entries c.args.at c.in-Some.cell.now (sym c.in-Some.ensures.value)

pub returns-in-None : goal.returns-in-None
returns-in-None c = no_formula_there c.args.cells.now.entries c.args.at (sym c.in-None.ensures.value)
