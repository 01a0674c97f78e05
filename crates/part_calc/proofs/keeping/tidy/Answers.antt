use Rattle.std.proofs.Common.{sym, ◌∙◌}
use Rattle.part_calc.proofs.FoundLaws.{tidied_stays}
use Rattle.part_calc.proofs.keeping.tidy.Goals as goal

pub returns : goal.returns
returns c = λ p kind.
    c.remove.ensures.updates.0 p
    ∙ tidied_stays c.args.cells.now.entries c.args.kept.now.entries c.args.at (sym c.has_formula.ensures ∙ c.if-has_formula.false) p kind
