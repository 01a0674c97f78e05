use Rattle.std.proofs.Common.{sym, ◌∙◌}
use Rattle.sheet_calc.specs.Books.{part_at}
use Rattle.sheet_rules.proofs.ChangedCells.{undamaged}
use Rattle.sheet_inputs.proofs.steps.write.Goals as goal

pub returns-then-not-fits-clause-damage : goal.returns-then-not-fits-clause-damage
returns-then-not-fits-clause-damage c =
    c.new.ensures.items ∙ sym (undamaged (part_at c.args.book.now c.args.cursor.at.part) c.args.cursor.at.part)
