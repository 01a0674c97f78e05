use Rattle.std.proofs.Common.{◌≡◌, List, IfOk, sym, ◌∙◌, subst}
use Rattle.kit_trait.specs.declared.values.Damage.{Damage}
use Rattle.sheet_calc.specs.Books.{part_at}
use Rattle.sheet_rules.proofs.ChangedCells.{undamaged}
use Rattle.sheet_inputs.proofs.steps.carry_out.Goals as goal

pub returns-in-Stays-clause-damage : goal.returns-in-Stays-clause-damage
returns-in-Stays-clause-damage c =
    c.new.ensures.items ∙ sym (undamaged (part_at c.args.book.now c.args.at.part) c.args.at.part)

pub returns-in-Goes-clause-damage : goal.returns-in-Goes-clause-damage
returns-in-Goes-clause-damage c =
    subst (λ (ds : List Damage). IfOk c.go.result (λ damage. damage.items ≡ ds)) (sym (undamaged (part_at c.args.book.now c.args.at.part) c.args.at.part)) c.go.ensures.none
