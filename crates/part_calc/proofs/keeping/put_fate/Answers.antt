use Rattle.std.proofs.Common.{Bool, Some, cond, ap, ◌∙◌, rules}
use Rattle.part_calc.specs.Fates.{fate_in}
use Rattle.part_calc.proofs.PositionLaws.{at_flip}
use Rattle.part_calc.proofs.keeping.put_fate.Goals as goal

pub returns-in-Some : goal.returns-in-Some
returns-in-Some c = λ p there.
    let written = (c.get_mut.follows.holds c.args.fate).3 (search rules) in
    written.0 p ∙ ap (λ (b : Bool). cond b (Some c.args.fate) (fate_in c.args.kept.now.entries p)) (at_flip c.args.position p)
