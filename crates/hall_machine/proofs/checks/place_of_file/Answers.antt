use Rattle.std.proofs.Common.{sym, ◌∙◌}
use Rattle.std.specs.Prelude.{nat_eq}
use Rattle.std.specs.Cmp.Lexicographic.{pointwise}
use Rattle.hall_machine.specs.States.{sight}
use Rattle.hall_machine.proofs.Places.{position_seen}
use Rattle.hall_machine.proofs.checks.place_of_file.Goals as goal

pub returns-clause-place : goal.returns-clause-place
returns-clause-place g c = c.find_file.ensures.place
    ∙ sym (position_seen (sight g.M.Labelled.tag)
    (λ x. pointwise nat_eq x.file c.args.file.now) c.args.opens.now)
