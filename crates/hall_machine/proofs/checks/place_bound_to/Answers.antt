use Rattle.std.proofs.Common.{sym, ◌∙◌}
use Rattle.hall_machine.specs.Machine.{is_bound_to}
use Rattle.hall_machine.specs.States.{sight}
use Rattle.hall_machine.proofs.Places.{position_seen}
use Rattle.hall_machine.proofs.checks.place_bound_to.Goals as goal

pub returns-clause-place : goal.returns-clause-place
returns-clause-place g c = c.find_bound.ensures.place
    ∙ sym (position_seen (sight g.M.Labelled.tag)
    (λ x. is_bound_to c.args.who x.holder) c.args.opens.now)
