use Rattle.std.proofs.Common.{sym, ◌∙◌}
use Rattle.std.specs.Prelude.{◌==◌}
use Rattle.hall_machine.specs.States.{sight}
use Rattle.hall_machine.proofs.Places.{position_seen}
use Rattle.hall_machine.proofs.checks.place_of.Goals as goal

pub returns-clause-place : goal.returns-clause-place
returns-clause-place g c = c.find_doc.ensures.place
    ∙ sym (position_seen (sight g.M.Labelled.tag) (λ x. x.doc == c.args.doc) c.args.opens.now)
