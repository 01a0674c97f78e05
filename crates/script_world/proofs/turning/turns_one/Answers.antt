use Rattle.std.proofs.Common.{ap, map, ◌∙◌, ◌++◌, subst}
use Rattle.document_laws.specs.AtOnce.{answered, stored}
use Rattle.document_machine.specs.Goes.{Did}
use Rattle.script_world.specs.Answered.{TakesAll}
use Rattle.script_world.specs.Seats.{records}
use Rattle.script_world.proofs.Answers.{worked_by}
use Rattle.script_world.proofs.turning.turns_one.Goals as goal

pub returns-in_ok-extend_from_slice-in-Worked : goal.returns-in_ok-extend_from_slice-in-Worked
returns-in_ok-extend_from_slice-in-Worked g c =
    worked_by g.K.Kit.rules g.K.Kit.cut c.args.seats.now c.args.broker c.turn.new.self c.answers_all.new.broker c.in-Worked.outs c.in_ok-bytes-in-Worked.bytes.items c.in_ok-later-in-Worked.later.items c.extend_from_slice.new.self.items
    (subst (λ turned. Did g.K.Kit.rules g.K.Kit.cut c.args.broker turned c.turn.new.self) c.in-Worked.is c.in_ok-outs.ensures.does)
    (c.in_ok-bytes-in-Worked.ensures ∙ ap (records c.args.seats.now) c.get.ensures)
    (subst (λ jobs. TakesAll g.K.Kit.rules g.K.Kit.cut c.args.seats.now c.turn.new.self (map answered jobs ++ map stored c.in-Worked.outs.errands) c.in_ok-later-in-Worked.later.items c.answers_all.new.broker) c.into_inner-jobs.ensures
    (subst (λ errands. TakesAll g.K.Kit.rules g.K.Kit.cut c.args.seats.now c.turn.new.self (map answered c.into_inner-jobs.result.items ++ map stored errands) c.in_ok-later-in-Worked.later.items c.answers_all.new.broker) c.into_inner-errands.ensures
    c.in_ok-later-in-Worked.ensures))
    (c.in_ok-extend_from_slice-in-Worked.ensures.items ∙ ap (λ b. c.in_ok-bytes-in-Worked.bytes.items ++ b) c.deref.ensures.value)
