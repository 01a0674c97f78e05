use Rattle.std.proofs.Common.{rules, arith, Ok, Err}
use Rattle.web_upgrade.proofs.Answering.{answered}
use Rattle.web_upgrade.proofs.judging.answer.Goals as goal

pub returns-in-Err-check_request-clause-answered : goal.returns-in-Err-check_request-clause-answered
returns-in-Err-check_request-clause-answered c =
    rw c.refusal_of.ensures
    (answered c.args.front.now c.parse_request.new.headers c.in-Ok-Complete.spans c.args.len _
    (Err c.in-Err-check_request.error) c.requires (omega arith)
    (rw c.in-Ok-Complete.field-0-is at c.in-Ok-Complete.ensures.found) c.in-Err-check_request.ensures)
