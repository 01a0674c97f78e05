use Rattle.std.proofs.Common.{rules}
use Rattle.poll_machine.specs.House.{Live as LiveSlot}
use Rattle.poll_instance.specs.Instance.{given_out}
use Rattle.poll_documents.proofs.Joining.{joined, joined_in_part, joined_none}
use Rattle.poll_documents.proofs.owned.OwnedDocument.join_in.Goals as goal

-- it joined, and what came of it was done in part
pub returns-in_err-ended-in-Ok-clause-joins : goal.returns-in_err-ended-in-Ok-clause-joins
returns-in_err-ended-in-Ok-clause-joins g c = λ served clock house front back same among rises.
    joined_in_part _ _ house front back c.args.at.doc.0 c.args.at.moment c.args.link.0 c.args.rights
    c.args.self.now c.join.new.self (given_out c.in-Ok.outs) _ c.from_residual.result _ _
    (search rules) same among rises (c.in-Ok.ensures.step served c.args.at.moment)
    (c.in_err-ended-in-Ok.ensures.settled served clock)

-- all of it was done
pub returns-in_ok-ended-in-Ok-clause-joins : goal.returns-in_ok-ended-in-Ok-clause-joins
returns-in_ok-ended-in-Ok-clause-joins g c = λ served clock house front back same among rises.
    joined _ _ house front back c.args.at.doc.0 c.args.at.moment c.args.link.0 c.args.rights
    c.args.self.now c.join.new.self c.settle.new.self (given_out c.in-Ok.outs) _
    c.in_ok-ended-in-Ok.ended _ same among rises (c.in-Ok.ensures.step served c.args.at.moment)
    (c.in_ok-ended-in-Ok.ensures.settled served clock) c.owes_nothing-in-Ok.ensures

-- nothing was done
pub returns-in-Err-Memory-clause-joins : goal.returns-in-Err-Memory-clause-joins
returns-in-Err-Memory-clause-joins g c = λ served clock house front back same among rises.
    joined_none _ _ house front back c.args.at.doc.0 c.args.link.0 c.args.rights c.args.self.now _ _
    (LiveSlot c.join.new.self)
