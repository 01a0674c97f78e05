use Rattle.std.proofs.Common.{inr, rules}
use Rattle.poll_machine.specs.Words.{Said}
use Rattle.poll_instance.specs.Instance.{given_out}
use Rattle.poll_documents.proofs.Befell.{befalls_broke}
use Rattle.poll_documents.proofs.owned.OwnedDocument.say.Goals as goal

-- what came of it was done in part
pub returns-in_err-ended-clause-befalls : goal.returns-in_err-ended-clause-befalls
returns-in_err-ended-clause-befalls g c = λ served clock.
    befalls_broke _ _ c.args.at.doc.0 c.args.at.moment c.args.self.now _ _
    c.from_residual-in_err-ended.result _ _
    (search rules)
    (inr
    (record {
      event = Said c.args.view.0 c.args.text.now;
      outs = given_out c.in_ok-outs.outs;
      mid = c.hear.new.self;
      step = c.in_ok-outs.ensures.step served c.args.at.moment;
      done = c.in_err-ended.ensures.settled served clock;
    }))

-- all of it was done
pub returns-clause-befalls : goal.returns-clause-befalls
returns-clause-befalls g c = λ served clock. record {
  outs = given_out c.in_ok-outs.outs;
  mid = c.hear.new.self;
  step = c.in_ok-outs.ensures.step served c.args.at.moment;
  done = c.in_ok-ended.ensures.settled served clock;
  settled = c.owes_nothing.ensures;
}
