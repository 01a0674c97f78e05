use Rattle.std.proofs.Common.{inr, rules, true}
use Rattle.poll_instance.specs.Instance.{given_out, ways}
use Rattle.poll_machine.specs.Words.{Turned as TurnMade}
use Rattle.poll_documents.proofs.Befell.{turns_broke, worked_step, idle_step}
use Rattle.poll_documents.proofs.owned.OwnedDocument.make_turn.Goals as goal

-- what came of it was done in part
pub returns-in_err-ended-in-Worked-clause-turns : goal.returns-in_err-ended-in-Worked-clause-turns
returns-in_err-ended-in-Worked-clause-turns g c = λ served clock.
    turns_broke _ _ c.args.at.doc.0 c.args.at.moment c.args.self.now _
    c.from_residual-in_err-ended-in-Worked.result _ _ (search rules)
    (inr
    (record {
      event = TurnMade true;
      outs = given_out c.in-Worked.outs;
      mid = c.turn.new.self;
      step = worked_step (ways g.K.Kit.rules g.K.Kit.cut served) c.args.at.moment c.args.self.now
          c.turn.new.self _ c.in-Worked.outs
          c.in-Worked.is (c.in_ok-outs.ensures.step served c.args.at.moment);
      done = c.in_err-ended-in-Worked.ensures.settled served clock;
    }))

-- all of it was done
pub returns-in_ok-ended-in-Worked-clause-turns : goal.returns-in_ok-ended-in-Worked-clause-turns
returns-in_ok-ended-in-Worked-clause-turns g c = λ served clock. record {
  outs = given_out c.in-Worked.outs;
  mid = c.turn.new.self;
  step = worked_step (ways g.K.Kit.rules g.K.Kit.cut served) c.args.at.moment c.args.self.now
      c.turn.new.self _ c.in-Worked.outs
      c.in-Worked.is (c.in_ok-outs.ensures.step served c.args.at.moment);
  done = c.in_ok-ended-in-Worked.ensures.settled served clock;
  settled = c.owes_nothing.ensures;
}

-- there was nothing to do
pub returns-in-Idle-clause-turns : goal.returns-in-Idle-clause-turns
returns-in-Idle-clause-turns g c = λ served clock.
    idle_step _ _ c.args.at.doc.0 c.args.at.moment c.args.self.now c.turn.new.self _ _ c.in-Idle.is
    (c.in_ok-outs.ensures.step served c.args.at.moment) c.owes_nothing-in-Idle.ensures
