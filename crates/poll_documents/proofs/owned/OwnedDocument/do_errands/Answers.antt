use Rattle.std.proofs.Common.{refl, rules}
use Rattle.outside.specs.declared.errands.Errand.{Errand}
use Rattle.poll_machine.specs.Agenda.{Offer}
use Rattle.poll_machine.specs.Words.{Put}
use Rattle.poll_documents.proofs.Settling.{passes_none, settles_stop}
use Rattle.poll_documents.proofs.Working.{passes_first, stops_first, stops_done, passes_empty}
use Rattle.poll_documents.proofs.owned.OwnedDocument.do_errands.Goals as goal

pub works-init : goal.works-init
works-init g c = record {
  settled = λ served clock. passes_none _ _ _ _ _ _ _;
  alive = λ some. some;
  takes = refl;
}

pub works-preserved : goal.works-preserved
works-preserved g c = record {
  settled = λ served clock.
      rw c.in_ok-ended.ensures
      (passes_first _ _ c.args.at.doc.0 c.args.at.moment (λ (errand : Errand). Offer
      (Put errand)) c.args.self.now _ _ c.works.ended
      c.works.self c.works.left.items c.in-Some.errand c.take_first.new.works.items _
      c.in_ok-more.more c.do_work.new.self _ c.in-Some.ensures
      (c.works.invariant.settled served clock) (c.in_ok-more.ensures.settled served clock));
  alive = search rules;
  takes = search rules;
}

-- the work was done in part
pub returns-in_err-more-clause-settled : goal.returns-in_err-more-clause-settled
returns-in_err-more-clause-settled g c = λ served clock.
    settles_stop _ _ _ _ _ _ _ c.from_residual.result _ _ (search rules)
    (stops_first _ _ c.args.at.doc.0 c.args.at.moment (λ (errand : Errand). Offer
    (Put errand)) c.args.self.now _ _ c.works.ended
    c.works.self c.works.left.items c.in-Some.errand c.take_first.new.works.items _ _
    c.in-Some.ensures (c.works.invariant.settled served clock)
    (c.in_err-more.ensures.settled served clock))

-- it was done, and the count goes beyond its type
pub returns-in_err-ended-clause-settled : goal.returns-in_err-ended-clause-settled
returns-in_err-ended-clause-settled g c = λ served clock.
    settles_stop _ _ _ _ _ _ _ c.from_residual-in_err-ended.result _ _ (search rules)
    (stops_done _ _ _ _ _ _ _ _ _ _ _
    (passes_first _ _ c.args.at.doc.0 c.args.at.moment (λ (errand : Errand). Offer
    (Put errand)) c.args.self.now _ _ c.works.ended
    c.works.self c.works.left.items c.in-Some.errand c.take_first.new.works.items _
    c.in_ok-more.more c.do_work.new.self _ c.in-Some.ensures
    (c.works.invariant.settled served clock) (c.in_ok-more.ensures.settled served clock)))

-- all of them were done
pub returns-clause-settled : goal.returns-clause-settled
returns-clause-settled g c = λ served clock.
    passes_empty _ _ c.args.at.doc.0 c.args.at.moment (λ (errand : Errand). Offer
    (Put errand)) c.args.self.now _ _ c.works.ended
    c.works.self c.works.left.items _ (search rules) (c.works.invariant.settled served clock)
