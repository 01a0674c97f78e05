use Rattle.std.proofs.Common.{rules}
use Rattle.poll_documents.specs.Outside.{with_net, with_store}
use Rattle.poll_documents.proofs.Settling.{settles_stop}
use Rattle.poll_documents.proofs.Working.{passes_on}
use Rattle.poll_documents.proofs.owned.OwnedDocument.do_now.Goals as goal

-- the work was not answered
pub returns-in_err-answer-clause-settled : goal.returns-in_err-answer-clause-settled
returns-in_err-answer-clause-settled g c = λ served id s.
    settles_stop _ _ id c.args.moment c.args.self.now _ _ c.from_residual.result _ _ (search rules)
    (c.in_err-answer.ensures served id c.args.moment c.args.self.now
    (with_net s (g.N.Net.told c.args.net.now)))

-- its answer is taken
pub returns-clause-settled : goal.returns-clause-settled
returns-clause-settled g c = λ served id s.
    passes_on _ _ id c.args.moment c.args.self.now _ _ c.args.self.now _ _ c.take_answer.result
    c.take_answer.new.self _
    (c.in_ok-answer.ensures served id c.args.moment c.args.self.now
    (with_net s (g.N.Net.told c.args.net.now)))
    (c.take_answer.ensures.settled served id
    (with_store s (g.H.Store.calls c.answer_to.new.store)))
