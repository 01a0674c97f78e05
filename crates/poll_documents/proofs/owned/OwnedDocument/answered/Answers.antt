use Rattle.std.proofs.Common.{Ok, rules}
use Rattle.poll_documents.specs.Outside.{with_net}
use Rattle.poll_documents.proofs.Befell.{answer_befalls, answer_broke, befalls_broke}
use Rattle.poll_documents.proofs.owned.OwnedDocument.answered.Goals as goal

-- its frames were given in part
pub returns-in_err-ended-clause-befalls : goal.returns-in_err-ended-clause-befalls
returns-in_err-ended-clause-befalls g c = λ served id s.
    befalls_broke _ _ id c.args.moment c.args.self.now _ (with_net s (g.N.Net.told c.args.net.now))
    c.from_residual-in_err-ended.result _ _ (search rules)
    (answer_broke _ _ id c.args.moment c.args.self.now _ _ c.in_ok-outs.outs _
    (with_net s (g.N.Net.told c.args.net.now)) _ c.owes_nothing.ensures
    (c.in_ok-outs.ensures.step served) (c.in_ok-outs.ensures.rest served)
    c.in_ok-outs.ensures.frames (search rules)
    (c.in_err-ended.ensures.settled served id c.args.moment s))

-- all of them were given
pub returns-clause-befalls : goal.returns-clause-befalls
returns-clause-befalls g c = λ served id s.
    answer_befalls _ _ id c.args.moment c.args.self.now _ _ c.in_ok-outs.outs _
    (with_net s (g.N.Net.told c.args.net.now)) (Ok c.in_ok-ended.ended) _ _ c.owes_nothing.ensures
    (c.in_ok-outs.ensures.step served) (c.in_ok-outs.ensures.rest served)
    c.in_ok-outs.ensures.frames (search rules) c.owes_nothing-2.ensures
    (c.in_ok-ended.ensures.settled served id c.args.moment s)
