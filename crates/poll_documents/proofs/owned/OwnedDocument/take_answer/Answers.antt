use Rattle.std.proofs.Common.{refl, rules}
use Rattle.poll_documents.specs.Outside.{with_net}
use Rattle.poll_documents.proofs.Settling.{settles_cut}
use Rattle.poll_documents.proofs.Working.{settles_taken}
use Rattle.poll_documents.proofs.owned.OwnedDocument.take_answer.Goals as goal

-- the document was out of memory
pub returns-in_err-outs-clause-settled : goal.returns-in_err-outs-clause-settled
returns-in_err-outs-clause-settled g c = λ served id s.
    settles_cut _ _ id c.args.moment c.args.self.now _ s (g.N.Net.told c.args.net.now)
    (g.N.Net.told c.args.net.now) c.from_residual.result _ (search rules) refl

-- its frames are given
pub returns-clause-settled : goal.returns-clause-settled
returns-clause-settled g c = λ served id s.
    settles_taken _ _ id c.args.moment c.args.self.now _ _ c.in_ok-outs.outs _
    (with_net s (g.N.Net.told c.args.net.now)) c.give_all.result c.give_all.new.self
    (with_net s (g.N.Net.told c.give_all.new.net)) (c.in_ok-outs.ensures.step served)
    (c.in_ok-outs.ensures.rest served) c.in_ok-outs.ensures.frames (search rules)
    (c.give_all.ensures.settled served id c.args.moment s)
