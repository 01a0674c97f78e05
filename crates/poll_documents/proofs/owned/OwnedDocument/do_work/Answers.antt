use Rattle.poll_documents.specs.Outside.{outside}
use Rattle.poll_documents.proofs.Working.{passes_on}
use Rattle.poll_documents.proofs.owned.OwnedDocument.do_work.Goals as goal

-- the yard didn't take it
pub returns-in-Some-clause-settled : goal.returns-in-Some-clause-settled
returns-in-Some-clause-settled g c = λ served clock.
    passes_on _ _ c.args.at.doc.0 c.args.at.moment c.args.self.now _ _ c.args.self.now _ _
    c.do_now.result c.do_now.new.self _
    (c.in-Some.ensures served c.args.at.moment c.args.self.now (g.N.Net.told c.args.net.now)
    (g.H.Store.calls c.args.store.now) clock)
    (c.do_now.ensures.settled served c.args.at.doc.0
    (outside (g.N.Net.told c.args.net.now) (g.P.Port.view c.offered.new.port)
    (g.H.Store.calls c.args.store.now) clock (g.Y.Yard.took c.offered.new.yard)))
