use Rattle.std.proofs.Common.{◌+◌, rules}
use Rattle.poll_documents.specs.Outside.{outside}
use Rattle.poll_documents.proofs.Settling.{settles_stop}
use Rattle.poll_documents.proofs.Working.{settles_parts, settles_sum, stops_done, stops_frames}
use Rattle.poll_documents.proofs.Working.{stops_jobs}
use Rattle.poll_documents.proofs.Working.{stops_errands}
use Rattle.poll_documents.proofs.owned.OwnedDocument.settle.Goals as goal

-- some of the frames
pub returns-in_err-shown-clause-settled : goal.returns-in_err-shown-clause-settled
returns-in_err-shown-clause-settled g c = λ served clock.
    settles_stop _ _ _ _ _ _ _ c.from_residual.result _ _ (search rules)
    (stops_frames _ _ c.args.at.doc.0 c.args.at.moment c.args.self.now c.args.outs c.get.result.now
    _
    _ (search rules)
    (c.in_err-shown.ensures.settled served c.args.at.doc.0 c.args.at.moment
    (outside (g.N.Net.told c.args.net.now) (g.P.Port.view c.args.port.now)
    (g.H.Store.calls c.args.store.now) clock (g.Y.Yard.took c.args.yard.now))))

-- the frames, and some of the jobs
pub returns-in_err-painted-clause-settled : goal.returns-in_err-painted-clause-settled
returns-in_err-painted-clause-settled g c = λ served clock.
    settles_stop _ _ _ _ _ _ _ c.from_residual-in_err-painted.result _ _ (search rules)
    (stops_jobs _ _ c.args.at.doc.0 c.args.at.moment c.args.self.now c.args.outs c.get.result.now
    c.into_inner.result.items _ c.in_ok-shown.shown c.give_all.new.self _ _ (search rules)
    (search rules)
    (c.in_ok-shown.ensures.settled served c.args.at.doc.0 c.args.at.moment
    (outside (g.N.Net.told c.args.net.now) (g.P.Port.view c.args.port.now)
    (g.H.Store.calls c.args.store.now) clock (g.Y.Yard.took c.args.yard.now)))
    (c.in_err-painted.ensures.settled served clock))

-- the frames, the jobs, and some of the errands
pub returns-in_err-stored-clause-settled : goal.returns-in_err-stored-clause-settled
returns-in_err-stored-clause-settled g c = λ served clock.
    settles_stop _ _ _ _ _ _ _ c.from_residual-in_err-stored.result _ _ (search rules)
    (stops_errands _ _ c.args.at.doc.0 c.args.at.moment c.args.self.now c.args.outs c.get.result.now
    c.into_inner.result.items c.into_inner-2.result.items _ c.in_ok-shown.shown c.give_all.new.self
    _
    c.in_ok-painted.painted c.do_jobs.new.self _ _ (search rules) (search rules) (search rules)
    (c.in_ok-shown.ensures.settled served c.args.at.doc.0 c.args.at.moment
    (outside (g.N.Net.told c.args.net.now) (g.P.Port.view c.args.port.now)
    (g.H.Store.calls c.args.store.now) clock (g.Y.Yard.took c.args.yard.now)))
    (c.in_ok-painted.ensures.settled served clock) (c.in_err-stored.ensures.settled served clock))

-- all of it, and the count goes beyond its type
pub returns-in_err-sum-clause-settled : goal.returns-in_err-sum-clause-settled
returns-in_err-sum-clause-settled g c = λ served clock.
    settles_stop _ _ _ _ _ _ _ c.from_residual-in_err-sum.result _ _ (search rules)
    (stops_done _ _ _ _ _ _ _ _ _ _ _
    (settles_parts _ _ c.args.at.doc.0 c.args.at.moment c.args.self.now c.args.outs c.get.result.now
    c.into_inner.result.items c.into_inner-2.result.items _ c.in_ok-shown.shown c.give_all.new.self
    _
    c.in_ok-painted.painted c.do_jobs.new.self _ c.in_ok-stored.stored c.do_errands.new.self _
    (search rules) (search rules) (search rules)
    (c.in_ok-shown.ensures.settled served c.args.at.doc.0 c.args.at.moment
    (outside (g.N.Net.told c.args.net.now) (g.P.Port.view c.args.port.now)
    (g.H.Store.calls c.args.store.now) clock (g.Y.Yard.took c.args.yard.now)))
    (c.in_ok-painted.ensures.settled served clock) (c.in_ok-stored.ensures.settled served clock)))

-- all of it
pub returns-clause-settled : goal.returns-clause-settled
returns-clause-settled g c = λ served clock.
    settles_sum _ _ _ _ _ _ _
    (c.in_ok-shown.shown + c.in_ok-painted.painted + c.in_ok-stored.stored)
    c.sum_of-2.result _ _ (search rules)
    (settles_parts _ _ c.args.at.doc.0 c.args.at.moment c.args.self.now c.args.outs c.get.result.now
    c.into_inner.result.items c.into_inner-2.result.items _ c.in_ok-shown.shown c.give_all.new.self
    _
    c.in_ok-painted.painted c.do_jobs.new.self _ c.in_ok-stored.stored c.do_errands.new.self _
    (search rules) (search rules) (search rules)
    (c.in_ok-shown.ensures.settled served c.args.at.doc.0 c.args.at.moment
    (outside (g.N.Net.told c.args.net.now) (g.P.Port.view c.args.port.now)
    (g.H.Store.calls c.args.store.now) clock (g.Y.Yard.took c.args.yard.now)))
    (c.in_ok-painted.ensures.settled served clock) (c.in_ok-stored.ensures.settled served clock))
