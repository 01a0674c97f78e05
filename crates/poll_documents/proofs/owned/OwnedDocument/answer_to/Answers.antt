use Rattle.std.proofs.Common.{[], ◌∷◌, rules}
use Rattle.poll_machine.specs.Agenda.{Do}
use Rattle.poll_documents.specs.Outside.{with_store, work_in}
use Rattle.poll_documents.proofs.Settling.{stops_none}
use Rattle.poll_documents.proofs.Working.{painted_ways, passes_put, stops_done, unanswered}
use Rattle.poll_documents.proofs.owned.OwnedDocument.answer_to.Goals as goal

-- it wasn't painted
pub returns-in_err-paint-in-Paint : goal.returns-in_err-paint-in-Paint
returns-in_err-paint-in-Paint g c = λ served id moment owned s.
    unanswered c.from_residual.result _ _ (search rules)
    (stops_none _ _ id moment owned (Do (work_in c.args.work) ∷ [])
    (with_store s (g.H.Store.calls c.args.store.now)))

-- it was painted
pub returns-in_ok-paint-in-Paint : goal.returns-in_ok-paint-in-Paint
returns-in_ok-paint-in-Paint g c = λ served id moment owned s.
    rw c.in-Paint.is
    (painted_ways g.K.Kit.rules g.K.Kit.cut served g.N.Net.carried id moment owned c.in-Paint.job
    c.in_ok-paint-in-Paint.field-0.ticket c.in_ok-paint-in-Paint.field-0.scene
    (with_store s (g.H.Store.calls c.args.store.now)) c.in_ok-paint-in-Paint.ensures.0
    c.in_ok-paint-in-Paint.ensures.1)

-- the store had no memory
pub returns-then-lacked_memory : goal.returns-then-lacked_memory
returns-then-lacked_memory g c = λ served id moment owned s.
    rw c.in-Put.is
    (stops_done _ _ id moment owned _ _ 0 owned _ _
    (passes_put _ _ id moment owned c.in-Put.errand c.put-result.result s
    (g.H.Store.calls c.args.store.now) (g.H.Store.calls c.put-result.new.self)
    c.put-result.ensures.told))

-- the store answered
pub returns-else-lacked_memory : goal.returns-else-lacked_memory
returns-else-lacked_memory g c = λ served id moment owned s.
    rw c.in-Put.is
    (passes_put _ _ id moment owned c.in-Put.errand c.put-result.result s
    (g.H.Store.calls c.args.store.now) (g.H.Store.calls c.put-result.new.self)
    c.put-result.ensures.told)
