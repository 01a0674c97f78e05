use Rattle.kit_trait.specs.declared.jobs.Done.{Done}
use Rattle.paint_yard.proofs.Running.{Reached}
use Rattle.paint_yard.proofs.working.worker_run.Given as goal

-- the works that were taken are done, and that many were let through
abbrev pub invariant-loop : goal.invariant-loop
invariant-loop g l =
    Reached (λ (d : Done g.row.S.Denot g.S.Scene g.S.PartialEq). d.ticket) (λ d. d.scene)
    (record { took = l.initial.end; posts = g.Q.Post.told l.initial.post; calls = g.H.Store.calls l.initial.store; passes = g.G.Gate.passes l.initial.gate })
    l.count
    (record { took = l.end; posts = g.Q.Post.told l.post; calls = g.H.Store.calls l.store; passes = g.G.Gate.passes l.gate })
