use Rattle.std.proofs.Common.{◌≡◌, ◌++◌, ◌∷◌, [], refl, sym, ap, ◌∙◌}
use Rattle.kit_trait.specs.declared.jobs.Done.{Done}
use Rattle.paint_yard.specs.Working.{IsDone, IsLeft}
use Rattle.paint_yard.proofs.Doing.{said_err, said_ok}
use Rattle.paint_yard.proofs.Running.{reached_none, reached_more, ends_left}
use Rattle.paint_yard.proofs.working.worker_run.Goals as goal

-- src/working.rt:113:5
pub loop-init : goal.loop-init
loop-init g c = reached_none (λ (d : Done g.row.S.Denot g.S.Scene g.S.PartialEq). d.ticket) (λ d. d.scene) _

-- src/working.rt:120:13
pub returns-then-is_err : goal.returns-then-is_err
returns-then-is_err g c =
    let did = c.done.ensures in
    ends_left (λ (d : Done g.row.S.Denot g.S.Scene g.S.PartialEq). d.ticket) (λ d. d.scene)
    (record { took = c.args.end.now; posts = g.Q.Post.told c.args.post.now; calls = g.H.Store.calls c.args.store.now; passes = g.G.Gate.passes c.args.gate.now })
    (record { took = c.loop.end; posts = g.Q.Post.told c.loop.post; calls = g.H.Store.calls c.loop.store; passes = g.G.Gate.passes c.loop.gate })
    c.loop.count c.saturating_add-count.result c.in-Work.doc c.in-Work.work did.0 did.1
    c.take.new.self (g.Q.Post.told c.done.new.post) (g.H.Store.calls c.done.new.store) (g.G.Gate.passes c.pass.new.self)
    c.loop.invariant (c.take.ensures ∙ ap (λ i. c.loop.end ++ i ∷ []) c.in-Work.is) did.2 did.3 c.pass.ensures
    c.saturating_add-count.ensures
    (said_err c.done.result _ (IsLeft (λ d. d.ticket) (λ d. d.scene) c.in-Work.doc c.in-Work.work did.0 did.1) (sym c.is_err.ensures.value ∙ c.if-is_err.true) did.4)

-- src/working.rt:113:5
pub loop-preserved : goal.loop-preserved
loop-preserved g c =
    let did = c.done.ensures in
    reached_more (λ (d : Done g.row.S.Denot g.S.Scene g.S.PartialEq). d.ticket) (λ d. d.scene)
    (record { took = c.args.end.now; posts = g.Q.Post.told c.args.post.now; calls = g.H.Store.calls c.args.store.now; passes = g.G.Gate.passes c.args.gate.now })
    (record { took = c.loop.end; posts = g.Q.Post.told c.loop.post; calls = g.H.Store.calls c.loop.store; passes = g.G.Gate.passes c.loop.gate })
    c.loop.count c.saturating_add-count.result c.in-Work.doc c.in-Work.work did.0 did.1
    c.take.new.self (g.Q.Post.told c.done.new.post) (g.H.Store.calls c.done.new.store) (g.G.Gate.passes c.pass.new.self)
    c.loop.invariant (c.take.ensures ∙ ap (λ i. c.loop.end ++ i ∷ []) c.in-Work.is) did.2 did.3 c.pass.ensures
    c.saturating_add-count.ensures
    (said_ok c.done.result (IsDone (λ d. d.ticket) (λ d. d.scene) c.in-Work.doc c.in-Work.work did.0 did.1) _ (sym c.is_err.ensures.value ∙ c.if-is_err.false) did.4)
