use Rattle.std.proofs.Common.{refl}
use Rattle.std.proofs.lemmas.Result.{IfOk-weaker}
use Rattle.poll_documents.proofs.Leaving.{alive_on}
use Rattle.poll_documents.proofs.Working.{painted_frames, put_frames}
use Rattle.poll_documents.proofs.owned.OwnedDocument.take.Goals as goal

-- a painted result
pub returns-in-Painted-clause-step : goal.returns-in-Painted-clause-step
returns-in-Painted-clause-step g c =
    rw (← c.self.view_is, c.in-Painted.is)
    (IfOk-weaker c.painted.result _ _ (λ outs step served.
    (outs, step, refl)) c.painted.ensures.step)

pub returns-in-Painted-clause-rest : goal.returns-in-Painted-clause-rest
returns-in-Painted-clause-rest g c =
    rw (← c.self.view_is, c.in-Painted.is)
    (IfOk-weaker c.painted.result _ _ (λ outs step served. refl) c.painted.ensures.step)

pub returns-in-Painted-clause-frames : goal.returns-in-Painted-clause-frames
returns-in-Painted-clause-frames g c =
    IfOk-weaker c.painted.result _ _
    (λ outs step. painted_frames g.K.Kit.rules g.K.Kit.cut _ _ _ outs _ step) c.painted.ensures.step

pub returns-in-Painted-clause-alive : goal.returns-in-Painted-clause-alive
returns-in-Painted-clause-alive g c =
    alive_on g.K.Kit.rules g.K.Kit.cut _ _ _ c.painted.result c.painted.ensures.step

-- what the store answered
pub returns-in-PutDone-clause-step : goal.returns-in-PutDone-clause-step
returns-in-PutDone-clause-step g c =
    rw c.in-PutDone.is
    (IfOk-weaker c.take_put.result _ _ (λ outs step served. (outs, step, refl))
    c.take_put.ensures.step)

pub returns-in-PutDone-clause-rest : goal.returns-in-PutDone-clause-rest
returns-in-PutDone-clause-rest g c =
    rw c.in-PutDone.is
    (IfOk-weaker c.take_put.result _ _ (λ outs is served. is) c.take_put.ensures.rest)

pub returns-in-PutDone-clause-frames : goal.returns-in-PutDone-clause-frames
returns-in-PutDone-clause-frames g c =
    IfOk-weaker c.take_put.result _ _
    (λ outs step. put_frames g.K.Kit.rules g.K.Kit.cut _ _ _ outs _ step) c.take_put.ensures.step

pub returns-in-PutDone-clause-alive : goal.returns-in-PutDone-clause-alive
returns-in-PutDone-clause-alive g c =
    alive_on g.K.Kit.rules g.K.Kit.cut _ _ _ c.take_put.result c.take_put.ensures.step
