use Rattle.std.proofs.Common.{[], ◌∷◌, refl, rules}
use Rattle.cool_frame.specs.Frames.{frame_bytes}
use Rattle.poll_machine.specs.Agenda.{Give}
use Rattle.poll_documents.specs.Outside.{with_net}
use Rattle.poll_documents.proofs.Settling.{settles_cut, passes_skipped}
use Rattle.poll_documents.proofs.owned.OwnedDocument.give_one.Goals as goal

-- a view without a link
pub returns-in-None-clause-settled : goal.returns-in-None-clause-settled
returns-in-None-clause-settled g c = λ served id moment s.
    passes_skipped _ _ id moment c.args.self.now c.args.view.0 (frame_bytes c.args.frame.now)
    (with_net s (g.N.Net.told c.args.net.now)) c.in-None.ensures

pub returns-in_err-bytes-in-Some-clause-settled : goal.returns-in_err-bytes-in-Some-clause-settled
returns-in_err-bytes-in-Some-clause-settled g c = λ served id moment s.
    settles_cut _ _ id moment c.args.self.now
    (Give c.args.view.0 (frame_bytes c.args.frame.now) ∷ []) s (g.N.Net.told c.args.net.now)
    (g.N.Net.told c.args.net.now) c.from_residual.result c.args.self.now (search rules) refl
