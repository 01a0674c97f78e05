use Rattle.std.proofs.Common.{arith}
use Rattle.view_session.proofs.HeldFacts.{whole_kept}
use Rattle.view_session.proofs.views.View.kept.Goals as goal

pub returns : goal.returns
returns c =
    let s = c.self.inside in
    whole_kept s.rights s.part s.zoom s.area s.slots.items s.asked.items s.window s.next_wid c.args.self.now c.self.view_is c.self.invariant.held c.pixel_w-width.ensures.form (omega arith) (omega arith)
