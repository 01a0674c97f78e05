use Rattle.std.proofs.Common.{ap, ◌∙◌}
use Rattle.document_machine.specs.Keys.{is_among}
use Rattle.view_session.proofs.views.View.is_asked.Goals as goal

pub returns : goal.returns
returns c =
    let s = c.self.inside in
    c.is_asked.ensures s.asked.items (rw c.as_slice.ensures.value c.self.invariant.held.slotted)
    ∙ ap (λ v. is_among v.asked c.args.key.now) c.self.view_is
