use Rattle.std.proofs.Common.{ap, sym, ◌∙◌}
use Rattle.view_session.specs.Slots.{keys_in}
use Rattle.view_session.proofs.HeldFacts.{whole_keys}
use Rattle.view_session.proofs.views.View.keys.Goals as goal

pub returns : goal.returns
returns c =
    let s = c.self.inside in
    c.in_ok-keys.ensures ∙ ap keys_in c.as_slice.ensures.value ∙ sym (whole_keys s.rights s.part s.zoom s.area s.slots.items s.asked.items s.window s.next_wid c.args.self.now c.self.view_is c.self.invariant.held.slotted)
