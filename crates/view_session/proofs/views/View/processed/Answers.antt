use Rattle.view_session.proofs.HeldFacts.{held_processed}
use Rattle.view_session.proofs.views.View.processed.Goals as goal

pub invariant_of-self : goal.invariant_of-self
invariant_of-self c =
    let s = c.self.inside in
    record {
      held = held_processed s.zoom s.slots.items s.asked.items s.window c.close.new.self s.next_wid c.args.wid.0 c.self.invariant.held c.close.ensures.closed;
      placed = c.self.invariant.placed;
    }
