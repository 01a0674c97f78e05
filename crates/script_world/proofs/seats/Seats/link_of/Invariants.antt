use Rattle.std.proofs.Common.{◌≡◌}
use Rattle.script_world.specs.Seats.{link_in}
use Rattle.script_world.proofs.seats.Seats.link_of.Given as goal

-- none of the links so far is the view's
abbrev pub invariant-loop-link : goal.invariant-loop-link
invariant-loop-link l = link_in l.link-iterator l.view ≡ link_in l.self.views l.view
