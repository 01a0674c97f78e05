use Rattle.std.proofs.Common.{◌≡◌, drop}
use Rattle.poll_machine.specs.Agenda.{view_of}
use Rattle.poll_links.proofs.views.view_in.Given as goal

-- none of the pairs so far has it
abbrev pub invariant-loop-pair : goal.invariant-loop-pair
invariant-loop-pair l = view_of l.pairs l.link.0 ≡ view_of (drop l.pair-index l.pairs) l.link.0
