use Rattle.std.proofs.Common.{◌≡◌, drop}
use Rattle.poll_machine.specs.Agenda.{link_of}
use Rattle.poll_links.proofs.views.link_in.Given as goal

-- none of the pairs so far has it
abbrev pub invariant-loop-pair : goal.invariant-loop-pair
invariant-loop-pair l = link_of l.pairs l.view.0 ≡ link_of (drop l.pair-index l.pairs) l.view.0
