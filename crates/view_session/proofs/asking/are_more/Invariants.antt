use Rattle.std.proofs.Common.{◌≡◌, ◌+◌, ◌≤◌, ◌++◌, length, drop}
use Rattle.document_machine.specs.Message.{asked_with_all}
use Rattle.document_machine.specs.declared.limits.TheConstants.{MOST_ASKED}
use Rattle.view_session.proofs.asking.are_more.Given as goal

-- the keys up to here are asked for or new, and these are no more than there may be
abbrev pub invariant-loop-key : goal.invariant-loop-key
invariant-loop-key l = record {
  all : asked_with_all (l.asked ++ l.fresh.items) (drop l.key-index l.keys) ≡ asked_with_all l.asked l.keys;
  few : length l.asked + length l.fresh.items ≤ MOST_ASKED;
}
