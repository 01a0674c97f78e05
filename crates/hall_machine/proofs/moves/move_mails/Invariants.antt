use Rattle.std.proofs.Common.{◌≡◌, take, drop}
use Rattle.hall_machine.proofs.moves.move_mails.Given as goal

abbrev pub invariant-loop-i : goal.invariant-loop-i
invariant-loop-i g l = (l.bag ≡ take l._i l.fn.mails) × (l.mails ≡ drop l._i l.fn.mails)
