use Rattle.std.proofs.Common.{arith, rules}
use Rattle.server_words.proofs.Cut.{cut_is}
use Rattle.server_words.proofs.serves.read_address.Goals as goal

pub returns-in_default : goal.returns-in_default
returns-in_default c =
    let split = cut_is 58 c.args.text.now _ c.rsplit_once.ensures.cases (omega arith) in
    rw (← split) (grind rules)

pub returns-then-not-is_host_name : goal.returns-then-not-is_host_name
returns-then-not-is_host_name c =
    let split = cut_is 58 c.args.text.now _ c.rsplit_once.ensures.cases (omega arith) in
    rw (← split) (grind rules)

pub returns-in-Some-read_number : goal.returns-in-Some-read_number
returns-in-Some-read_number c =
    let split = cut_is 58 c.args.text.now _ c.rsplit_once.ensures.cases (omega arith) in
    rw (← split) (grind rules)

pub returns-in-None : goal.returns-in-None
returns-in-None c =
    let split = cut_is 58 c.args.text.now _ c.rsplit_once.ensures.cases (omega arith) in
    rw (← split) (grind rules)
