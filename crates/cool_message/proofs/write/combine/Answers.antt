use Rattle.cool_message.proofs.Written.{combined}
use Rattle.cool_message.proofs.write.combine.Goals as goal

pub returns : goal.returns
returns c =
    let across = rw c.get.ensures at c.in_ok-push_list.ensures in
    let down = rw c.get-2.ensures at c.in_ok-push_list-2.ensures in
    combined c.args.words.now _ _ _ _ _ c.in_ok-bytes.ensures c.in_ok-push_numbers.ensures across down c.in_ok-push_numbers-2.ensures
