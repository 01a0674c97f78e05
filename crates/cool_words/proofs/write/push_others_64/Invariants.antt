use Rattle.std.proofs.Common.{◌≡◌, ◌++◌, take}
use Rattle.std.specs.List.{flat_map}
use Rattle.cool_words.specs.Lists.{comma_and}
use Rattle.cool_words.proofs.write.push_others_64.Given as goal

abbrev pub invariant-loop-number : goal.invariant-loop-number
invariant-loop-number l = l.bytes.items ≡ l.fn.bytes.items ++ flat_map comma_and (take l.number-index l.numbers)
