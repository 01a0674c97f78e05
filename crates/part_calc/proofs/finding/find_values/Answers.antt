use Rattle.std.proofs.Common.{◌≡◌, length, arith}
use Rattle.part_calc.specs.Fates.{found_over}
use Rattle.part_calc.proofs.FindLaws.{find_last}
use Rattle.part_calc.proofs.finding.find_values.Goals as goal

pub returns-then-len-count-clause-found : goal.returns-then-len-count-clause-found
returns-then-len-count-clause-found c =
    let number : c.len.result ≡ length c.in_ok-left.left.items = omega (arith, c.len.ensures) in
    find_last c.args.edited.now (found_over c.sweep.new.fresh.entries c.args.kept.now.entries) c.as_slice.result.now c.loop-waiting.waiting.items c.in_ok-left.left.items c.loop-waiting.count c.len.result
    c.in_ok-left.ensures.swept c.as_slice.ensures.value c.loop-waiting.invariant.count number c.if-len-count.true
