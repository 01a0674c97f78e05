use Rattle.std.proofs.Common.{◌+◌, ◌<◌, ◌≤◌, ◌^◌, arith}
use Rattle.part_calc.proofs.LengthLaws.{more_digits, few_digits}
use Rattle.part_calc.proofs.lengths.+digits.Goals as goal

pub returns-else-number-lt10-clause-few : goal.returns-else-number-lt10-clause-few
returns-else-number-lt10-clause-few t c =
    let large : 10 ≤ c.args.number = omega arith in
    let fits : c.args.number < 2 ^ 64 = omega arith in
    few_digits c.args.number (c.digits.result + 1) fits (more_digits c.args.number c.digits.result large fits c.digits.ensures.length)
