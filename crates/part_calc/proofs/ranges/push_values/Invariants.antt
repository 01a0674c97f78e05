use Rattle.std.proofs.Common.{◌≡◌, ◌++◌}
use Rattle.part_calc.specs.Fates.{found_over}
use Rattle.part_calc.specs.Present.{within, stretched}
use Rattle.part_calc.proofs.RangeLaws.{filled_of}
use Rattle.part_calc.proofs.ranges.push_values.Given as goal

abbrev pub invariant-loop-position : goal.invariant-loop-position
invariant-loop-position l =
    let known = found_over l.fresh.entries l.kept.entries in
    l.values.items ++ filled_of known (within l.stretch.block l.position-iterator) ≡ l.fn.values.items ++ filled_of known (stretched l.stretch l.cells.entries)
