use Rattle.std.proofs.Common.{◌≡◌}
use Rattle.std.specs.List.{list_all}
use Rattle.part_calc.specs.Fates.{found_over}
use Rattle.part_calc.specs.Present.{within, stretched, is_entry_seen}
use Rattle.part_calc.proofs.ranges.are_seen.Given as goal

abbrev pub invariant-loop-position : goal.invariant-loop-position
invariant-loop-position l =
    let seen = is_entry_seen (found_over l.fresh.entries l.kept.entries) in
    list_all seen (within l.stretch.block l.position-iterator) ≡ list_all seen (stretched l.stretch l.cells.entries)
