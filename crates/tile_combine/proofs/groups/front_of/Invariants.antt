use Rattle.std.proofs.Common.{◌≤◌, ◌-◌, length}
use Rattle.tile_combine.proofs.FrontFacts.{IsCounted}
use Rattle.tile_combine.proofs.groups.front_of.Given as goal

abbrev pub invariant-loop-count : goal.invariant-loop-count
invariant-loop-count l = record {
  low : 1 ≤ l.count;
  high : l.count ≤ 8;
  within : l.count ≤ length l.keys;
  rest : IsCounted l.keys l.count;
}

abbrev pub decreases-loop-count : goal.decreases-loop-count
decreases-loop-count l = 8 - l.count
