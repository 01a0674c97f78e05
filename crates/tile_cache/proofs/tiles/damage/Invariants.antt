use Rattle.std.proofs.Common.{◌≡◌, map}
use Rattle.std.specs.List.{count_by}
use Rattle.tile_cache.specs.Calls.{hit_tile}
use Rattle.tile_cache.specs.Steps.{is_newly_met}
use Rattle.tile_cache.proofs.tiles.damage.Given as goal

abbrev pub invariant-marks : goal.invariant-marks
invariant-marks l = record {
  tiles : map (hit_tile l.part l.rect l.n) l.tiles.entries ≡ map (hit_tile l.part l.rect l.n) l.initial.tiles.entries;
  cap : l.tiles.cap ≡ l.initial.tiles.cap;
}

abbrev pub decreases-marks : goal.decreases-marks
decreases-marks l = count_by (is_newly_met l.part l.rect l.n) l.tiles.entries
