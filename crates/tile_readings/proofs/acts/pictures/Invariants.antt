use Rattle.std.proofs.Common.{◌≡◌, length}
use Rattle.std.specs.List.{AllByRecursion}
use Rattle.tile_readings.specs.Mirrors.{IsDot}
use Rattle.tile_readings.proofs.acts.pictures.Given as goal

abbrev pub invariant-loop-ticket : goal.invariant-loop-ticket
invariant-loop-ticket l = record {
  count : length l.pictures.items ≡ l.ticket-index;
  each : AllByRecursion IsDot l.pictures.items;
}
