use Rattle.tile_readings.specs.Mirrors.{Mirrors}
use Rattle.tile_readings.proofs.main.Given as goal

abbrev pub invariant-loop-line : goal.invariant-loop-line
invariant-loop-line l = Mirrors l.cache.outs l.tickets.items
