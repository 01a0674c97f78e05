use Rattle.tile_readings.specs.Mirrors.{Mirrors}
use Rattle.tile_readings.proofs.acts.begin_all.Given as goal

abbrev pub invariant-loop-group : goal.invariant-loop-group
invariant-loop-group l = Mirrors l.cache.outs l.tickets.items
