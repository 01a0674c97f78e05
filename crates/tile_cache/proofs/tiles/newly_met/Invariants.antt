use Rattle.std.proofs.Common.{◌≡◌, find}
use Rattle.tile_cache.specs.Steps.{is_newly_met}
use Rattle.tile_cache.proofs.tiles.newly_met.Given as goal

abbrev pub invariant-loop-key : goal.invariant-loop-key
invariant-loop-key l =
    (goal.iterator-loop-key).can_next l.key-iterator ×
    (goal.iterator-loop-key).is_finite l.key-iterator ×
    (find (is_newly_met l.part l.rect l.n) l.tiles.entries ≡ find (is_newly_met l.part l.rect l.n) l.key-iterator)
