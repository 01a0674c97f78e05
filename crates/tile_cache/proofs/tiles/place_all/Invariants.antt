use Rattle.std.proofs.Common.{◌≡◌}
use Rattle.std.specs.Vec.Iter.{into_iter_items}
use Rattle.tile_cache.specs.Steps.{place_all}
use Rattle.tile_cache.proofs.tiles.place_all.Given as goal

abbrev pub invariant-loop-key : goal.invariant-loop-key
invariant-loop-key l =
    (goal.iterator-loop-key).can_next l.key-iterator ×
    (goal.iterator-loop-key).is_finite l.key-iterator ×
    (place_all (into_iter_items l.key-iterator) l.tiles.entries ≡ place_all l.fn.new.items l.fn.tiles.entries) ×
    (l.tiles.cap ≡ l.fn.tiles.cap)
