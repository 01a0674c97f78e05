use Rattle.std.proofs.Common.{List, ap, ◌∙◌}
use Rattle.lru.specs.LruCache.{LruCache, lru_cache}
use Rattle.tile_key.specs.Places.{Place}
use Rattle.tile_cache.specs.declared.tiles.Tile.{Tile}
use Rattle.tile_cache.specs.Steps.{reserved, place_all}
use Rattle.tile_cache.proofs.KeepFacts.{kept_all}
use Rattle.tile_cache.proofs.tiles.keep_open.Goals as goal

pub returns-clause-ok : goal.returns-clause-ok
returns-clause-ok c =
    let tiles = c.args.tiles.now in
    let new = c.args.new.items in
    c.place_all.ensures
    ∙ (ap (λ (t : LruCache Place Tile). lru_cache (place_all new t.entries) t.cap) c.in_ok-reserve.ensures.ok
    ∙ (ap (λ (es : List (Place × Tile)). lru_cache (place_all new (reserved es tiles.entries)) tiles.cap) c.as_slice.ensures.value
    ∙ ap (λ (es : List (Place × Tile)). lru_cache es tiles.cap) (kept_all new tiles.entries)))
