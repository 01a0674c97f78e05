use Rattle.std.proofs.Common.{List, ap, ◌∙◌, arith, take_all}
use Rattle.lru.specs.LruCache.{lru_cache}
use Rattle.tile_key.specs.Places.{Place}
use Rattle.tile_cache.specs.declared.tiles.Tile.{Tile}
use Rattle.tile_cache.proofs.tiles.open.Goals as goal

pub returns : goal.returns
returns c =
    c.resize.ensures
    ∙ ap (λ (es : List (Place × Tile)). lru_cache es 18446744073709551615) (take_all 18446744073709551615 c.args.tiles.now.entries (omega (arith, c.len-count.ensures.len, c.len-count.ensures.fits)))
