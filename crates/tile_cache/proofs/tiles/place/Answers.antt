use Rattle.std.proofs.Common.{ap, ◌∙◌, sym}
use Rattle.std.specs.Map.{lookup, set_value}
use Rattle.lru.specs.LruCache.{lru_cache, promoted}
use Rattle.tile_cache.proofs.EqFacts.{eq_key}
use Rattle.tile_cache.proofs.TileFacts.{placed_tile}
use Rattle.tile_cache.proofs.tiles.place.Goals as goal

pub returns-in-Some : goal.returns-in-Some
returns-in-Some c =
    let tiles = c.args.tiles.now.entries in
    ap (λ f. lru_cache (set_value f (promoted f tiles) c.args.tile) c.args.tiles.now.cap) (eq_key c.args.key.now)
    ∙ ap (λ es. lru_cache es c.args.tiles.now.cap) (placed_tile c.args.key.now tiles _ c.args.tile (ap (λ f. lookup f tiles) (sym (eq_key c.args.key.now)) ∙ sym c.in-Some.ensures.value))
