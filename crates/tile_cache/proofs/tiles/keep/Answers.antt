use Rattle.std.proofs.Common.{List, ◌≡◌, ap, sym, ◌∙◌, arith, take, take_all, ℕ}
use Rattle.std.proofs.lemmas.Result.{on_ok_weaker, on_err_weaker}
use Rattle.lru.specs.LruCache.{LruCache, lru_cache}
use Rattle.tile_key.specs.Places.{Place}
use Rattle.tile_cache.specs.declared.tiles.Tile.{Tile}
use Rattle.tile_cache.specs.Calls.{keep_all}
use Rattle.tile_cache.proofs.tiles.keep.Goals as goal

pub returns-clause-ok : goal.returns-clause-ok
returns-clause-ok c =
    on_ok_weaker c.keep_open-kept.result (λ kept.
    let opened : keep_all c.args.new.items c.open.new.tiles.entries ≡ keep_all c.args.new.items c.args.tiles.now.entries = ap (λ (t : LruCache Place Tile). keep_all c.args.new.items t.entries) c.open.ensures in
    let all : c.keep_open-kept.new.tiles.entries ≡ keep_all c.args.new.items c.args.tiles.now.entries = ap (λ (t : LruCache Place Tile). t.entries) kept ∙ opened in
    c.close.ensures ∙ ap (λ (es : List (Place × Tile)). lru_cache (take 256 es) 256) all)
    c.keep_open-kept.ensures.ok

pub returns-clause-err : goal.returns-clause-err
returns-clause-err c =
    on_err_weaker c.keep_open-kept.result (λ same.
    let all : c.keep_open-kept.new.tiles.entries ≡ c.args.tiles.now.entries = ap (λ (t : LruCache Place Tile). t.entries) (same ∙ c.open.ensures) in
    c.close.ensures
    ∙ (ap (λ (es : List (Place × Tile)). lru_cache (take 256 es) 256) all
    ∙ (ap (λ (es : List (Place × Tile)). lru_cache es 256) (take_all 256 c.args.tiles.now.entries (omega (arith, c.requires, c.len-count.ensures.valid.1)))
    ∙ ap (λ (n : ℕ). lru_cache c.args.tiles.now.entries n) (sym c.requires))))
    c.keep_open-kept.ensures.err
