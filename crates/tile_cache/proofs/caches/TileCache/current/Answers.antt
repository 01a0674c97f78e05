use Rattle.std.proofs.Common.{◌≡◌, sym, ◌∙◌, ap, List, Some}
use Rattle.std.specs.Map.{lookup}
use Rattle.lru.specs.LruCache.{LruCache, promoted}
use Rattle.tile_key.specs.Places.{Place, same_place}
use Rattle.tile_cache.specs.declared.tiles.Tile.{Tile}
use Rattle.tile_cache.specs.Cached.{Cached}
use Rattle.tile_cache.proofs.EqFacts.{eq_key}
use Rattle.tile_cache.proofs.TileFacts.{used_is, current_some, some_none}
use Rattle.tile_cache.proofs.caches.TileCache.current.Goals as goal

pub returns-in_err-clone-clause-none : goal.returns-in_err-clone-clause-none
returns-in_err-clone-clause-none c = λ none.
    let found : lookup (same_place c.args.key.now) c.self.inside.tiles.entries ≡ Some c.in-Some.tile.now = ap (λ f. lookup f c.self.inside.tiles.entries) (sym (eq_key c.args.key.now)) ∙ sym c.in-Some.ensures in
    absurd (some_none _ c.in-Some.tile.now (current_some c.args.key.now c.self.inside.tiles.entries c.self.inside.outs.items c.self.inside.next c.in-Some.tile.now c.args.self.now c.self.view_is found c.if-tile.false) none)

pub returns-clause-ok : goal.returns-clause-ok
returns-clause-ok c =
    let cached : List (Place × Tile) → Cached = λ es. record { tiles = es; outs = c.self.inside.outs.items; next = c.self.inside.next } in
    let found : lookup (same_place c.args.key.now) c.self.inside.tiles.entries ≡ Some c.in-Some.tile.now = ap (λ f. lookup f c.self.inside.tiles.entries) (sym (eq_key c.args.key.now)) ∙ sym c.in-Some.ensures in
    ap (λ (t : LruCache Place Tile). cached t.entries) c.promote.ensures.entries
    ∙ (ap (λ f. cached (promoted f c.self.inside.tiles.entries)) (eq_key c.args.key.now)
    ∙ used_is c.args.key.now c.self.inside.tiles.entries c.self.inside.outs.items c.self.inside.next c.in-Some.tile.now c.args.self.now c.self.view_is found c.if-tile.false)
