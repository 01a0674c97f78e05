use Rattle.std.proofs.Common.{◌≡◌, List, ap, sym, ◌∙◌, true, false, Bool, is_some}
use Rattle.std.proofs.lemmas.Result.{on_ok_weaker}
use Rattle.std.specs.Map.{lookup}
use Rattle.lru.specs.LruCache.{LruCache, lru_cache}
use Rattle.tile_key.specs.Places.{Place, same_place}
use Rattle.tile_cache.specs.declared.tiles.Tile.{Tile}
use Rattle.tile_cache.specs.Steps.{reserved}
use Rattle.tile_cache.proofs.EqFacts.{eq_key}
use Rattle.tile_cache.proofs.KeepFacts.{reserved_there, reserved_none}
use Rattle.tile_cache.proofs.tiles.+reserve.Goals as goal

pub returns-then-contains-clause-ok : goal.returns-then-contains-clause-ok
returns-then-contains-clause-ok t c =
    let tiles = c.args.tiles.now in
    let first = c.in-Some.first.now in
    let there : is_some (lookup (same_place first.0) tiles.entries) ≡ true = ap (λ (f : Place → Bool). is_some (lookup f tiles.entries)) (sym (eq_key first.0)) ∙ (sym c.contains.ensures ∙ c.if-contains.true) in
    on_ok_weaker c.reserve.result (λ done. done ∙ ap (λ (es : List (Place × Tile)). lru_cache es tiles.cap) (reserved_there c.args.new.now c.in-Some.others.now first tiles.entries c.in-Some.ensures.cases.0 there)) c.reserve.ensures.ok

pub returns-else-is_err-clause-ok : goal.returns-else-is_err-clause-ok
returns-else-is_err-clause-ok t c =
    let tiles = c.args.tiles.now in
    let first = c.in-Some.first.now in
    let none : is_some (lookup (same_place first.0) tiles.entries) ≡ false = ap (λ (f : Place → Bool). is_some (lookup f tiles.entries)) (sym (eq_key first.0)) ∙ (sym c.contains.ensures ∙ c.if-contains.false) in
    on_ok_weaker c.reserve-reserved.result (λ done.
    done
    ∙ (ap (λ (t : LruCache Place Tile). lru_cache (reserved c.in-Some.others.now t.entries) t.cap) c.in_ok-add.ensures.ok
    ∙ ap (λ (es : List (Place × Tile)). lru_cache es tiles.cap) (reserved_none c.args.new.now c.in-Some.others.now first tiles.entries c.in-Some.ensures.cases.0 none)))
    c.reserve-reserved.ensures.ok
