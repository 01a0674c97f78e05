use Rattle.std.proofs.Common.{List, map, ap, sym, subst, ◌∙◌, ℕ, Bool}
use Rattle.std.specs.List.{IsDistinct}
use Rattle.std.specs.Map.{keys_of}
use Rattle.lru.specs.LruCache.{LruCache, lru_cache}
use Rattle.tile_key.specs.Places.{Place, same_place}
use Rattle.tile_cache.specs.declared.tiles.Tile.{Tile}
use Rattle.tile_cache.specs.Calls.{hit_tile}
use Rattle.tile_cache.proofs.EqFacts.{eq_keys}
use Rattle.tile_cache.proofs.MarkFacts.{marks_next, none_hit}
use Rattle.tile_cache.proofs.tiles.damage.Goals as goal

pub marks-smaller : goal.marks-smaller
marks-smaller c =
    let distinct : IsDistinct same_place (keys_of c.marks.tiles.entries) = subst (λ (eq : Place → Place → Bool). IsDistinct eq (keys_of c.marks.tiles.entries)) eq_keys c.len-count.ensures.valid.0 in
    (marks_next c.args.part c.args.rect.now c.args.n c.marks.tiles.entries c.mark.new.tiles.entries c.in-Some.key distinct c.in-Some.ensures (ap (λ (t : LruCache Place Tile). t.entries) c.mark.ensures)).fewer

pub marks-preserved : goal.marks-preserved
marks-preserved c =
    let distinct : IsDistinct same_place (keys_of c.marks.tiles.entries) = subst (λ (eq : Place → Place → Bool). IsDistinct eq (keys_of c.marks.tiles.entries)) eq_keys c.len-count.ensures.valid.0 in
    record {
      tiles = (marks_next c.args.part c.args.rect.now c.args.n c.marks.tiles.entries c.mark.new.tiles.entries c.in-Some.key distinct c.in-Some.ensures (ap (λ (t : LruCache Place Tile). t.entries) c.mark.ensures)).same ∙ c.marks.invariant.tiles;
      cap = ap (λ (t : LruCache Place Tile). t.cap) c.mark.ensures ∙ c.marks.invariant.cap;
    }

pub returns-in-None : goal.returns-in-None
returns-in-None c =
    ap (λ (es : List (Place × Tile)). lru_cache es c.marks.tiles.cap) (sym (none_hit c.args.part c.args.rect.now c.args.n c.marks.tiles.entries c.in-None.ensures) ∙ c.marks.invariant.tiles)
    ∙ ap (λ (n : ℕ). lru_cache (map (hit_tile c.args.part c.args.rect.now c.args.n) c.args.tiles.now.entries) n) c.marks.invariant.cap
