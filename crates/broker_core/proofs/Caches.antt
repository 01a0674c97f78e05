-- What the machine says of the kept tiles and of the jobs out, and what the cache says of them.
use Rattle.std.proofs.Common.{◌≡◌, ◌≢◌, ℕ, Bool, true, false, not, ◌&&◌, ◌||◌, cond, List, [], ◌∷◌, ◌++◌, length, map, filter, take, Option, Some, None, refl, ap, sym, subst, ◌∙◌, arith}
use Rattle.std.specs.Prelude.{option_map, is_some}
use Rattle.std.specs.List.{list_any, flat_map, AllByRecursion}
use Rattle.std.specs.Map.{lookup, remove_entry}
use Rattle.kit_trait.specs.Rules.{Rules}
use Rattle.kit_trait.specs.declared.values.Input.{Input}
use Rattle.tile_cache.specs.Cached.{Cached, unmet, current_tile}
use Rattle.tile_cache.specs.Calls.{is_out as cache_is_out, keep}
use Rattle.tile_cache.specs.declared.outs.Out.{Out}
use Rattle.tile_cache.specs.declared.tiles.Tile.{Tile}
use Rattle.tile_key.specs.Places.{Place, same_place}
use Rattle.document_machine.specs.Due.{is_current, is_out, touched}
use Rattle.document_machine.specs.Held.{Held, KeptTile, current_version, kept_version, where_current, with_kept}
use Rattle.document_machine.specs.Keys.{Pairwise, is_among}
use Rattle.document_machine.specs.State.{Document, Job}
use Rattle.view_session.proofs.OrderFacts.{same_is, same_swap}
use Rattle.broker_core.specs.Caching.{kept_tile, kept_tiles, IsTileOf, out_of, outs_of}

-- the version in which a key is kept is the number of its tile in the cache
pub version_kept : (tiles : List (Place × Tile)) (key : Place) → kept_version (kept_tiles tiles) key ≡ option_map (λ (tile : Tile). tile.number) (lookup (same_place key) tiles)
version_kept [] key = refl
version_kept (entry ∷ tiles) key =
    ap (λ b. cond b (Some entry.1.number) (kept_version (kept_tiles tiles) key)) (same_swap entry.0 key)
    ∙ elim (same_place key entry.0) as (λ b. cond b (Some entry.1.number) (kept_version (kept_tiles tiles) key) ≡ option_map (λ (tile : Tile). tile.number) (cond b (Some entry.1) (lookup (same_place key) tiles))) [
      | true ↦ refl
      | false ↦ version_kept tiles key
    ]

module _ {C B : Type 0} (rules : Rules C B) (base : List ℕ) (journal : List Input) (applied : ℕ) where
  -- a tile that is found in the cache has its mark
  pub found_mark : (tiles : List (Place × Tile)) (key : Place) (tile : Tile) → AllByRecursion (IsTileOf rules base journal applied) tiles → lookup (same_place key) tiles ≡ Some tile → IsTileOf rules base journal applied (key, tile)
  found_mark [] key tile all e = absurd (cc)
  found_mark (entry ∷ tiles) key tile all e =
      let go : (b : Bool) → same_place key entry.0 ≡ b → cond b (Some entry.1) (lookup (same_place key) tiles) ≡ Some tile → IsTileOf rules base journal applied (key, tile) = elim [
        | true ↦ λ same found.
            let here : entry.1 ≡ tile = cc in
            let name : key ≡ entry.0 = same_is key entry.0 same in
            subst (λ (t : Tile). IsTileOf rules base journal applied (key, t)) here (subst (λ (k : Place). IsTileOf rules base journal applied (k, entry.1)) (sym name) all.0)
        | false ↦ λ apart found. found_mark tiles key tile all.1 found
      ] in
      go (same_place key entry.0) refl e

-- the version of a key's present tile is the number of its current tile in the cache
pub current_same : {C B S : Type 0} (rules : Rules C B) (held : Held S) (cache : Cached) (key : Place) → held.kept ≡ kept_tiles cache.tiles → AllByRecursion (IsTileOf rules held.document.base held.document.journal held.document.applied) cache.tiles → current_version rules held key ≡ option_map (λ (tile : Tile). tile.number) (current_tile cache key)
current_same rules held cache key kept all =
    let d = held.document in
    let go : (o : Option Tile) → lookup (same_place key) cache.tiles ≡ o → where_current rules d key (option_map (λ (tile : Tile). tile.number) o) ≡ option_map (λ (tile : Tile). tile.number) (unmet o) = elim [
      | None ↦ λ e. refl
      | Some tile ↦ λ e.
          let marks : tile.is_met ≡ touched rules d.base d.journal tile.number key d.applied = (found_mark rules d.base d.journal d.applied cache.tiles key tile all e).marks in
          ap (λ b. cond (not b) (Some tile.number) None) (sym marks)
          ∙ elim tile.is_met as (λ b. cond (not b) (Some tile.number) None ≡ option_map (λ (t : Tile). t.number) (cond b None (Some tile))) [
            | true ↦ refl
            | false ↦ refl
          ]
    ] in
    ap (λ (tiles : List KeptTile). where_current rules d key (kept_version tiles key)) kept
    ∙ ap (where_current rules d key) (version_kept cache.tiles key)
    ∙ go (lookup (same_place key) cache.tiles) refl

or_assoc : (a b c : Bool) → ((a || b) || c) ≡ (a || (b || c))
or_assoc true b c = refl
or_assoc false b c = refl

any_append : {X : Type 0} (p : X → Bool) (xs ys : List X) → list_any p (xs ++ ys) ≡ (list_any p xs || list_any p ys)
any_append p [] ys = refl
any_append p (x ∷ xs) ys = ap (λ b. p x || b) (any_append p xs ys) ∙ sym (or_assoc (p x) (list_any p xs) (list_any p ys))

module _ {C B S : Type 0} (rules : Rules C B) (base : List ℕ) (journal : List Input) (applied : ℕ) where
  one_out : (job : Job S) (key : Place) (keys : List Place) → list_any (λ out. same_place out.key key) (map (out_of rules base journal applied job) keys) ≡ is_among keys key
  one_out job key [] = refl
  one_out job key (other ∷ keys) = ap (λ b. same_place other key || b) (one_out job key keys)

  -- a key is out in the cache exactly where a job of it is
  pub out_same : (jobs : List (Job S)) (key : Place) → list_any (λ out. same_place out.key key) (outs_of rules base journal applied jobs) ≡ is_out jobs key
  out_same [] key = refl
  out_same (job ∷ jobs) key =
      any_append (λ (out : Out). same_place out.key key) (map (out_of rules base journal applied job) job.keys) (outs_of rules base journal applied jobs)
      ∙ ap (λ b. b || list_any (λ (out : Out). same_place out.key key) (outs_of rules base journal applied jobs)) (one_out job key job.keys)
      ∙ ap (λ b. is_among job.keys key || b) (out_same jobs key)

-- where no tile of the key is there none is taken out
none_there : (key : Place) (tiles : List (Place × Tile)) → AllByRecursion (λ (tile : KeptTile). key ≢ tile.key) (kept_tiles tiles) → filter (λ (tile : KeptTile). not (same_place tile.key key)) (kept_tiles tiles) ≡ kept_tiles tiles
none_there key [] all = refl
none_there key (entry ∷ tiles) all =
    let go : (b : Bool) → same_place entry.0 key ≡ b → cond (not b) (kept_tile entry ∷ filter (λ (tile : KeptTile). not (same_place tile.key key)) (kept_tiles tiles)) (filter (λ (tile : KeptTile). not (same_place tile.key key)) (kept_tiles tiles)) ≡ kept_tile entry ∷ kept_tiles tiles = elim [
      | true ↦ λ same. absurd (all.0 (sym (same_is entry.0 key same)))
      | false ↦ λ apart. ap (λ ts. kept_tile entry ∷ ts) (none_there key tiles all.1)
    ] in
    go (same_place entry.0 key) refl

-- taking out a key's one tile
pub without_same : (key : Place) (tiles : List (Place × Tile)) → Pairwise (λ (a b : KeptTile). a.key ≢ b.key) (kept_tiles tiles) → kept_tiles (remove_entry (same_place key) tiles) ≡ filter (λ (tile : KeptTile). not (same_place tile.key key)) (kept_tiles tiles)
without_same key [] once = refl
without_same key (entry ∷ tiles) once =
    let go : (b : Bool) → same_place key entry.0 ≡ b → kept_tiles (cond b tiles (entry ∷ remove_entry (same_place key) tiles)) ≡ cond (not b) (kept_tile entry ∷ filter (λ (tile : KeptTile). not (same_place tile.key key)) (kept_tiles tiles)) (filter (λ (tile : KeptTile). not (same_place tile.key key)) (kept_tiles tiles)) = elim [
      | true ↦ λ same.
          let name : key ≡ entry.0 = same_is key entry.0 same in
          sym (none_there key tiles (subst (λ (k : Place). AllByRecursion (λ (tile : KeptTile). k ≢ tile.key) (kept_tiles tiles)) (sym name) once.0))
      | false ↦ λ apart. ap (λ ts. kept_tile entry ∷ ts) (without_same key tiles once.1)
    ] in
    go (same_place key entry.0) refl
    ∙ ap (λ b. cond (not b) (kept_tile entry ∷ filter (λ (tile : KeptTile). not (same_place tile.key key)) (kept_tiles tiles)) (filter (λ (tile : KeptTile). not (same_place tile.key key)) (kept_tiles tiles))) (same_swap key entry.0)

-- a tile kept in the cache is kept in the machine
pub kept_same : (key : Place) (tile : Tile) (tiles : List (Place × Tile)) → Pairwise (λ (a b : KeptTile). a.key ≢ b.key) (kept_tiles tiles) → kept_tiles (keep (key, tile) tiles) ≡ with_kept (kept_tiles tiles) key tile.number
kept_same key tile tiles once = ap (λ ts. record { key = key; version = tile.number } ∷ ts) (without_same key tiles once)
