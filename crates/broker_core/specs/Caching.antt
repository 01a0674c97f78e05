-- The cache of a broker, and what of it the machine sees.
use Rattle.std.specs.Prelude.{◌≡◌, ℕ, List, map}
use Rattle.std.specs.List.{flat_map, AllByRecursion}
use Rattle.kit_trait.specs.Rules.{Rules, doc, shown}
use Rattle.kit_trait.specs.declared.values.Input.{Input}
use Rattle.tile_key.specs.Places.{Place}
use Rattle.tile_cache.specs.Cached.{Cached}
use Rattle.tile_cache.specs.declared.outs.Out.{Out}
use Rattle.tile_cache.specs.declared.tiles.Tile.{Tile}
use Rattle.document_machine.specs.Due.{touched}
use Rattle.document_machine.specs.Held.{KeptTile}
use Rattle.document_machine.specs.State.{Job}

-- a tile in the cache as the machine keeps it: without its pixels and its mark
abbrev pub kept_tile : Place × Tile → KeptTile
kept_tile entry = record { key = entry.0; version = entry.1.number }

abbrev pub kept_tiles : List (Place × Tile) → List KeptTile
kept_tiles tiles = map kept_tile tiles

-- a tile in the cache has the pixels of its version's picture, and is met exactly where an applied input
-- above its version damaged its key
pub record IsTileOf {C B : Type 0} (rules : Rules C B) (base : List ℕ) (journal : List Input) (applied : ℕ) (entry : Place × Tile) : Type 0 where
  pub shows : entry.1.rgba ≡ (shown rules (doc rules base journal entry.1.number) entry.0).rgba
  pub marks : entry.1.is_met ≡ touched rules base journal entry.1.number entry.0 applied

-- a key of a job that is out, met exactly where an applied input above the job's number damaged it
abbrev pub out_of : {C B S : Type 0} → Rules C B → (base : List ℕ) → List Input → (applied : ℕ) → Job S → Place → Out
out_of rules base journal applied job key = record {
  ticket = job.ticket;
  number = job.number;
  key = key;
  is_met = touched rules base journal job.number key applied;
}

-- the keys of all jobs that are out, a job's side by side
abbrev pub outs_of : {C B S : Type 0} → Rules C B → (base : List ℕ) → List Input → (applied : ℕ) → List (Job S) → List Out
outs_of rules base journal applied jobs = flat_map (λ job. map (out_of rules base journal applied job) job.keys) jobs

-- a cache is that of a document with these inputs, so many of them applied, and these jobs out
pub record IsCacheOf {C B S : Type 0} (rules : Rules C B) (base : List ℕ) (journal : List Input) (applied : ℕ) (jobs : List (Job S)) (cache : Cached) : Type 0 where
  pub tiles : AllByRecursion (IsTileOf rules base journal applied) cache.tiles
  pub outs : cache.outs ≡ outs_of rules base journal applied jobs
