-- The cache of a document after one input more, accepted or applied.
use Rattle.std.proofs.Common.{◌≡◌, ℕ, ◌+◌, ◌<◌, ◌≤◌, Bool, true, false, ◌||◌, ◌&&◌, List, [], ◌∷◌, ◌++◌, length, map, refl, sym, ap, subst, ◌∙◌, arith}
use Rattle.std.specs.Prelude.{nat_lt}
use Rattle.std.specs.List.{flat_map, AllByRecursion}
use Rattle.std.proofs.lemmas.Bool.Decides.{nat_tests}
use Rattle.std.proofs.lemmas.List.{map-append}
use Rattle.kit_trait.specs.Rules.{Rules, doc, shown}
use Rattle.kit_trait.specs.declared.values.Damage.{Damage}
use Rattle.kit_trait.specs.declared.values.Input.{Input}
use Rattle.tile_cache.specs.Cached.{Cached}
use Rattle.tile_cache.specs.Calls.{damaged, hit_out, hit_tile}
use Rattle.tile_cache.specs.declared.outs.Out.{Out}
use Rattle.tile_cache.specs.declared.tiles.Tile.{Tile}
use Rattle.tile_key.specs.Places.{Place}
use Rattle.document_machine.specs.Due.{damage_of, damages as hits, is_hurt, touched}
use Rattle.document_machine.specs.Held.{Held, KeptTile}
use Rattle.document_machine.specs.Kept.{IsHeld, IsJobKept, IsTileKept}
use Rattle.document_machine.specs.State.{Document, Job}
use Rattle.broker_core.specs.Caching.{IsCacheOf, IsTileOf, kept_tile, kept_tiles, out_of, outs_of}
use Rattle.broker_core.specs.Serving.{cache_damaged}
use Rattle.broker_core.proofs.Lists.{all_unmap, all_weaker}
use Rattle.broker_core.proofs.Marks.{mark_more}

-- the versions of the tiles in the cache are applied
pub tiles_past : {C B S : Type 0} (rules : Rules C B) (cut : C → Place → S) (held : Held S) (cache : Cached) → IsHeld rules cut held → held.kept ≡ kept_tiles cache.tiles → AllByRecursion (λ (entry : Place × Tile). entry.1.number ≤ held.document.applied) cache.tiles
tiles_past rules cut held cache kept are =
    all_weaker (λ (entry : Place × Tile). IsTileKept rules held.document (kept_tile entry)) (λ entry. entry.1.number ≤ held.document.applied) cache.tiles
    (λ entry t. t.version)
    (all_unmap (IsTileKept rules held.document) kept_tile cache.tiles (subst (λ (ts : List KeptTile). AllByRecursion (IsTileKept rules held.document) ts) are kept.kept_each))

-- the numbers of the jobs out are applied
pub jobs_past : {C B S : Type 0} (rules : Rules C B) (cut : C → Place → S) (held : Held S) → IsHeld rules cut held → AllByRecursion (λ (job : Job S). job.number ≤ held.document.applied) held.document.jobs
jobs_past rules cut held kept =
    all_weaker (IsJobKept rules cut held.document) (λ job. job.number ≤ held.document.applied) held.document.jobs (λ job j. j.number) kept.document.jobs

-- two facts of each element give a third
all_joined : {X : Type 0} (P Q R : X → Type 0) (xs : List X) → ((x : X) → P x → Q x → R x) → AllByRecursion P xs → AllByRecursion Q xs → AllByRecursion R xs
all_joined P Q R [] f ps qs = tt
all_joined P Q R (x ∷ xs) f ps qs = (f x ps.0 qs.0, all_joined P Q R xs f ps.1 qs.1)

map_same : {X Y : Type 0} (f g : X → Y) → ((x : X) → f x ≡ g x) → (xs : List X) → map f xs ≡ map g xs
map_same f g same [] = refl
map_same f g same (x ∷ xs) = ap (λ y. y ∷ map f xs) (same x) ∙ ap (λ ys. g x ∷ ys) (map_same f g same xs)

map_map : {X Y Z : Type 0} (g : Y → Z) (f : X → Y) (xs : List X) → map g (map f xs) ≡ map (λ x. g (f x)) xs
map_map g f [] = refl
map_map g f (x ∷ xs) = ap (λ ys. g (f x) ∷ ys) (map_map g f xs)

-- a key of a job that is out
abbrev out_at : (ticket number : ℕ) → Place → Bool → Out
out_at ticket number key met = record { ticket = ticket; number = number; key = key; is_met = met }

-- a tile with this mark
abbrev tile_met : Place × Tile → Bool → Place × Tile
tile_met entry met = (entry.0, record (entry.1) { is_met = met })

-- the keys out in a longer journal
outs_longer : {C B S : Type 0} (rules : Rules C B) (base : List ℕ) (journal longer : List Input) (applied : ℕ) (jobs : List (Job S)) → ((version : ℕ) (key : Place) → touched rules base longer version key applied ≡ touched rules base journal version key applied) → outs_of rules base journal applied jobs ≡ outs_of rules base longer applied jobs
outs_longer rules base journal longer applied [] same = refl
outs_longer rules base journal longer applied (job ∷ jobs) same =
    ap (λ os. os ++ outs_of rules base journal applied jobs)
    (map_same (out_of rules base journal applied job) (out_of rules base longer applied job)
    (λ key. ap (out_at job.ticket job.number key) (sym (same job.number key))) job.keys)
    ∙ ap (λ os. map (out_of rules base longer applied job) job.keys ++ os) (outs_longer rules base journal longer applied jobs same)

-- the cache is that of the document with more inputs accepted
pub cache_longer : {C B S : Type 0} (rules : Rules C B) (base : List ℕ) (journal longer : List Input) (applied : ℕ) (jobs : List (Job S)) (cache : Cached) → applied ≤ length journal
    → ((version : ℕ) (key : Place) (n : ℕ) → n ≤ length journal → touched rules base longer version key n ≡ touched rules base journal version key n)
    → ((n : ℕ) → n ≤ length journal → doc rules base journal n ≡ doc rules base longer n)
    → AllByRecursion (λ (entry : Place × Tile). entry.1.number ≤ applied) cache.tiles
    → IsCacheOf rules base journal applied jobs cache → IsCacheOf rules base longer applied jobs cache
cache_longer rules base journal longer applied jobs cache level same_touch same_doc past c = record {
  tiles = all_joined (λ (entry : Place × Tile). entry.1.number ≤ applied) (IsTileOf rules base journal applied) (IsTileOf rules base longer applied) cache.tiles
      (λ entry le t. record {
        shows = t.shows ∙ ap (λ x. (shown rules x entry.0).rgba) (same_doc entry.1.number (omega (arith, le, level)));
        marks = t.marks ∙ sym (same_touch entry.1.number entry.0 applied level);
      }) past c.tiles;
  outs = c.outs ∙ outs_longer rules base journal longer applied jobs (λ version key. same_touch version key applied level);
}

-- a tile once all these damages of input number n are noted
abbrev pub tile_noted : List Damage → ℕ → Place × Tile → Place × Tile
tile_noted damages n entry = (entry.0, record (entry.1) { is_met = entry.1.is_met || (nat_lt entry.1.number n && is_hurt damages entry.0) })

-- a key out once they are
abbrev pub out_noted : List Damage → ℕ → Out → Out
out_noted damages n out = record out { is_met = out.is_met || (nat_lt out.number n && is_hurt damages out.key) }

or_none : (a b : Bool) → (a || (b && false)) ≡ a
or_none true b = refl
or_none false true = refl
or_none false false = refl

or_more : (a b c e : Bool) → ((a || (b && c)) || (b && e)) ≡ (a || (b && (c || e)))
or_more true b c e = refl
or_more false true c e = refl
or_more false false c e = refl

map_id : {X : Type 0} (f : X → X) → ((x : X) → f x ≡ x) → (xs : List X) → map f xs ≡ xs
map_id f same [] = refl
map_id f same (x ∷ xs) = ap (λ y. y ∷ map f xs) (same x) ∙ ap (λ ys. x ∷ ys) (map_id f same xs)

-- noting the damages one after the other notes them all
pub tiles_noted : (damages : List Damage) (n : ℕ) (cache : Cached) → (cache_damaged damages n cache).tiles ≡ map (tile_noted damages n) cache.tiles
tiles_noted [] n cache = sym (map_id (tile_noted [] n) (λ entry. ap (tile_met entry) (or_none entry.1.is_met (nat_lt entry.1.number n))) cache.tiles)
tiles_noted (damage ∷ damages) n cache =
    tiles_noted damages n (damaged damage.part damage.rect n cache)
    ∙ map_map (tile_noted damages n) (hit_tile damage.part damage.rect n) cache.tiles
    ∙ map_same (λ entry. tile_noted damages n (hit_tile damage.part damage.rect n entry)) (tile_noted (damage ∷ damages) n)
    (λ entry. ap (tile_met entry) (or_more entry.1.is_met (nat_lt entry.1.number n) (hits entry.0 damage) (is_hurt damages entry.0))) cache.tiles

pub outs_noted : (damages : List Damage) (n : ℕ) (cache : Cached) → (cache_damaged damages n cache).outs ≡ map (out_noted damages n) cache.outs
outs_noted [] n cache = sym (map_id (out_noted [] n) (λ out. ap (λ (b : Bool). record out { is_met = b }) (or_none out.is_met (nat_lt out.number n))) cache.outs)
outs_noted (damage ∷ damages) n cache =
    outs_noted damages n (damaged damage.part damage.rect n cache)
    ∙ map_map (out_noted damages n) (hit_out damage.part damage.rect n) cache.outs
    ∙ map_same (λ out. out_noted damages n (hit_out damage.part damage.rect n out)) (out_noted (damage ∷ damages) n)
    (λ out. ap (λ (b : Bool). record out { is_met = b }) (or_more out.is_met (nat_lt out.number n) (hits out.key damage) (is_hurt damages out.key))) cache.outs

pub next_noted : (damages : List Damage) (n : ℕ) (cache : Cached) → (cache_damaged damages n cache).next ≡ cache.next
next_noted [] n cache = refl
next_noted (damage ∷ damages) n cache = next_noted damages n (damaged damage.part damage.rect n cache)

-- the machine's tiles have no marks
pub kept_noted : (damages : List Damage) (n : ℕ) (cache : Cached) → kept_tiles (cache_damaged damages n cache).tiles ≡ kept_tiles cache.tiles
kept_noted damages n cache =
    ap kept_tiles (tiles_noted damages n cache) ∙ map_map kept_tile (tile_noted damages n) cache.tiles

-- a mark is right after one input more
met_more : {C B : Type 0} (rules : Rules C B) (base : List ℕ) (journal : List Input) (applied : ℕ) (damages : List Damage) (number : ℕ) (key : Place) (met : Bool) → damages ≡ damage_of rules base journal applied → number ≤ applied → met ≡ touched rules base journal number key applied → (met || (nat_lt number (applied + 1) && is_hurt damages key)) ≡ touched rules base journal number key (applied + 1)
met_more rules base journal applied damages number key met is le right =
    let low : nat_lt number (applied + 1) ≡ true = grind (arith, nat_tests) in
    ap (λ (b : Bool). met || (b && is_hurt damages key)) low
    ∙ mark_more rules base journal applied damages (record { key = key; version = number; stale = met }) is le right

outs_more : {C B S : Type 0} (rules : Rules C B) (base : List ℕ) (journal : List Input) (applied : ℕ) (damages : List Damage) (jobs : List (Job S)) → damages ≡ damage_of rules base journal applied → AllByRecursion (λ (job : Job S). job.number ≤ applied) jobs → map (out_noted damages (applied + 1)) (outs_of rules base journal applied jobs) ≡ outs_of rules base journal (applied + 1) jobs
outs_more rules base journal applied damages [] is past = refl
outs_more rules base journal applied damages (job ∷ jobs) is past =
    map-append (out_noted damages (applied + 1)) (map (out_of rules base journal applied job) job.keys) (outs_of rules base journal applied jobs)
    ∙ ap (λ os. os ++ map (out_noted damages (applied + 1)) (outs_of rules base journal applied jobs))
    (map_map (out_noted damages (applied + 1)) (out_of rules base journal applied job) job.keys
    ∙ map_same (λ key. out_noted damages (applied + 1) (out_of rules base journal applied job key)) (out_of rules base journal (applied + 1) job)
    (λ key. ap (out_at job.ticket job.number key)
    (met_more rules base journal applied damages job.number key (touched rules base journal job.number key applied) is past.0 refl)) job.keys)
    ∙ ap (λ os. map (out_of rules base journal (applied + 1) job) job.keys ++ os) (outs_more rules base journal applied damages jobs is past.1)

tiles_more : {C B : Type 0} (rules : Rules C B) (base : List ℕ) (journal : List Input) (applied : ℕ) (damages : List Damage) (tiles : List (Place × Tile)) → damages ≡ damage_of rules base journal applied → AllByRecursion (λ (entry : Place × Tile). entry.1.number ≤ applied) tiles → AllByRecursion (IsTileOf rules base journal applied) tiles → AllByRecursion (IsTileOf rules base journal (applied + 1)) (map (tile_noted damages (applied + 1)) tiles)
tiles_more rules base journal applied damages [] is past all = tt
tiles_more rules base journal applied damages (entry ∷ tiles) is past all = (
  record {
    shows = all.0.shows;
    marks = met_more rules base journal applied damages entry.1.number entry.0 entry.1.is_met is past.0 all.0.marks;
  },
  tiles_more rules base journal applied damages tiles is past.1 all.1,
)

-- the cache is that of the document with one input more applied, once its damages are noted
pub cache_more : {C B S : Type 0} (rules : Rules C B) (base : List ℕ) (journal : List Input) (applied : ℕ) (jobs : List (Job S)) (damages : List Damage) (cache : Cached) → damages ≡ damage_of rules base journal applied
    → AllByRecursion (λ (entry : Place × Tile). entry.1.number ≤ applied) cache.tiles → AllByRecursion (λ (job : Job S). job.number ≤ applied) jobs
    → IsCacheOf rules base journal applied jobs cache → IsCacheOf rules base journal (applied + 1) jobs (cache_damaged damages (applied + 1) cache)
cache_more rules base journal applied jobs damages cache is past numbers c = record {
  tiles = subst (λ (ts : List (Place × Tile)). AllByRecursion (IsTileOf rules base journal (applied + 1)) ts) (sym (tiles_noted damages (applied + 1) cache)) (tiles_more rules base journal applied damages cache.tiles is past c.tiles);
  outs = outs_noted damages (applied + 1) cache ∙ ap (map (out_noted damages (applied + 1))) c.outs ∙ outs_more rules base journal applied damages jobs is numbers;
}
