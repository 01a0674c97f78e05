-- Places for new tiles change nothing of what is kept.
use Rattle.std.proofs.Common.{◌≡◌, Bool, true, false, cond, List, [], ◌∷◌, Some, is_some, refl, ap, sym, ◌∙◌, if◌then◌else◌}
use Rattle.std.specs.Bool.{⊤}
use Rattle.std.specs.Map.{lookup, remove_entry}
use Rattle.tile_key.specs.Places.{Place, same_place}
use Rattle.tile_cache.specs.declared.tiles.Tile.{Tile}
use Rattle.tile_cache.specs.Calls.{keep, keep_all}
use Rattle.tile_cache.specs.Steps.{blank, reserved, place_all}
use Rattle.tile_cache.proofs.SameFacts.{same_is}
use Rattle.tile_cache.proofs.TileFacts.{same_self}

-- whether a list of tiles has one of the key
abbrev has : Place → List (Place × Tile) → Bool
has key tiles = is_some (lookup (same_place key) tiles)

-- the tiles without the key's
abbrev without : Place → List (Place × Tile) → List (Place × Tile)
without key tiles = remove_entry (same_place key) tiles

-- the first tile is the key's, or another's
first_goes : (key : Place) (entry : Place × Tile) (tiles : List (Place × Tile)) → same_place key entry.0 ≡ true → without key (entry ∷ tiles) ≡ tiles
first_goes key entry tiles same = ap (λ (b : Bool). cond b tiles (entry ∷ without key tiles)) same

first_stays : (key : Place) (entry : Place × Tile) (tiles : List (Place × Tile)) → same_place key entry.0 ≡ false → without key (entry ∷ tiles) ≡ entry ∷ without key tiles
first_stays key entry tiles apart = ap (λ (b : Bool). cond b tiles (entry ∷ without key tiles)) apart

first_has : (key : Place) (entry : Place × Tile) (tiles : List (Place × Tile)) → same_place key entry.0 ≡ true → has key (entry ∷ tiles) ≡ true
first_has key entry tiles same = ap (λ (b : Bool). is_some (cond b (Some entry.1) (lookup (same_place key) tiles))) same

rest_has : (key : Place) (entry : Place × Tile) (tiles : List (Place × Tile)) → same_place key entry.0 ≡ false → has key (entry ∷ tiles) ≡ has key tiles
rest_has key entry tiles apart = ap (λ (b : Bool). is_some (cond b (Some entry.1) (lookup (same_place key) tiles))) apart

-- two keys' tiles go in either order
swap_at : (j k : Place) (entry : Place × Tile) (tiles : List (Place × Tile)) (a b : Bool) → same_place j entry.0 ≡ a → same_place k entry.0 ≡ b → without j (without k tiles) ≡ without k (without j tiles) → without j (cond b tiles (entry ∷ without k tiles)) ≡ without k (cond a tiles (entry ∷ without j tiles))
swap_at j k entry tiles true true sj sk rest = ap (λ (key : Place). without key tiles) (same_is j entry.0 sj ∙ sym (same_is k entry.0 sk))
swap_at j k entry tiles true false sj sk rest = first_goes j entry (without k tiles) sj
swap_at j k entry tiles false true sj sk rest = sym (first_goes k entry (without j tiles) sk)
swap_at j k entry tiles false false sj sk rest =
    first_stays j entry (without k tiles) sj ∙ (ap (λ (es : List (Place × Tile)). entry ∷ es) rest ∙ sym (first_stays k entry (without j tiles) sk))

swap : (j k : Place) (tiles : List (Place × Tile)) → without j (without k tiles) ≡ without k (without j tiles)
swap j k [] = refl
swap j k (entry ∷ tiles) = swap_at j k entry tiles (same_place j entry.0) (same_place k entry.0) refl refl (swap j k tiles)

-- a key without a tile loses none
absent_at : (key : Place) (entry : Place × Tile) (tiles : List (Place × Tile)) (b : Bool) → same_place key entry.0 ≡ b → is_some (cond b (Some entry.1) (lookup (same_place key) tiles)) ≡ false → (has key tiles ≡ false → without key tiles ≡ tiles) → without key (entry ∷ tiles) ≡ entry ∷ tiles
absent_at key entry tiles true same none rest = cc
absent_at key entry tiles false apart none rest = first_stays key entry tiles apart ∙ ap (λ (es : List (Place × Tile)). entry ∷ es) (rest none)

absent_same : (key : Place) (tiles : List (Place × Tile)) → has key tiles ≡ false → without key tiles ≡ tiles
absent_same key [] none = refl
absent_same key (entry ∷ tiles) none = absent_at key entry tiles (same_place key entry.0) refl none (absent_same key tiles)

-- the tile of a key that a new one replaces makes no difference
older_at : (key : Place) (entry : Place × Tile) (new tiles : List (Place × Tile)) (b : Bool) → same_place key entry.0 ≡ b → is_some (cond b (Some entry.1) (lookup (same_place key) new)) ≡ true → without key (without key tiles) ≡ without key tiles → ((es : List (Place × Tile)) → has key new ≡ true → without key (without key es) ≡ without key es → keep_all new (without key es) ≡ keep_all new es) → keep_all new (keep entry (without key tiles)) ≡ keep_all new (keep entry tiles)
older_at key entry new tiles true same among once rest =
    let is : key ≡ entry.0 = same_is key entry.0 same in
    let twice : without entry.0 (without key tiles) ≡ without entry.0 tiles = ap (λ (j : Place). without j (without key tiles)) (sym is) ∙ (once ∙ ap (λ (j : Place). without j tiles) is) in
    ap (λ (es : List (Place × Tile)). keep_all new (entry ∷ es)) twice
older_at key entry new tiles false apart among once rest =
    let first = λ (es : List (Place × Tile)). entry ∷ es in
    let left : without key (keep entry tiles) ≡ keep entry (without key tiles) = first_stays key entry (without entry.0 tiles) apart ∙ ap first (swap key entry.0 tiles) in
    let again : without key (keep entry (without key tiles)) ≡ keep entry (without key tiles) = first_stays key entry (without entry.0 (without key tiles)) apart ∙ ap first (swap key entry.0 (without key tiles) ∙ ap (without entry.0) once) in
    let twice : without key (without key (keep entry tiles)) ≡ without key (keep entry tiles) = ap (without key) left ∙ (again ∙ sym left) in
    ap (keep_all new) (sym left) ∙ rest (keep entry tiles) among twice

older_same : (key : Place) (new tiles : List (Place × Tile)) → has key new ≡ true → without key (without key tiles) ≡ without key tiles → keep_all new (without key tiles) ≡ keep_all new tiles
older_same key [] tiles among once = cc
older_same key (entry ∷ new) tiles among once = older_at key entry new tiles (same_place key entry.0) refl among once (older_same key new)

-- each of these keys has a tile there
abbrev AllHave : List (Place × Tile) → List (Place × Tile) → Type 0
AllHave [] tiles = ⊤
AllHave (entry ∷ entries) tiles = (has entry.0 tiles ≡ true) × AllHave entries tiles

reserved_same : (new entries tiles : List (Place × Tile)) → AllHave entries new → keep_all new (reserved entries tiles) ≡ keep_all new tiles
reserved_same new [] tiles all = refl
reserved_same new (entry ∷ entries) tiles all =
    let go : (b : Bool) → has entry.0 tiles ≡ b → keep_all new (reserved entries (if b then tiles else (entry.0, blank) ∷ tiles)) ≡ keep_all new tiles = elim [
      | true ↦ λ there. reserved_same new entries tiles all.1
      | false ↦ λ none.
          let first : without entry.0 ((entry.0, blank) ∷ tiles) ≡ tiles = first_goes entry.0 (entry.0, blank) tiles (same_self entry.0) in
          let once : without entry.0 (without entry.0 ((entry.0, blank) ∷ tiles)) ≡ without entry.0 ((entry.0, blank) ∷ tiles) = ap (without entry.0) first ∙ (absent_same entry.0 tiles none ∙ sym first) in
          reserved_same new entries ((entry.0, blank) ∷ tiles) all.1
          ∙ (sym (older_same entry.0 new ((entry.0, blank) ∷ tiles) all.0 once) ∙ ap (keep_all new) first)
    ] in go (has entry.0 tiles) refl

-- a key's tile stays where others come
has_more : (key : Place) (entry : Place × Tile) (tiles : List (Place × Tile)) → has key tiles ≡ true → has key (entry ∷ tiles) ≡ true
has_more key entry tiles there =
    let go : (b : Bool) → is_some (cond b (Some entry.1) (lookup (same_place key) tiles)) ≡ true = elim [ true ↦ refl | false ↦ there ] in
    go (same_place key entry.0)

has_other : (key j : Place) (tiles : List (Place × Tile)) → same_place key j ≡ false → has key tiles ≡ true → has key (without j tiles) ≡ true
has_other key j [] apart there = there
has_other key j (entry ∷ tiles) apart there =
    let go : (a : Bool) → same_place j entry.0 ≡ a → has key (cond a tiles (entry ∷ without j tiles)) ≡ true = elim [
      | true ↦ λ same.
          let other : same_place key entry.0 ≡ false = ap (same_place key) (sym (same_is j entry.0 same)) ∙ apart in
          sym (rest_has key entry tiles other) ∙ there
      | false ↦ λ differs.
          let more : (b : Bool) → is_some (cond b (Some entry.1) (lookup (same_place key) tiles)) ≡ true → is_some (cond b (Some entry.1) (lookup (same_place key) (without j tiles))) ≡ true = elim [ true ↦ λ here. refl | false ↦ λ after. has_other key j tiles apart after ] in
          more (same_place key entry.0) there
    ] in go (same_place j entry.0) refl

has_kept : (key : Place) (entry : Place × Tile) (tiles : List (Place × Tile)) → has key tiles ≡ true → has key (keep entry tiles) ≡ true
has_kept key entry tiles there =
    let go : (b : Bool) → same_place key entry.0 ≡ b → has key (entry ∷ without entry.0 tiles) ≡ true = elim [
      | true ↦ λ same. first_has key entry (without entry.0 tiles) same
      | false ↦ λ apart. rest_has key entry (without entry.0 tiles) apart ∙ has_other key entry.0 tiles apart there
    ] in go (same_place key entry.0) refl

has_reserved : (key : Place) (entries tiles : List (Place × Tile)) → has key tiles ≡ true → has key (reserved entries tiles) ≡ true
has_reserved key [] tiles there = there
has_reserved key (entry ∷ entries) tiles there =
    let go : (b : Bool) → has key (reserved entries (if b then tiles else (entry.0, blank) ∷ tiles)) ≡ true = elim [
      | true ↦ has_reserved key entries tiles there
      | false ↦ has_reserved key entries ((entry.0, blank) ∷ tiles) (has_more key (entry.0, blank) tiles there)
    ] in go (has entry.0 tiles)

all_more : (entries : List (Place × Tile)) (entry : Place × Tile) (tiles : List (Place × Tile)) → AllHave entries tiles → AllHave entries (entry ∷ tiles)
all_more [] entry tiles all = tt
all_more (other ∷ entries) entry tiles all = (has_more other.0 entry tiles all.0, all_more entries entry tiles all.1)

all_self : (entries : List (Place × Tile)) → AllHave entries entries
all_self [] = tt
all_self (entry ∷ entries) = (first_has entry.0 entry entries (same_self entry.0), all_more entries entry entries (all_self entries))

all_kept : (entries : List (Place × Tile)) (entry : Place × Tile) (tiles : List (Place × Tile)) → AllHave entries tiles → AllHave entries (keep entry tiles)
all_kept [] entry tiles all = tt
all_kept (other ∷ entries) entry tiles all = (has_kept other.0 entry tiles all.0, all_kept entries entry tiles all.1)

all_reserved : (entries tiles : List (Place × Tile)) → AllHave entries (reserved entries tiles)
all_reserved [] tiles = tt
all_reserved (entry ∷ entries) tiles =
    let go : (b : Bool) → has entry.0 tiles ≡ b → AllHave (entry ∷ entries) (reserved entries (if b then tiles else (entry.0, blank) ∷ tiles)) = elim [
      | true ↦ λ there. (has_reserved entry.0 entries tiles there, all_reserved entries tiles)
      | false ↦ λ none. (has_reserved entry.0 entries ((entry.0, blank) ∷ tiles) (first_has entry.0 (entry.0, blank) tiles (same_self entry.0)), all_reserved entries ((entry.0, blank) ∷ tiles))
    ] in go (has entry.0 tiles) refl

place_all_is : (entries tiles : List (Place × Tile)) → AllHave entries tiles → place_all entries tiles ≡ keep_all entries tiles
place_all_is [] tiles all = refl
place_all_is (entry ∷ entries) tiles all =
    ap (λ (b : Bool). place_all entries (if b then keep entry tiles else tiles)) all.0
    ∙ place_all_is entries (keep entry tiles) (all_kept entries entry tiles all.1)

-- new tiles in their places are kept in turn
pub kept_all : (new tiles : List (Place × Tile)) → place_all new (reserved new tiles) ≡ keep_all new tiles
kept_all new tiles = place_all_is new (reserved new tiles) (all_reserved new tiles) ∙ reserved_same new new tiles (all_self new)

-- a place for the first of the new tiles, where its key has one and where not
pub reserved_there : (new others : List (Place × Tile)) (first : Place × Tile) (tiles : List (Place × Tile)) → new ≡ first ∷ others → is_some (lookup (same_place first.0) tiles) ≡ true → reserved others tiles ≡ reserved new tiles
reserved_there new others first tiles is there =
    sym (ap (λ (b : Bool). reserved others (if b then tiles else (first.0, blank) ∷ tiles)) there) ∙ ap (λ (es : List (Place × Tile)). reserved es tiles) (sym is)

pub reserved_none : (new others : List (Place × Tile)) (first : Place × Tile) (tiles : List (Place × Tile)) → new ≡ first ∷ others → is_some (lookup (same_place first.0) tiles) ≡ false → reserved others ((first.0, blank) ∷ tiles) ≡ reserved new tiles
reserved_none new others first tiles is none =
    sym (ap (λ (b : Bool). reserved others (if b then tiles else (first.0, blank) ∷ tiles)) none) ∙ ap (λ (es : List (Place × Tile)). reserved es tiles) (sym is)
