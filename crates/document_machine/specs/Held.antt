-- A document with the tiles that are kept of it, as contracts see a broker.
use Rattle.std.specs.Prelude.{◌≡◌, ◌≢◌, ℕ, not, ◌⊎◌, List, [], ◌∷◌, filter, take, Option, None, Some, if◌then◌else◌}
use Rattle.kit_trait.specs.Rules.{Rules}
use Rattle.tile_key.specs.Places.{Place, same_place}
use Rattle.document_machine.specs.Due.{is_current}
use Rattle.document_machine.specs.Next.{Work, Serve, Apply, Send, Cut, Rest}
use Rattle.document_machine.specs.State.{Job, Document, opening}
use Rattle.document_machine.specs.declared.limits.TheConstants.{MOST_KEPT}

-- a tile that is kept: its key, and the number of inputs that its picture shows
pub record KeptTile : Type 0 where
  pub key : Place
  pub version : ℕ

-- a document and the tiles that are kept of it, the one that was used last first
pub record Held (S : Type 0) : Type 0 where
  pub document : Document S
  pub kept : List KeptTile

-- a document as it is loaded, of which no tile is kept
abbrev pub opening_held : {S : Type 0} → (file base : List ℕ) → Held S
opening_held file base = record { document = opening file base; kept = [] }

-- the version in which a key is kept
abbrev pub kept_version : List KeptTile → Place → Option ℕ
kept_version [] key = None
kept_version (tile ∷ tiles) key = if same_place tile.key key then Some tile.version else kept_version tiles key

-- the version, where a tile of it is the present one
abbrev pub where_current : {C B S : Type 0} → Rules C B → Document S → Place → Option ℕ → Option ℕ
where_current rules d key None = None
where_current rules d key (Some version) = if is_current rules d version key then Some version else None

-- the version in which a present tile of the key is kept
abbrev pub current_version : {C B S : Type 0} → Rules C B → Held S → Place → Option ℕ
current_version rules held key = where_current rules held.document key (kept_version held.kept key)

-- the kept tiles once one of the key in this version was kept or used: it is the first, in place of its
-- key's older one
abbrev pub with_kept : List KeptTile → Place → ℕ → List KeptTile
with_kept tiles key version =
    record { key = key; version = version } ∷ filter (λ tile. not (same_place tile.key key)) tiles

-- the kept tiles once painted ones of these keys came: those that are present are kept, key by key
abbrev pub with_painted : {C B S : Type 0} → Rules C B → Document S → ℕ → List Place → List KeptTile → List KeptTile
with_painted rules d number [] tiles = tiles
with_painted rules d number (key ∷ keys) tiles =
    with_painted rules d number keys (if is_current rules d number key then with_kept tiles key number else tiles)

-- the same with no more than may be kept: those that were used last
abbrev pub kept_painted : {C B S : Type 0} → Rules C B → Document S → Job S → List KeptTile → List KeptTile
kept_painted rules d job tiles = take MOST_KEPT (with_painted rules d job.number job.keys tiles)

-- a painted result is kept where it is taken; another result changes nothing
abbrev pub KeepsPainted : {C B S : Type 0} → Rules C B → Held S → S → List KeptTile → Option (Job S) → Type 0
KeepsPainted rules old scene tiles None = tiles ≡ old.kept
KeepsPainted rules old scene tiles (Some job) =
    ((scene ≢ job.scene) × (tiles ≡ old.kept))
    ⊎ ((scene ≡ job.scene) × (tiles ≡ kept_painted rules old.document job old.kept))

-- the kept tiles once a turn did this work: a tile that is sent was used
abbrev pub kept_by : List KeptTile → Work → List KeptTile
kept_by tiles Serve = tiles
kept_by tiles Apply = tiles
kept_by tiles (Send view key version) = with_kept tiles key version
kept_by tiles (Cut view keys) = tiles
kept_by tiles Rest = tiles
