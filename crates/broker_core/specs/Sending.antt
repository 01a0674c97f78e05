-- What a tile does to the members that it goes to, in the words of their views.
use Rattle.std.specs.Prelude.{ℕ, Bool, true, false, List, [], ◌∷◌, ◌++◌, map, if◌then◌else◌}
use Rattle.std.specs.List.{flat_map}
use Rattle.cool_base.specs.declared.ids.ViewId.{ViewId}
use Rattle.cool_frame.specs.declared.frame.Frame.{Frame}
use Rattle.cool_frame.specs.declared.frame.Frame.TheVariants.{Tile}
use Rattle.kit_trait.specs.declared.values.Pixels.{Pixels}
use Rattle.tile_cache.specs.declared.tiles.KeyEnd.{KeyEnd}
use Rattle.tile_cache.specs.declared.tiles.KeyEnd.TheVariants.{Kept, Older}
use Rattle.tile_key.specs.Places.{Place}
use Rattle.document_machine.specs.Outputs.{named}
use Rattle.view_session.specs.Viewing.{sent}
use Rattle.broker_core.specs.Serving.{takes}
use Rattle.broker_core.specs.declared.members.Member.{Member}
use Rattle.broker_core.specs.declared.sending.Ready.{Ready}

-- a member once a tile of the key in this version was sent to it, as the present one or not
abbrev pub member_sent : (version : ℕ) → Ready → Member → Member
member_sent version tile member = record member { view = sent tile.key version tile.current member.view }

-- the frame of a tile that is sent to a member
abbrev pub sent_frame : (version : ℕ) → Ready → Member → ViewId × Frame
sent_frame version tile member = (named member.id, Tile tile.key version (record { 0 = member.view.next_wid }) tile.rgba)

-- a member once a painted tile was offered to it
abbrev pub offered : (version : ℕ) → Ready → Member → Member
offered version tile member = if takes tile.key version member.view then member_sent version tile member else member

-- the frame that a member gets of a painted tile, if it takes it
abbrev pub frames_for : (version : ℕ) → Ready → Member → List (ViewId × Frame)
frames_for version tile member = if takes tile.key version member.view then sent_frame version tile member ∷ [] else []

-- the members once these tiles were offered to them, one after the other
abbrev pub all_offered : (version : ℕ) → List Ready → List Member → List Member
all_offered version [] members = members
all_offered version (tile ∷ tiles) members = all_offered version tiles (map (offered version tile) members)

-- the frames of these tiles: for each tile in order, the members in order
abbrev pub all_frames : (version : ℕ) → List Ready → List Member → List (ViewId × Frame)
all_frames version [] members = []
all_frames version (tile ∷ tiles) members =
    flat_map (frames_for version tile) members ++ all_frames version tiles (map (offered version tile) members)

-- a key's picture is the present one where its job's end says that it is kept
abbrev pub is_present : KeyEnd → Bool
is_present Kept = true
is_present Older = false

-- the painted tiles of a job's keys, by what became of each and by its part of the picture
abbrev pub ready_tiles : List Place → List KeyEnd → List Pixels → List Ready
ready_tiles [] ends parts = []
ready_tiles (key ∷ keys) [] parts = []
ready_tiles (key ∷ keys) (end ∷ ends) [] = []
ready_tiles (key ∷ keys) (end ∷ ends) (part ∷ parts) =
    record { key = key; current = is_present end; rgba = part.rgba } ∷ ready_tiles keys ends parts
