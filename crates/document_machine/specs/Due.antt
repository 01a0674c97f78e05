-- Which tiles a document owes, and what a tile that is sent changes.
use Rattle.std.specs.Prelude.{ℕ, zero, suc, ◌+◌, Bool, true, false, not, ◌&&◌, ◌||◌, nat_eq, nat_lt, nat_le, List, [], ◌∷◌, ◌++◌, length, filter, slice_get, Option, None, Some, if◌then◌else◌}
use Rattle.std.specs.List.{list_any}
use Rattle.std.specs.Option.{option_map_or}
use Rattle.std.specs.Ordering.{is_lt}
use Rattle.cool_base.specs.Points.{do_meet, Extent}
use Rattle.cool_base.specs.declared.ids.ViewId.{ViewId}
use Rattle.cool_frame.specs.declared.frame.Frame.{Frame}
use Rattle.cool_frame.specs.declared.frame.Frame.TheVariants.{Tile}
use Rattle.kit_trait.specs.Rules.{Rules, doc, shown}
use Rattle.kit_trait.specs.declared.values.Damage.{Damage}
use Rattle.kit_trait.specs.declared.values.Input.{Input}
use Rattle.tile_key.specs.Places.{Place, rect_of_place, key_order, same_place}
use Rattle.tile_key.specs.Visible.{visible_keys}
use Rattle.document_machine.specs.Keys.{is_among, ordered}
use Rattle.document_machine.specs.Outputs.{named}
use Rattle.document_machine.specs.State.{Shown, View, Job, Document}
use Rattle.send_window.specs.declared.windows.TheConstants.{MOST_SENT}

-- how many parts the document has, by the bytes that it was loaded from
abbrev pub parts_of : {C B : Type 0} → Rules C B → List ℕ → ℕ
parts_of rules base = rules.parts (rules.body (rules.start base))

-- how large a part is, by the bytes that the document was loaded from
abbrev pub size_of : {C B : Type 0} → Rules C B → List ℕ → ℕ → Extent
size_of rules base part = rules.size (rules.body (rules.start base)) part

-- the damage of the input behind the first n
abbrev pub damage_of : {C B : Type 0} → Rules C B → List ℕ → List Input → ℕ → List Damage
damage_of rules base journal n =
    option_map_or (λ input. rules.hurt (doc rules base journal n) input) (slice_get journal n) []

-- the damaged rectangle meets the key's
abbrev pub damages : Place → Damage → Bool
damages key damage = nat_eq damage.part key.part && do_meet damage.rect (rect_of_place key)

-- one of the damaged rectangles meets the key's
abbrev pub is_hurt : List Damage → Place → Bool
is_hurt hurt key = list_any (damages key) hurt

-- one of the inputs above the version, of the first n, damaged a rectangle that meets the key's
abbrev pub touched : {C B : Type 0} → Rules C B → List ℕ → List Input → ℕ → Place → ℕ → Bool
touched rules base journal version key zero = false
touched rules base journal version key (suc n) =
    touched rules base journal version key n
    || (nat_le version n && is_hurt (damage_of rules base journal n) key)

-- the keys that a view sees in a document with parts of these sizes: those of its part and its zoom that
-- have a point in common with its area and with the part, in key order
abbrev pub seen_keys : (sizes : ℕ → Extent) → View → List Place
seen_keys sizes view = visible_keys view.part view.zoom view.area (sizes view.part)

-- a view sees the key or asked for it, in a document with parts of these sizes
abbrev pub wants : (sizes : ℕ → Extent) → View → Place → Bool
wants sizes view key = is_among (seen_keys sizes view) key || is_among view.asked key

-- the same in a document
abbrev pub visible : {C B S : Type 0} → Rules C B → Document S → View → List Place
visible rules d view = seen_keys (size_of rules d.base) view

abbrev pub sees_or_asks : {C B S : Type 0} → Rules C B → Document S → View → Place → Bool
sees_or_asks rules d view key = wants (size_of rules d.base) view key

-- the keys that a view sees or asked for, each once, in key order
abbrev pub keys : {C B S : Type 0} → Rules C B → Document S → View → List Place
keys rules d view = ordered view.asked (visible rules d view)

-- the version of the key on a screen
abbrev pub version_of : List Shown → Place → Option ℕ
version_of [] key = None
version_of (shown ∷ screen) key = if same_place shown.key key then Some shown.version else version_of screen key

-- a screen lacks the key, or an input above its version damaged it
abbrev pub is_lacking : {C B S : Type 0} → Rules C B → Document S → Place → Option ℕ → Bool
is_lacking rules d key None = true
is_lacking rules d key (Some version) = touched rules d.base d.journal version key d.applied

-- a pair is due where the view sees the key and its screen lacks the present tile, or where it asked for it
abbrev pub is_due : {C B S : Type 0} → Rules C B → Document S → View → Place → Bool
is_due rules d view key =
    (is_among (visible rules d view) key && is_lacking rules d key (version_of view.screen key)) || is_among view.asked key

-- a view has room for one more tile that it has not acknowledged
abbrev pub has_room : View → Bool
has_room view = nat_lt (length view.window) MOST_SENT

-- some view is owed the key
abbrev pub is_owed : {C B S : Type 0} → Rules C B → Document S → Place → Bool
is_owed rules d key = list_any (λ view. is_due rules d view key) d.views

-- some view with room is owed the key
abbrev pub is_wanted : {C B S : Type 0} → Rules C B → Document S → Place → Bool
is_wanted rules d key = list_any (λ view. has_room view && is_due rules d view key) d.views

-- a job of the key is out
abbrev pub is_out : {S : Type 0} → List (Job S) → Place → Bool
is_out jobs key = list_any (λ job. is_among job.keys key) jobs

-- a tile of this version is the present one: no applied input above it damaged it
abbrev pub is_current : {C B S : Type 0} → Rules C B → Document S → ℕ → Place → Bool
is_current rules d version key = not (touched rules d.base d.journal version key d.applied)

-- a screen, in key order, with this version of the key
abbrev pub with_version : List Shown → Place → ℕ → List Shown
with_version [] key version = record { key = key; version = version } ∷ []
with_version (shown ∷ screen) key version =
    if is_lt (key_order key shown.key) then record { key = key; version = version } ∷ (shown ∷ screen)
    else
    (if same_place key shown.key then record { key = key; version = version } ∷ screen
    else shown ∷ with_version screen key version)

-- a screen without the key
abbrev pub without_version : List Shown → Place → List Shown
without_version screen key = filter (λ shown. not (same_place shown.key key)) screen

-- the keys asked for once a tile of one of them was sent: a present tile ends the asking
abbrev pub asked_after : List Place → Place → (current : Bool) → List Place
asked_after asked key current = if current then filter (λ other. not (same_place other key)) asked else asked

-- a screen once a tile was sent: it keeps the version of a key that the view still sees or asks for
abbrev pub screen_after : List Shown → Place → ℕ → (wanted : Bool) → List Shown
screen_after screen key version wanted = if wanted then with_version screen key version else without_version screen key

-- a view once a tile of the key in this version was sent to it
abbrev pub sent : {C B S : Type 0} → Rules C B → Document S → ℕ → Place → View → View
sent rules d version key view =
    let asked = asked_after view.asked key (is_current rules d version key) in
    record view {
      asked = asked;
      screen = screen_after view.screen key version (is_among (visible rules d view) key || is_among asked key);
      window = view.window ++ record { wid = view.next_wid; key = key } ∷ [];
      next_wid = view.next_wid + 1;
    }

-- the frame of a tile: its pixels are those of the document after as many inputs as its version says
abbrev pub tile_frame : {C B S : Type 0} → Rules C B → Document S → ℕ → Place → View → ViewId × Frame
tile_frame rules d version key view =
    (named view.id, Tile key version (record { 0 = view.next_wid }) ((shown rules (doc rules d.base d.journal version) key).rgba))

-- a version is no step back from the one on the screen
abbrev pub is_not_back : Option ℕ → ℕ → Bool
is_not_back None version = true
is_not_back (Some had) version = nat_le had version

-- a screen never goes back to an older version; the one that it has comes again only where it is asked for
abbrev pub is_newer : Option ℕ → ℕ → (asked : Bool) → Bool
is_newer None version asked = true
is_newer (Some had) version asked = nat_lt had version || (asked && nat_le had version)

-- whether a painted tile of the key goes to a view: it is no step back, the pair is due, and there is room
abbrev pub takes : {C B S : Type 0} → Rules C B → Document S → ℕ → Place → View → Bool
takes rules d version key view =
    is_newer (version_of view.screen key) version (is_among view.asked key)
    && (is_due rules d view key && has_room view)
