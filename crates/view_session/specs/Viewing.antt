-- A view: what it sees and asks for, what is on its screen, what it has not acknowledged.
use Rattle.std.specs.Prelude.{ℕ, ◌+◌, Bool, true, not, ◌&&◌, ◌||◌, nat_eq, List, [], ◌∷◌, ◌++◌, filter, find, map, Option, None, Some, option_map, if◌then◌else◌}
use Rattle.std.specs.Ordering.{is_lt}
use Rattle.cool_base.specs.Points.{Rectangle, Extent, do_meet}
use Rattle.tile_key.specs.Places.{Place, Scale, rect_of_place, key_order, same_place}
use Rattle.tile_key.specs.Visible.{visible_keys}
use Rattle.document_machine.specs.Due.{asked_after}
use Rattle.document_machine.specs.Keys.{is_among, ordered}
use Rattle.document_machine.specs.Message.{asked_with_all}
use Rattle.document_machine.specs.State.{first_zoom, no_area}
use Rattle.send_window.specs.Tiles.{Sent}
use Rattle.document_machine.specs.declared.rights.Rights.{Rights}

-- a key on the screen: the version last sent, and whether it is stale: it was sent as one that isn't the
-- present one, or a damage noted since then met it
pub record Entry : Type 0 where
  pub key : Place
  pub version : ℕ
  pub stale : Bool

-- what it may do; its part, its zoom, the area that it looks at, and the keys that it sees there, in key
-- order; the keys that it asked for, in the order asked; its screen, in key order; the tiles that it has not
-- acknowledged, in the order sent, and the number of its next tile
pub record Viewing : Type 0 where
  pub rights : Rights
  pub part : ℕ
  pub zoom : Scale
  pub area : Rectangle
  pub visible : List Place
  pub asked : List Place
  pub screen : List Entry
  pub window : List Sent
  pub next_wid : ℕ

-- a view as it joins a document whose first part has this size
abbrev pub opening : Rights → Extent → Viewing
opening rights size = record {
  rights = rights;
  part = 0;
  zoom = first_zoom;
  area = no_area;
  visible = visible_keys 0 first_zoom no_area size;
  asked = [];
  screen = [];
  window = [];
  next_wid = 1;
}

-- the view sees the key or asked for it
abbrev pub wants : Viewing → Place → Bool
wants v key = is_among v.visible key || is_among v.asked key

-- the screen forgets the keys that the view neither sees nor asks for
abbrev pub forgets : Viewing → Viewing
forgets v = record v { screen = filter (λ entry. wants v entry.key) v.screen }

-- it looks at another area, takes another zoom, goes to another part of this size
abbrev pub looks : Rectangle → Extent → Viewing → Viewing
looks area size v = forgets (record v { area = area; visible = visible_keys v.part v.zoom area size })

abbrev pub zooms : Scale → Extent → Viewing → Viewing
zooms zoom size v = forgets (record v { zoom = zoom; visible = visible_keys v.part zoom v.area size })

abbrev pub goes_to : ℕ → Extent → Viewing → Viewing
goes_to part size v = forgets (record v { part = part; visible = visible_keys part v.zoom v.area size })

-- it asks for these keys too, in the order given, each once
abbrev pub asks : List Place → Viewing → Viewing
asks keys v = record v { asked = asked_with_all v.asked keys }

-- it asks only for what it sees
abbrev pub cancels : Viewing → Viewing
cancels v = forgets (record v { asked = filter (is_among v.visible) v.asked })

-- a tile with this number is acknowledged
abbrev pub processed : ℕ → Viewing → Viewing
processed wid v = record v { window = filter (λ tile. not (nat_eq tile.wid wid)) v.window }

-- a damage makes the keys stale that it meets
abbrev pub hit : (part : ℕ) → Rectangle → Entry → Entry
hit part rect entry = record entry { stale = entry.stale || (nat_eq part entry.key.part && do_meet rect (rect_of_place entry.key)) }

abbrev pub damaged : (part : ℕ) → Rectangle → Viewing → Viewing
damaged part rect v = record v { screen = map (hit part rect) v.screen }

-- a screen, in key order, with this version of the key
abbrev pub with_entry : List Entry → Place → ℕ → (stale : Bool) → List Entry
with_entry [] key version stale = record { key = key; version = version; stale = stale } ∷ []
with_entry (entry ∷ screen) key version stale =
    if is_lt (key_order key entry.key) then record { key = key; version = version; stale = stale } ∷ (entry ∷ screen)
    else
    (if same_place key entry.key then record { key = key; version = version; stale = stale } ∷ screen
    else entry ∷ with_entry screen key version stale)

-- a screen without the key
abbrev pub without_entry : List Entry → Place → List Entry
without_entry screen key = filter (λ entry. not (same_place entry.key key)) screen

abbrev pub screen_after : List Entry → Place → ℕ → (stale wanted : Bool) → List Entry
screen_after screen key version stale wanted = if wanted then with_entry screen key version stale else without_entry screen key

-- a tile of the key in this version is sent: a present one ends the asking for the key, and the screen keeps
-- the version of a key that the view still sees or asks for
abbrev pub sent : Place → ℕ → (current : Bool) → Viewing → Viewing
sent key version current v =
    let asked = asked_after v.asked key current in
    record v {
      asked = asked;
      screen = screen_after v.screen key version (not current) (is_among v.visible key || is_among asked key);
      window = v.window ++ record { wid = v.next_wid; key = key } ∷ [];
      next_wid = v.next_wid + 1;
    }

-- the entry of a key on the screen
abbrev pub entry_of : List Entry → Place → Option Entry
entry_of [] key = None
entry_of (entry ∷ screen) key = if same_place entry.key key then Some entry else entry_of screen key

-- the version of the key on the screen
abbrev pub version_on : Viewing → Place → Option ℕ
version_on v key = option_map (λ entry. entry.version) (entry_of v.screen key)

-- a screen lacks the key, or what it has of it is stale
abbrev pub is_lacking : Option Entry → Bool
is_lacking None = true
is_lacking (Some entry) = entry.stale

-- a key is due where the view sees it and its screen lacks the present tile, or where it asked for it
abbrev pub is_due : Viewing → Place → Bool
is_due v key = (is_among v.visible key && is_lacking (entry_of v.screen key)) || is_among v.asked key

-- the keys that it sees or asked for, each once, in key order
abbrev pub keys : Viewing → List Place
keys v = ordered v.asked v.visible

-- the due keys in key order
abbrev pub uncurrent : Viewing → List Place
uncurrent v = filter (is_due v) (keys v)

-- a key comes behind this one in key order; behind none each does
abbrev pub is_behind : Option Place → Place → Bool
is_behind None key = true
is_behind (Some before) key = is_lt (key_order before key)

-- the first due key, in key order, of those behind this one
abbrev pub next_due : Option Place → Viewing → Option Place
next_due before v = find (λ key. is_behind before key && is_due v key) (keys v)
