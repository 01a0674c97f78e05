-- Small cases, computed on the definitions.
use Rattle.std.proofs.Common.{◌≡◌, ℕ, Bool, true, false, cond, List, [], ◌∷◌, length, None, Some, refl, ap}
use Rattle.std.specs.Prelude.{codes, slice_get, map}
use Rattle.std.specs.declared.cmp.Ordering.TheVariants.{Less, Equal, Greater}
use Rattle.cool_base.specs.Points.{Rectangle, Extent}
use Rattle.cool_frame.specs.declared.kind.ErrorKind.TheVariants.{AlreadyLoaded, ReadOnly, BadTile, TooLarge}
use Rattle.cool_message.specs.declared.message.ClientMessage.{ClientMessage}
use Rattle.cool_message.specs.declared.message.ClientMessage.TheVariants.{Key, Load, SetPart, Tile, TileProcessed, VisibleArea, Zoom}
use Rattle.cool_message.specs.declared.message.KeyKind.TheVariants.{Input as Down, Up}
use Rattle.tile_key.specs.declared.keys.TileWords.{TileWords}
use Rattle.kit_trait.specs.Patch.{patch_rules}
use Rattle.kit_trait.specs.declared.values.Input.{Input}
use Rattle.kit_trait.specs.declared.values.What.TheVariants.{Key as Typed, Mouse as Pressed}
use Rattle.tile_key.specs.Places.{Scale, key_order, tile_at}
use Rattle.tile_key.specs.Visible.{visible_keys, rows_of, row_of, is_too_large}
use Rattle.tile_key.proofs.GridFacts.{rows_length}
use Rattle.document_machine.specs.Due.{touched, is_newer, with_version}
use Rattle.document_machine.specs.Keys.{ordered}
use Rattle.document_machine.specs.Message.{Effect, acknowledged, asked_with_all, becomes, enters, forgets, message_effect, refuses}
use Rattle.document_machine.specs.Next.{Apply, Cut, Rest, Send, none_kept, pick}
use Rattle.document_machine.specs.State.{View, Document, first_zoom, no_area, opening}

-- tiles of 8 by 8 pixels, for 240 by 240 and for 480 by 480 twips, in a part of 3,840 by 3,840
-- twips
small : Scale
small = record { pixel_w = 8; pixel_h = 8; twip_w = 240; twip_h = 240; nviewid = 0 }

wide : Scale
wide = record { pixel_w = 8; pixel_h = 8; twip_w = 480; twip_h = 480; nviewid = 0 }

tiny : Scale
tiny = record { pixel_w = 1; pixel_h = 1; twip_w = 15; twip_h = 15; nviewid = 0 }

patch : Extent
patch = record { w = 3840; h = 3840 }

area : ℕ → ℕ → Rectangle
area w h = record { x = 0; y = 0; w = w; h = h }

-- of 3,120 by 1,200 twips a view sees 13 by 5 tiles; the last is the one at 2,880, 960
thirteen_by_five : length (visible_keys 0 small (area 3120 1200) patch) ≡ 65
unfolding visible_keys rows_of row_of small patch area
thirteen_by_five = refl

last_of_65 : slice_get (visible_keys 0 small (area 3120 1200) patch) 64
    ≡ Some (tile_at 0 small 2880 960)
unfolding visible_keys rows_of row_of small patch area
last_of_65 = refl

-- of 3,360 by 1,200 twips 14 by 5; behind 64 of them the one at 1,920, 960 comes
fourteen_by_five : length (visible_keys 0 small (area 3360 1200) patch) ≡ 70
unfolding visible_keys rows_of row_of small patch area
fourteen_by_five = refl

next_of_70 : slice_get (visible_keys 0 small (area 3360 1200) patch) 64
    ≡ Some (tile_at 0 small 1920 960)
unfolding visible_keys rows_of row_of small patch area
next_of_70 = refl

-- with tiles of 480 twips 7 by 3, as tiles that reach over the area's edge are seen too
seven_by_three : length (visible_keys 0 wide (area 3120 1200) patch) ≡ 21
unfolding visible_keys rows_of row_of wide patch area
seven_by_three = refl

-- one tile of the first zoom is the whole part; an area without a point has none, one beyond the
-- part neither
whole : visible_keys 0 first_zoom (area 3840 3840) patch ≡ tile_at 0 first_zoom 0 0 ∷ []
unfolding visible_keys rows_of row_of patch area
whole = refl

none : visible_keys 0 first_zoom no_area patch ≡ []
unfolding visible_keys rows_of row_of patch
none = refl

beyond : visible_keys 0 small (record { x = 3840; y = 0; w = 240; h = 240 }) patch ≡ []
unfolding visible_keys rows_of row_of patch small
beyond = refl

edge : visible_keys 0 small (record { x = 239; y = 239; w = 2; h = 1 }) patch
    ≡ tile_at 0 small 0 0 ∷ (tile_at 0 small 240 0 ∷ [])
unfolding visible_keys rows_of row_of patch small
edge = refl

-- with tiles of 15 twips the whole part would be 65,536 keys, too many; 4,096 keys of 4,096 pixels
-- are the most
too_many : length (visible_keys 0 tiny (area 3840 3840) patch) ≡ 65536
unfolding visible_keys tiny patch area
too_many = rows_length 0 tiny 0 256 0 256

too_large : is_too_large tiny 65536 ≡ true
unfolding tiny
too_large = refl

large_enough : is_too_large
    (record { pixel_w = 64; pixel_h = 64; twip_w = 60; twip_h = 60; nviewid = 0 }) 4096 ≡ false
large_enough = refl

too_many_pixels : is_too_large
    (record { pixel_w = 64; pixel_h = 65; twip_w = 60; twip_h = 60; nviewid = 0 }) 4096 ≡ true
too_many_pixels = refl

-- key order goes by the part, then down, then to the right, and then by the size in pixels and in
-- twips
down_first : key_order (tile_at 0 small 2880 0) (tile_at 0 small 0 240) ≡ Less
unfolding small
down_first = refl

then_right : key_order (tile_at 0 small 240 240) (tile_at 0 small 0 240) ≡ Greater
unfolding small
then_right = refl

part_before : key_order (tile_at 0 small 2880 2880) (tile_at 1 small 0 0) ≡ Less
unfolding small
part_before = refl

twips_last : key_order (tile_at 0 small 0 0) (tile_at 0 wide 0 0) ≡ Less
unfolding small wide
twips_last = refl

-- the look comes last: of two keys that differ in it alone, the one with grid lines is first, and
-- each is its own
plain : Scale
plain = record small { nviewid = 1 }

look_last : key_order (tile_at 0 small 240 0) (tile_at 0 plain 240 0) ≡ Less
unfolding plain small
look_last = refl

look_behind : key_order (tile_at 0 plain 240 0) (tile_at 0 small 480 0) ≡ Less
unfolding plain small
look_behind = refl

two_looks : ordered (tile_at 0 plain 240 0 ∷ []) (tile_at 0 small 240 0 ∷ [])
    ≡ tile_at 0 small 240 0 ∷ (tile_at 0 plain 240 0 ∷ [])
unfolding plain small
two_looks = refl

same_key : key_order (tile_at 0 small 240 0) (tile_at 0 small 240 0) ≡ Equal
unfolding small
same_key = refl

-- asked keys are put among the seen ones, each once
put_in_order : ordered
    (tile_at 0 small 240 0 ∷ (tile_at 0 small 480 0 ∷ (tile_at 0 small 0 0 ∷ [])))
    (tile_at 0 small 0 0 ∷ (tile_at 0 small 0 240 ∷ []))
    ≡ tile_at 0 small 0 0 ∷
    (tile_at 0 small 240 0 ∷ (tile_at 0 small 480 0 ∷ (tile_at 0 small 0 240 ∷ [])))
unfolding small
put_in_order = refl

-- keys that are asked for stand behind those that were, in the order given, each once
asked_once : asked_with_all (tile_at 0 small 240 0 ∷ [])
    (tile_at 0 small 480 0 ∷
    (tile_at 0 small 240 0 ∷ (tile_at 0 small 0 0 ∷ (tile_at 0 small 480 0 ∷ []))))
    ≡ tile_at 0 small 240 0 ∷ (tile_at 0 small 480 0 ∷ (tile_at 0 small 0 0 ∷ []))
unfolding small
asked_once = refl

-- no version is taken twice but where it is asked for, and none that is older
first_version : is_newer None 0 false ≡ true
first_version = refl

later_version : is_newer (Some 2) 3 false ≡ true
later_version = refl

same_version : is_newer (Some 2) 2 false ≡ false
same_version = refl

same_asked : is_newer (Some 2) 2 true ≡ true
same_asked = refl

older_asked : is_newer (Some 2) 1 true ≡ false
older_asked = refl

-- a screen in key order
screen_put : with_version
    (record { key = tile_at 0 small 0 0; version = 1 } ∷
    (record { key = tile_at 0 small 480 0; version = 2 } ∷ [])) (tile_at 0 small 240 0) 3
    ≡ record { key = tile_at 0 small 0 0; version = 1 } ∷
    (record { key = tile_at 0 small 240 0; version = 3 } ∷
    (record { key = tile_at 0 small 480 0; version = 2 } ∷ []))
unfolding small
screen_put = refl

screen_new : with_version (record { key = tile_at 0 small 0 0; version = 1 } ∷ [])
    (tile_at 0 small 0 0) 3 ≡ record { key = tile_at 0 small 0 0; version = 3 } ∷ []
unfolding small
screen_new = refl

-- a view of one part, that may write or not, with three tiles that it has not acknowledged
looker : Bool → View
looker can_write = record {
  id = 3;
  rights = record { can_write = can_write; token = codes "t" };
  part = 0;
  zoom = small;
  area = area 240 240;
  asked = [];
  screen = [];
  window = record { wid = 1; key = tile_at 0 small 0 0 } ∷
      (record { wid = 2; key = tile_at 0 small 240 0 } ∷
      (record { wid = 3; key = tile_at 0 small 480 0 } ∷ []));
  next_wid = 4;
}

numbers_of : View → List ℕ
numbers_of view = map (λ tile. tile.wid) view.window

-- numbers that aren't in the window change nothing, nor does one twice
taken_out : numbers_of (acknowledged (99 ∷ (1 ∷ (1 ∷ []))) (looker true)) ≡ 2 ∷ (3 ∷ [])
unfolding numbers_of looker
taken_out = refl

-- what messages do to it in a document of one part without inputs
does : Bool → ClientMessage → Effect
does can_write message =
    message_effect (record { inputs = 0; saves = []; parts = 1; sizes = λ part. patch })
    (looker can_write) message

tile_words : ℕ → ℕ → TileWords
tile_words part x =
    record {
      part = part;
      width = 8;
      height = 8;
      tileposx = x;
      tileposy = 0;
      tilewidth =
          240;
      tileheight = 240;
      nviewid = 0;
    }

processed : does true (TileProcessed (99 ∷ (1 ∷ (1 ∷ []))))
    ≡ becomes (acknowledged (99 ∷ (1 ∷ (1 ∷ []))) (looker true))
unfolding does looker
processed = refl

read_alone : does false (Key Down 65 0) ≡ refuses (looker false) (codes "key") ReadOnly
unfolding does looker
read_alone = refl

typed_in : does true (Key Down 65 0)
    ≡ enters (looker true) (record { view = record { 0 = 3 }; part = 0; what = Typed 65 0 })
unfolding does looker
typed_in = refl

let_go : does false (Key Up 65 0) ≡ becomes (looker false)
unfolding does looker
let_go = refl

loaded_already : does true (Load (codes "x")) ≡ refuses (looker true) (codes "load") AlreadyLoaded
unfolding does looker
loaded_already = refl

no_multiple : does true (Tile (tile_words 0 7)) ≡ refuses (looker true) (codes "tile") BadTile
unfolding does looker tile_words
no_multiple = refl

no_part : does true (Tile (tile_words 1 0)) ≡ refuses (looker true) (codes "tile") BadTile
unfolding does looker tile_words
no_part = refl

asked_for : does true (Tile (tile_words 0 240))
    ≡ becomes (record (looker true) { asked = tile_at 0 small 240 0 ∷ [] })
unfolding does looker tile_words small
asked_for = refl

other_part : does true (SetPart 1) ≡ refuses (looker true) (codes "setclientpart") BadTile
unfolding does looker
other_part = refl

own_part : does true (SetPart 0) ≡ becomes (looker true)
unfolding does looker visible_keys rows_of row_of small patch area
own_part = refl

no_zoom : does true (Zoom 8 8 14 240 0) ≡ refuses (looker true) (codes "clientzoom") BadTile
unfolding does looker
no_zoom = refl

other_zoom : does true (Zoom 8 8 480 480 0) ≡ becomes (record (looker true) { zoom = wide })
unfolding does looker visible_keys rows_of row_of wide patch area
other_zoom = refl

-- the other look is another zoom; a number that names none makes none
other_look : does true (Zoom 8 8 240 240 1) ≡ becomes (record (looker true) { zoom = plain })
unfolding does looker visible_keys rows_of row_of small plain patch area
other_look = refl

no_look : does true (Zoom 8 8 240 240 2) ≡ refuses (looker true) (codes "clientzoom") BadTile
unfolding does looker
no_look = refl

other_area : does true (VisibleArea (area 3120 1200))
    ≡ becomes (record (looker true) { area = area 3120 1200 })
unfolding does looker visible_keys rows_of row_of small patch area
other_area = refl

-- a zoom with which the view would see 65,536 keys
sees_all : View
sees_all = record (looker true) { area = area 3840 3840 }

too_large_zoom : message_effect
    (record { inputs = 0; saves = []; parts = 1; sizes = λ part. patch }) sees_all
    (Zoom 1 1 15 15 0) ≡ refuses sees_all (codes "clientzoom") TooLarge
unfolding sees_all looker tiny
too_large_zoom =
    ap (λ n. cond (is_too_large tiny n) (refuses sees_all (codes "clientzoom") TooLarge)
    (becomes (forgets (λ part. patch) (record sees_all { zoom = tiny })))) too_many

-- a click at 10, 10 damages the first square of a patch document: a tile of it is touched, in each
-- zoom, and the tile beside it isn't; a tile that was painted after the click isn't touched by it
click : List Input
click = record { view = record { 0 = 0 }; part = 0; what = Pressed 10 10 1 1 0 } ∷ []

hurt_small : touched patch_rules [] click 0 (tile_at 0 small 0 0) 1 ≡ true
unfolding click small
hurt_small = refl

hurt_wide : touched patch_rules [] click 0 (tile_at 0 wide 0 0) 1 ≡ true
unfolding click wide
hurt_wide = refl

hurt_plain : touched patch_rules [] click 0 (tile_at 0 plain 0 0) 1 ≡ true
unfolding click small plain
hurt_plain = refl

hurt_not : touched patch_rules [] click 0 (tile_at 0 small 240 0) 1 ≡ false
unfolding click small
hurt_not = refl

hurt_before : touched patch_rules [] click 1 (tile_at 0 small 0 0) 1 ≡ false
unfolding click small
hurt_before = refl

hurt_later : touched patch_rules [] click 0 (tile_at 0 small 0 0) 0 ≡ false
unfolding click small
hurt_later = refl

-- what a turn does next: an input that isn't applied goes first, then what is kept of a key is
-- sent, a job is cut where nothing is, and there is nothing to do where no view is due a key
asking : View
asking = record (looker true) { asked = tile_at 0 small 240 0 ∷ []; area = no_area }

one_view : List Input → View → Document ℕ
one_view journal view =
    record (opening (codes "f") []) { journal = journal; views = view ∷ []; next_view = 4 }

applies_first : pick patch_rules none_kept (one_view click asking) ≡ Apply
unfolding one_view click
applies_first = refl

cuts_then : pick patch_rules none_kept (one_view [] asking) ≡ Cut 3 (tile_at 0 small 240 0 ∷ [])
unfolding one_view asking looker small visible_keys rows_of row_of
cuts_then = refl

sends_kept : pick patch_rules (λ key. Some 0) (one_view [] asking)
    ≡ Send 3 (tile_at 0 small 240 0) 0
unfolding one_view asking looker small visible_keys rows_of row_of
sends_kept = refl

rests_last : pick patch_rules none_kept (one_view [] (record asking { asked = [] })) ≡ Rest
unfolding one_view asking looker small visible_keys rows_of row_of
rests_last = refl
