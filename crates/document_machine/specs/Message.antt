-- What a message of a view does.
use Rattle.std.specs.Prelude.{ℕ, Bool, false, not, List, [], ◌∷◌, ◌++◌, length, filter, map, nat_eq, nat_le, nat_lt, Option, None, Some, Result, Ok, Err, codes, if◌then◌else◌}
use Rattle.std.specs.List.{list_any}
use Rattle.cool_base.specs.Points.{Extent}
use Rattle.cool_message.specs.Asked.{keys_of}
use Rattle.cool_frame.specs.declared.kind.ErrorKind.{ErrorKind}
use Rattle.cool_frame.specs.declared.kind.ErrorKind.TheVariants.{BadMessage, AlreadyLoaded, ReadOnly, InputsFull, SavesFull, BadTile, TooLarge, AskedFull}
use Rattle.cool_frame.specs.declared.frame.Frame.{Frame}
use Rattle.cool_frame.specs.declared.frame.Frame.TheVariants.{Server, Error}
use Rattle.cool_message.specs.Command.{command_name}
use Rattle.cool_message.specs.Reading.{reading}
use Rattle.cool_message.specs.declared.fault.MessageFault.{MessageFault}
use Rattle.cool_message.specs.declared.message.ClientMessage.{ClientMessage}
use Rattle.cool_message.specs.declared.message.ClientMessage.TheVariants.{CoolClient, Load, Key, Mouse, Tile, TileCombine, CancelTiles, VisibleArea, Zoom, SetPart, TileProcessed, Save, UnoSave}
use Rattle.cool_message.specs.declared.message.KeyKind.{KeyKind}
use Rattle.cool_message.specs.declared.message.MouseKind.{MouseKind}
use Rattle.cool_message.specs.declared.message.KeyKind.TheVariants.{Input as Down, Up}
use Rattle.cool_message.specs.declared.message.MouseKind.TheVariants.{ButtonDown, ButtonUp, Move}
use Rattle.kit_trait.specs.Rules.{Rules}
use Rattle.save_core.specs.Saving.{Saving, is_full, token_kept, waits}
use Rattle.save_core.specs.declared.values.Save.{Save as Waiting}
use Rattle.kit_trait.specs.declared.values.Input.{Input}
use Rattle.kit_trait.specs.declared.values.What.{What}
use Rattle.kit_trait.specs.declared.values.What.TheVariants.{Key as Typed, Mouse as Pressed}
use Rattle.tile_key.specs.Places.{Place, Scale, zoom_of}
use Rattle.tile_key.specs.Visible.{is_too_large}
use Rattle.document_machine.specs.Due.{parts_of, size_of, seen_keys, wants}
use Rattle.document_machine.specs.Keys.{is_among}
use Rattle.document_machine.specs.Outputs.{named, frames_only}
use Rattle.document_machine.specs.State.{View, Document, with_view}
use Rattle.document_machine.specs.declared.limits.TheConstants.{MOST_ASKED, MOST_INPUTS}
use Rattle.document_machine.specs.declared.outs.Outs.{Outs}

-- what a message meets in a document: how many inputs are accepted, the saves that are not answered, how
-- many parts there are, and the size of each
pub record Limits : Type 0 where
  pub inputs : ℕ
  pub saves : List Waiting
  pub parts : ℕ
  pub sizes : ℕ → Extent

-- the limits of a document
abbrev pub limits_of : {C B S : Type 0} → Rules C B → Document S → Limits
limits_of rules d =
    record {
      inputs = length d.journal;
      saves = d.saving.saves;
      parts = parts_of rules d.base;
      sizes = size_of rules d.base;
    }

-- the one effect of a message: the frames that its view gets, the inputs that are accepted, whether a save
-- waits now, which tells whether it needs no put where nothing is new, and what the view is after it
pub record Effect : Type 0 where
  pub frames : List Frame
  pub inputs : List Input
  pub save : Option Bool
  pub view : View

-- the view is this one now, and nothing else comes of the message
abbrev pub becomes : View → Effect
becomes view = record { frames = []; inputs = []; save = None; view = view }

-- the view gets one frame, and nothing changes
abbrev pub answers : View → Frame → Effect
answers view frame = record (becomes view) { frames = frame ∷ [] }

-- the message is refused: an error frame with its command, and nothing changes
abbrev pub refuses : View → (command : List ℕ) → ErrorKind → Effect
refuses view command kind = answers view (Error command kind None)

-- an input is accepted
abbrev pub enters : View → Input → Effect
enters view input = record (becomes view) { inputs = input ∷ [] }

-- an input is refused where the view may not write, and then where the journal is full
abbrev pub input_effect : Limits → View → (command : List ℕ) → What → Effect
input_effect limits view command what =
    if view.rights.can_write then
    (if nat_le MOST_INPUTS limits.inputs then refuses view command InputsFull
    else enters view (record { view = named view.id; part = view.part; what = what }))
    else refuses view command ReadOnly

-- a save waits
abbrev pub awaits : View → (skip : Bool) → Effect
awaits view skip = record (becomes view) { save = Some skip }

-- a save is refused where the view may not write, and then where too many of its saves are not answered
abbrev pub saving_effect : Limits → View → (command : List ℕ) → (skip : Bool) → Effect
saving_effect limits view command skip =
    if view.rights.can_write then
    (if is_full (Some (named view.id)) limits.saves then refuses view command SavesFull else awaits view skip)
    else refuses view command ReadOnly

-- a key that goes down is an input; one that is let go changes nothing
abbrev pub key_effect : Limits → View → KeyKind → What → Effect
key_effect limits view Down what = input_effect limits view (codes "key") what
key_effect limits view Up what = becomes view

-- a button that goes down is an input; one that is let go changes nothing, and so does a move
abbrev pub mouse_effect : Limits → View → MouseKind → What → Effect
mouse_effect limits view ButtonDown what = input_effect limits view (codes "mouse") what
mouse_effect limits view ButtonUp what = becomes view
mouse_effect limits view Move what = becomes view

-- the asked keys with one more behind them, where it isn't asked for yet
abbrev pub asked_with : List Place → Place → List Place
asked_with asked key = if is_among asked key then asked else asked ++ key ∷ []

-- the asked keys with these behind them, in the order given, each once
abbrev pub asked_with_all : List Place → List Place → List Place
asked_with_all asked [] = asked
asked_with_all asked (key ∷ keys) = asked_with_all (asked_with asked key) keys

-- asked tiles are refused where one of them is no key or its part is none of the document's, and then
-- where the asked keys would be too many; so all of them are asked for, or none
abbrev pub asking_effect : View → (command : List ℕ) → Option (List Place) → Effect
asking_effect view command None = refuses view command BadTile
asking_effect view command (Some keys) =
    if nat_lt MOST_ASKED (length (asked_with_all view.asked keys)) then refuses view command AskedFull
    else becomes (record view { asked = asked_with_all view.asked keys })

-- a screen forgets the keys that its view neither sees nor asks for
abbrev pub forgets : (sizes : ℕ → Extent) → View → View
forgets sizes view = record view { screen = filter (λ shown. wants sizes view shown.key) view.screen }

-- a view that cancels: of the asked keys those stay asked for that it sees
abbrev pub cancels : (sizes : ℕ → Extent) → View → View
cancels sizes view = forgets sizes (record view { asked = filter (is_among (seen_keys sizes view)) view.asked })

-- a change of what a view sees is refused where it would see more than 4,096 keys, or more than 16,777,216
-- pixels
abbrev pub seeing_effect : (sizes : ℕ → Extent) → View → (command : List ℕ) → (changed : View) → Effect
seeing_effect sizes view command changed =
    if is_too_large changed.zoom (length (seen_keys sizes changed)) then refuses view command TooLarge
    else becomes (forgets sizes changed)

-- a zoom is refused where its numbers make none, and then where the view would see too much
abbrev pub zooming_effect : (sizes : ℕ → Extent) → View → Option Scale → Effect
zooming_effect sizes view None = refuses view (codes "clientzoom") BadTile
zooming_effect sizes view (Some zoom) = seeing_effect sizes view (codes "clientzoom") (record view { zoom = zoom })

-- a part is refused where the document has no such part, and then where the view would see too much
abbrev pub going_effect : Limits → View → (part : ℕ) → Effect
going_effect limits view part =
    if nat_lt part limits.parts
    then seeing_effect limits.sizes view (codes "setclientpart") (record view { part = part })
    else refuses view (codes "setclientpart") BadTile

-- a view once these numbers were acknowledged: the tiles so numbered leave its window, others change nothing
abbrev pub acknowledged : List ℕ → View → View
acknowledged wids view =
    record view { window = filter (λ tile. not (list_any (λ wid. nat_eq wid tile.wid) wids)) view.window }

-- the effect of each message of a view
abbrev pub message_effect : Limits → View → ClientMessage → Effect
message_effect limits view CoolClient = answers view Server
message_effect limits view (Load url) = refuses view (codes "load") AlreadyLoaded
message_effect limits view (Key kind chr code) = key_effect limits view kind (Typed chr code)
message_effect limits view (Mouse kind x y clicks buttons modifier) =
    mouse_effect limits view kind (Pressed x y clicks buttons modifier)
message_effect limits view (Tile words) = asking_effect view (codes "tile") (keys_of limits.parts (Tile words))
message_effect limits view (TileCombine words) =
    asking_effect view (codes "tilecombine") (keys_of limits.parts (TileCombine words))
message_effect limits view CancelTiles = becomes (cancels limits.sizes view)
message_effect limits view (VisibleArea area) =
    seeing_effect limits.sizes view (codes "clientvisiblearea") (record view { area = area })
message_effect limits view (Zoom pixel_w pixel_h twip_w twip_h nviewid) =
    zooming_effect limits.sizes view
    (zoom_of (record { pixel_w = pixel_w; pixel_h = pixel_h; twip_w = twip_w; twip_h = twip_h; nviewid = nviewid }))
message_effect limits view (SetPart part) = going_effect limits view part
message_effect limits view (TileProcessed wids) = becomes (acknowledged wids view)
message_effect limits view (Save keep skip) = saving_effect limits view (codes "save") skip
message_effect limits view UnoSave = saving_effect limits view (codes "uno") false

-- a text that is no message is refused, with the command that it seems to have
abbrev pub reading_effect : Limits → View → List ℕ → Result ClientMessage MessageFault → Effect
reading_effect limits view text (Err why) = refuses view (command_name text) BadMessage
reading_effect limits view text (Ok message) = message_effect limits view message

-- the effect of a text that a view says
abbrev pub effect_of : Limits → View → List ℕ → Effect
effect_of limits view text = reading_effect limits view text (reading text)

-- the same in a document
abbrev pub effect : {C B S : Type 0} → Rules C B → Document S → View → List ℕ → Effect
effect rules d view text = effect_of (limits_of rules d) view text

-- an effect gives its frames to the view
abbrev pub reply : {S : Type 0} → ℕ → Effect → Outs S
reply id effect = frames_only (map (λ frame. (named id, frame)) effect.frames)

-- what is known of the saves once these inputs were accepted: the token of the view that said them is kept
abbrev pub with_token : List Input → (token : List ℕ) → Saving → Saving
with_token [] token s = s
with_token (input ∷ inputs) token s = token_kept token s

-- the same once a view's save waits, where one does: its mark is how many inputs were accepted before it
abbrev pub with_save : Option Bool → (view mark : ℕ) → (token : List ℕ) → Saving → Saving
with_save None view mark token s = s
with_save (Some skip) view mark token s = waits (Some (named view)) mark skip token s

-- what is known of the saves after an effect of a view's message
abbrev pub saving_after : (view mark : ℕ) → Effect → Saving → Saving
saving_after view mark effect s =
    with_save effect.save view mark effect.view.rights.token (with_token effect.inputs effect.view.rights.token s)

-- the document after an effect of a view's message
abbrev pub heard : {S : Type 0} → Document S → ℕ → Effect → Document S
heard d id effect = record d {
  journal = d.journal ++ effect.inputs;
  views = with_view d.views id (λ _. effect.view);
  saving = saving_after id (length d.journal) effect d.saving;
}
