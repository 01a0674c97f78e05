-- The text of a message: all its words in the table's order, one blank in front of each.
use Rattle.std.specs.Prelude.{ℕ, Bool, true, false, List, [], ◌∷◌, ◌++◌, map, codes}
use Rattle.std.specs.Fmt.{decimal}
use Rattle.cool_words.specs.Lists.{list_text}
use Rattle.cool_message.specs.declared.fault.Word.{Word}
use Rattle.cool_message.specs.declared.message.ClientMessage.{ClientMessage}
use Rattle.cool_message.specs.declared.message.ClientMessage.TheVariants as message
use Rattle.cool_message.specs.declared.message.KeyKind.{KeyKind}
use Rattle.cool_message.specs.declared.message.KeyKind.TheVariants as key
use Rattle.cool_message.specs.declared.message.MouseKind.{MouseKind}
use Rattle.cool_message.specs.declared.message.MouseKind.TheVariants as mouse
use Rattle.cool_message.specs.declared.table.Command.{Command}
use Rattle.cool_message.specs.declared.table.Command.TheVariants as command
use Rattle.cool_message.specs.declared.table.Field.{Field}
use Rattle.cool_message.specs.Names.{name_of, command_text}
use Rattle.cool_message.specs.Table.{fields_of}

-- a blank, a word's name and its equals sign, and the text behind
abbrev pub word_text : Word → List ℕ → List ℕ
word_text name behind = 32 ∷ (name_of name ++ (61 ∷ behind))

-- the words with their values, in one order
abbrev pub spelled : List Field → List (List ℕ) → List ℕ
spelled [] values = []
spelled (field ∷ fields) [] = []
spelled (field ∷ fields) (value ∷ values) = word_text field.word (value ++ spelled fields values)

-- a command with the values of all its words
abbrev pub line : Command → List (List ℕ) → List ℕ
line first values = command_text first ++ spelled (fields_of first) values

abbrev pub key_text : KeyKind → List ℕ
key_text key.Input = codes "input"
key_text key.Up = codes "up"

abbrev pub mouse_text : MouseKind → List ℕ
mouse_text mouse.ButtonDown = codes "buttondown"
mouse_text mouse.ButtonUp = codes "buttonup"
mouse_text mouse.Move = codes "move"

abbrev pub flag_text : Bool → List ℕ
flag_text true = codes "1"
flag_text false = codes "0"

abbrev pub written : ClientMessage → List ℕ
written message.CoolClient = line command.CoolClient []
written (message.Load url) = line command.Load (url ∷ [])
written (message.Key kind chr code) = line command.Key (key_text kind ∷ map decimal (chr ∷ code ∷ []))
written (message.Mouse kind x y count buttons modifier) =
    line command.Mouse (mouse_text kind ∷ map decimal (x ∷ y ∷ count ∷ buttons ∷ modifier ∷ []))
written (message.Tile t) =
    line command.Tile (map decimal (t.part ∷ t.width ∷ t.height ∷ t.tileposx ∷ t.tileposy
    ∷ t.tilewidth ∷ t.tileheight ∷ t.nviewid ∷ []))
written (message.TileCombine t) =
    line command.TileCombine (decimal t.part ∷ decimal t.width ∷ decimal t.height ∷ list_text t.tileposx
    ∷ list_text t.tileposy ∷ decimal t.tilewidth ∷ decimal t.tileheight ∷ decimal t.nviewid ∷ [])
written message.CancelTiles = line command.CancelTiles []
written (message.VisibleArea r) = line command.VisibleArea (map decimal (r.x ∷ r.y ∷ r.w ∷ r.h ∷ []))
written (message.Zoom pixel_w pixel_h twip_w twip_h nviewid) =
    line command.Zoom (map decimal (pixel_w ∷ pixel_h ∷ twip_w ∷ twip_h ∷ nviewid ∷ []))
written (message.SetPart part) = line command.SetPart (decimal part ∷ [])
written (message.TileProcessed wids) = line command.TileProcessed (list_text wids ∷ [])
written (message.Save keep_edit skip_unmodified) =
    line command.Save (flag_text keep_edit ∷ flag_text skip_unmodified ∷ [])
written message.UnoSave = codes "uno .uno:Save"

-- a word that is a number, and a blank in front of it
abbrev pub number_word : Word × ℕ → List ℕ
number_word pair = word_text pair.0 (decimal pair.1)
