-- What a text says: the value of a message, or the first fault.
use Rattle.std.specs.Prelude.{ℕ, Bool, ◌&&◌, ◌||◌, not, ◌==◌, nat_lt, nat_le, List, [], ◌∷◌, length, Option, Some, None, is_some, is_none, unwrap_or, map, Result, Ok, Err, codes, if◌then◌else◌}
use Rattle.std.specs.Borrow.{Bor}
use Rattle.std.specs.Option.{option_map, option_or}
use Rattle.std.specs.List.{list_all, find}
use Rattle.std.specs.Str.{bytes_eq, is_utf8}
use Rattle.cool_base.specs.Numbers.{number_31, number_64}
use Rattle.tile_key.specs.Places.{look_of}
use Rattle.cool_words.specs.Words.{words, is_blank, first_value, count_named}
use Rattle.cool_words.specs.Lists.{parts, is_list, number_in, numbers}
use Rattle.cool_message.specs.declared.fault.MessageFault.{MessageFault}
use Rattle.cool_message.specs.declared.fault.MessageFault.TheVariants.{Empty, TooLong, NotUtf8, UnknownCommand, MissingWord, BadWord, RepeatedWord}
use Rattle.cool_message.specs.declared.fault.Word.{Word}
use Rattle.cool_message.specs.declared.fault.Word.TheVariants as word
use Rattle.cool_message.specs.declared.message.ClientMessage.{ClientMessage}
use Rattle.cool_message.specs.declared.message.ClientMessage.TheVariants as message
use Rattle.cool_message.specs.declared.message.KeyKind.{KeyKind}
use Rattle.cool_message.specs.declared.message.KeyKind.TheVariants as key
use Rattle.cool_message.specs.declared.message.MouseKind.{MouseKind}
use Rattle.cool_message.specs.declared.message.MouseKind.TheVariants as mouse
use Rattle.cool_message.specs.declared.table.Command.{Command}
use Rattle.cool_message.specs.declared.table.Command.TheVariants as command
use Rattle.cool_message.specs.declared.table.Field.{Field}
use Rattle.cool_message.specs.declared.table.Kind.{Kind}
use Rattle.cool_message.specs.declared.table.Kind.TheVariants as kind
use Rattle.cool_message.specs.declared.limits.TheConstants.{MESSAGE_LIMIT, URL_LIMIT}
use Rattle.cool_message.specs.Names.{name_of, command_named}
use Rattle.cool_message.specs.Table.{fields_of, default_of}

-- the words that a list of references shows
abbrev pub texts : List (Bor (List ℕ)) → List (List ℕ)
texts list = map (λ word. word.now) list

-- the text that stands for a word: the value of its first occurrence, or its default
abbrev pub standing : List (List ℕ) → Word → Option (List ℕ)
standing list name = option_or (first_value (name_of name) list) (default_of name)

abbrev pub text_of : List (List ℕ) → Word → List ℕ
text_of list name = unwrap_or (standing list name) []

-- whether a text is a value of the kind, among these words
abbrev pub fits : List (List ℕ) → Kind → List ℕ → Bool
fits list kind.Address text = nat_le 1 (length text) && nat_le (length text) URL_LIMIT
fits list kind.KeyType text = bytes_eq text (codes "input") || bytes_eq text (codes "up")
fits list kind.MouseType text =
    bytes_eq text (codes "buttondown") || bytes_eq text (codes "buttonup") || bytes_eq text (codes "move")
fits list kind.Number text = is_some (number_31 text)
fits list kind.Look text = is_some (number_31 text)
fits list kind.Numbers text = is_list number_31 text
fits list kind.AsManyNumbers text =
    is_list number_31 text && length (parts text) == length (parts (text_of list word.TilePosX))
fits list kind.LongNumbers text = is_list number_64 text
fits list kind.Flag text = bytes_eq text (codes "0") || bytes_eq text (codes "1")

-- a word that is required is not there
abbrev pub is_missing : List (List ℕ) → Field → Bool
is_missing list field = is_none (standing list field.word)

-- the first occurrence of a word has a value that is not of its kind
abbrev pub is_bad : List (List ℕ) → Field → Bool
is_bad list field = not (fits list field.kind (text_of list field.word))

-- a word stands twice
abbrev pub is_repeated : List (List ℕ) → Field → Bool
is_repeated list field = nat_lt 1 (count_named (name_of field.word) list)

-- the first fault of a command's words
abbrev pub fault_of : List Field → List (List ℕ) → Option MessageFault
fault_of fields list =
    option_or (option_map (λ field. MissingWord field.word) (find (is_missing list) fields))
    (option_or (option_map (λ field. BadWord field.word) (find (is_bad list) fields))
    (option_map (λ field. RepeatedWord field.word) (find (is_repeated list) fields)))

abbrev pub number_at : List ℕ → ℕ
number_at text = number_in number_31 text

-- the look that a text names
abbrev pub look_at : List ℕ → ℕ
look_at text = look_of (number_at text)

abbrev pub key_kind : List ℕ → KeyKind
key_kind text = if bytes_eq text (codes "up") then key.Up else key.Input

abbrev pub mouse_kind : List ℕ → MouseKind
mouse_kind text =
    if bytes_eq text (codes "buttondown") then mouse.ButtonDown
    else (if bytes_eq text (codes "buttonup") then mouse.ButtonUp else mouse.Move)

abbrev pub flag : List ℕ → Bool
flag text = bytes_eq text (codes "1")

-- the message of a command, by the text that stands for each of its words
abbrev pub message_from : Command → (Word → List ℕ) → ClientMessage
message_from command.CoolClient text = message.CoolClient
message_from command.Load text = message.Load (text word.Url)
message_from command.Key text =
    message.Key (key_kind (text word.«Type»)) (number_at (text word.Char)) (number_at (text word.Key))
message_from command.Mouse text =
    message.Mouse (mouse_kind (text word.«Type»)) (number_at (text word.X)) (number_at (text word.Y))
    (number_at (text word.Count)) (number_at (text word.Buttons)) (number_at (text word.Modifier))
message_from command.Tile text = message.Tile (record {
  part = number_at (text word.Part);
  width = number_at (text word.Width);
  height = number_at (text word.Height);
  tileposx = number_at (text word.TilePosX);
  tileposy = number_at (text word.TilePosY);
  tilewidth = number_at (text word.TileWidth);
  tileheight = number_at (text word.TileHeight);
  nviewid = look_at (text word.NViewId);
})
message_from command.TileCombine text = message.TileCombine (record {
  part = number_at (text word.Part);
  width = number_at (text word.Width);
  height = number_at (text word.Height);
  tileposx = numbers number_31 (text word.TilePosX);
  tileposy = numbers number_31 (text word.TilePosY);
  tilewidth = number_at (text word.TileWidth);
  tileheight = number_at (text word.TileHeight);
  nviewid = look_at (text word.NViewId);
})
message_from command.CancelTiles text = message.CancelTiles
message_from command.VisibleArea text = message.VisibleArea (record {
  x = number_at (text word.X);
  y = number_at (text word.Y);
  w = number_at (text word.Width);
  h = number_at (text word.Height);
})
message_from command.Zoom text =
    message.Zoom (number_at (text word.TilePixelWidth)) (number_at (text word.TilePixelHeight))
    (number_at (text word.TileTwipWidth)) (number_at (text word.TileTwipHeight)) (look_at (text word.NViewId))
message_from command.SetPart text = message.SetPart (number_at (text word.Part))
message_from command.TileProcessed text = message.TileProcessed (numbers number_64 (text word.Wids))
message_from command.Save text = message.Save (flag (text word.KeepEdit)) (flag (text word.SkipUnmodified))

-- the message of a command that stands in the table, or the first fault of its words
abbrev pub tabled : Command → List (List ℕ) → Option MessageFault → Result ClientMessage MessageFault
tabled first list (Some fault) = Err fault
tabled first list None = Ok (message_from first (text_of list))

-- `uno` has no words with names: the word behind it is `.uno:Save`
abbrev pub uno : List (List ℕ) → Result ClientMessage MessageFault
uno [] = Err (MissingWord word.Command)
uno (second ∷ others) = if bytes_eq second (codes ".uno:Save") then Ok message.UnoSave else Err (BadWord word.Command)

abbrev pub with_command : Option Command → List (List ℕ) → Result ClientMessage MessageFault
with_command None list = Err UnknownCommand
with_command (Some first) list = tabled first list (fault_of (fields_of first) list)

-- what the words say, the first being the command
abbrev pub said : List (List ℕ) → Result ClientMessage MessageFault
said [] = Err Empty
said (first ∷ others) =
    if bytes_eq first (codes "uno") then uno others else with_command (command_named first) others

-- the one meaning of a text: the value of the message, or the first fault
unfoldable pub reading : List ℕ → Result ClientMessage MessageFault
reading text =
    if list_all is_blank text then Err Empty
    else (if nat_lt MESSAGE_LIMIT (length text) then Err TooLong
    else (if not (is_utf8 text) then Err NotUtf8 else said (words text)))
