-- The names of a message's words, and of the commands whose words have names.
use Rattle.std.specs.Prelude.{ℕ, List, [], ◌∷◌, Option, codes}
use Rattle.std.specs.List.{find}
use Rattle.std.specs.Str.{bytes_eq}
use Rattle.cool_message.specs.declared.fault.Word.{Word}
use Rattle.cool_message.specs.declared.fault.Word.TheVariants as word
use Rattle.cool_message.specs.declared.table.Command.{Command}
use Rattle.cool_message.specs.declared.table.Command.TheVariants as command

-- a word's name as it stands in a message, in front of its equals sign
abbrev pub name_of : Word → List ℕ
name_of word.Url = codes "url"
name_of word.«Type» = codes "type"
name_of word.Char = codes "char"
name_of word.Key = codes "key"
name_of word.X = codes "x"
name_of word.Y = codes "y"
name_of word.Count = codes "count"
name_of word.Buttons = codes "buttons"
name_of word.Modifier = codes "modifier"
name_of word.Part = codes "part"
name_of word.Width = codes "width"
name_of word.Height = codes "height"
name_of word.TilePosX = codes "tileposx"
name_of word.TilePosY = codes "tileposy"
name_of word.TileWidth = codes "tilewidth"
name_of word.TileHeight = codes "tileheight"
name_of word.TilePixelWidth = codes "tilepixelwidth"
name_of word.TilePixelHeight = codes "tilepixelheight"
name_of word.TileTwipWidth = codes "tiletwipwidth"
name_of word.TileTwipHeight = codes "tiletwipheight"
name_of word.NViewId = codes "nviewid"
name_of word.Wids = codes "wids"
name_of word.KeepEdit = codes "dontTerminateEdit"
name_of word.SkipUnmodified = codes "dontSaveIfUnmodified"
name_of word.Command = codes "command"

-- the first word of a message of this command
abbrev pub command_text : Command → List ℕ
command_text command.CoolClient = codes "coolclient"
command_text command.Load = codes "load"
command_text command.Key = codes "key"
command_text command.Mouse = codes "mouse"
command_text command.Tile = codes "tile"
command_text command.TileCombine = codes "tilecombine"
command_text command.CancelTiles = codes "canceltiles"
command_text command.VisibleArea = codes "clientvisiblearea"
command_text command.Zoom = codes "clientzoom"
command_text command.SetPart = codes "setclientpart"
command_text command.TileProcessed = codes "tileprocessed"
command_text command.Save = codes "save"

abbrev pub all_commands : List Command
all_commands =
    command.CoolClient ∷ command.Load ∷ command.Key ∷ command.Mouse ∷ command.Tile ∷ command.TileCombine
    ∷ command.CancelTiles ∷ command.VisibleArea ∷ command.Zoom ∷ command.SetPart ∷ command.TileProcessed
    ∷ command.Save ∷ []

-- the command that a message's first word names
abbrev pub command_named : List ℕ → Option Command
command_named first = find (λ command. bytes_eq (command_text command) first) all_commands
