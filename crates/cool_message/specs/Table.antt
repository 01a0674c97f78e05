-- The table of commands: the words of each with the kinds of their values, in the table's order, and
-- what stands for an optional word that is left out.
use Rattle.std.specs.Prelude.{ℕ, List, [], ◌∷◌, Option, Some, None, codes, map}
use Rattle.cool_message.specs.declared.fault.Word.{Word}
use Rattle.cool_message.specs.declared.fault.Word.TheVariants as word
use Rattle.cool_message.specs.declared.table.Command.{Command}
use Rattle.cool_message.specs.declared.table.Command.TheVariants as command
use Rattle.cool_message.specs.declared.table.Kind.{Kind}
use Rattle.cool_message.specs.declared.table.Kind.TheVariants as kind
use Rattle.cool_message.specs.declared.table.Field.{Field}

-- a word whose value is of this kind
abbrev pub field : Word → Kind → Field
field name of = record { word = name; kind = of }

-- words that are numbers
abbrev pub numbers_in : List Word → List Field
numbers_in names = map (λ name. field name kind.Number) names

-- the words of a tile, where the positions are of these kinds
abbrev pub tile_fields : Kind → Kind → List Field
tile_fields across down =
    field word.Part kind.Number ∷ field word.Width kind.Number ∷ field word.Height kind.Number
    ∷ field word.TilePosX across ∷ field word.TilePosY down
    ∷ field word.TileWidth kind.Number ∷ field word.TileHeight kind.Number
    ∷ field word.NViewId kind.Look ∷ []

-- the words of a command
abbrev pub fields_of : Command → List Field
fields_of command.CoolClient = []
fields_of command.Load = field word.Url kind.Address ∷ []
fields_of command.Key = field word.«Type» kind.KeyType ∷ numbers_in (word.Char ∷ word.Key ∷ [])
fields_of command.Mouse =
    field word.«Type» kind.MouseType
    ∷ numbers_in (word.X ∷ word.Y ∷ word.Count ∷ word.Buttons ∷ word.Modifier ∷ [])
fields_of command.Tile = tile_fields kind.Number kind.Number
fields_of command.TileCombine = tile_fields kind.Numbers kind.AsManyNumbers
fields_of command.CancelTiles = []
fields_of command.VisibleArea = numbers_in (word.X ∷ word.Y ∷ word.Width ∷ word.Height ∷ [])
fields_of command.Zoom =
    field word.TilePixelWidth kind.Number ∷ field word.TilePixelHeight kind.Number
    ∷ field word.TileTwipWidth kind.Number ∷ field word.TileTwipHeight kind.Number
    ∷ field word.NViewId kind.Look ∷ []
fields_of command.SetPart = numbers_in (word.Part ∷ [])
fields_of command.TileProcessed = field word.Wids kind.LongNumbers ∷ []
fields_of command.Save = field word.KeepEdit kind.Flag ∷ field word.SkipUnmodified kind.Flag ∷ []

-- what stands for an optional word that is left out; the other words are required
abbrev pub default_of : Word → Option (List ℕ)
default_of word.Count = Some (codes "1")
default_of word.Buttons = Some (codes "1")
default_of word.Modifier = Some (codes "0")
default_of word.NViewId = Some (codes "0")
default_of word.KeepEdit = Some (codes "0")
default_of word.SkipUnmodified = Some (codes "0")
default_of name = None
