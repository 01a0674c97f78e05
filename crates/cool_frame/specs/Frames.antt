-- The bytes of each frame.
use Rattle.std.specs.Prelude.{ℕ, List, [], ◌++◌, Bool, true, false, nat_eq, Option, Some, None, codes, if◌then◌else◌}
use Rattle.std.specs.Fmt.{decimal}
use Rattle.cool_base.specs.Points.{Rectangle, Extent}
use Rattle.cool_base.specs.declared.ids.ViewId.{ViewId}
use Rattle.cool_base.specs.declared.ids.Wid.{Wid}
use Rattle.kit_trait.specs.declared.values.KitName.{KitName}
use Rattle.kit_trait.specs.declared.values.KitName.TheVariants.{Patch, Sheet}
use Rattle.tile_key.specs.Places.{Place}
use Rattle.cool_frame.specs.declared.frame.Frame.{Frame}
use Rattle.cool_frame.specs.declared.frame.Frame.TheVariants.{Server, Status, Invalidate, SaveDone, Error, Tile}
use Rattle.cool_frame.specs.declared.kind.ErrorKind.{ErrorKind}
use Rattle.cool_frame.specs.declared.kind.ErrorKind.TheVariants.{BadMessage, NotLoaded, AlreadyLoaded, BadUrl, LoadFailed, DocsFull, BookFull, MailFull, DocGone, BadFile, ViewsFull, ReadOnly, InputsFull, SavesFull, BadTile, TooLarge, AskedFull, SaveFailed}

-- a kind of document as frames name it
abbrev pub kit_text : KitName → List ℕ
kit_text Patch = codes "patch"
kit_text Sheet = codes "sheet"

-- a kind of error as frames name it
abbrev pub kind_text : ErrorKind → List ℕ
kind_text BadMessage = codes "badmessage"
kind_text NotLoaded = codes "notloaded"
kind_text AlreadyLoaded = codes "alreadyloaded"
kind_text BadUrl = codes "badurl"
kind_text LoadFailed = codes "loadfailed"
kind_text DocsFull = codes "docsfull"
kind_text BookFull = codes "bookfull"
kind_text MailFull = codes "mailfull"
kind_text DocGone = codes "docgone"
kind_text BadFile = codes "badfile"
kind_text ViewsFull = codes "viewsfull"
kind_text ReadOnly = codes "readonly"
kind_text InputsFull = codes "inputsfull"
kind_text SavesFull = codes "savesfull"
kind_text BadTile = codes "badtile"
kind_text TooLarge = codes "toolarge"
kind_text AskedFull = codes "askedfull"
kind_text SaveFailed = codes "savefailed"

-- yes and no as a digit, and as a word
abbrev pub digit_of : Bool → List ℕ
digit_of true = codes "1"
digit_of false = codes "0"

abbrev pub word_of : Bool → List ℕ
word_of true = codes "true"
word_of false = codes "false"

-- the daemon's greeting
abbrev pub server_bytes : List ℕ
server_bytes = codes "coolserver {\"Version\":\"profile-1\",\"Protocol\":\"0.1\"}"

-- the first words of a status: the kit, the count of parts, the size of part 0
unfoldable pub status_document : KitName → ℕ → Extent → List ℕ
status_document kit parts size =
    codes "status: type=" ++ (kit_text kit ++ (codes " parts=" ++ (decimal parts
    ++ (codes " current=0 width=" ++ (decimal size.w ++ (codes " height=" ++ decimal size.h))))))

-- the words behind them: the view's number, and whether it only reads
unfoldable pub status_view : ViewId → Bool → List ℕ
status_view view readonly = codes " viewid=" ++ (decimal view.0 ++ (codes " readonly=" ++ digit_of readonly))

-- the first words of an invalidation: the part and the least point
unfoldable pub invalidate_place : ℕ → Rectangle → List ℕ
invalidate_place part rect =
    codes "invalidatetiles: part=" ++ (decimal part ++ (codes " x=" ++ (decimal rect.x ++ (codes " y=" ++ decimal rect.y))))

-- the words behind them: the width and the height
unfoldable pub invalidate_size : Rectangle → List ℕ
invalidate_size rect = codes " width=" ++ (decimal rect.w ++ (codes " height=" ++ decimal rect.h))

-- the answer to a save
unfoldable pub saved_bytes : ℕ → Bool → List ℕ
saved_bytes inputs put =
    codes "unocommandresult: {\"commandName\":\".uno:Save\",\"success\":true,\"inputs\":" ++ (decimal inputs
    ++ (codes ",\"put\":" ++ (word_of put ++ codes "}")))

-- a refusal without its code
unfoldable pub error_head : List ℕ → ErrorKind → List ℕ
error_head cmd kind = codes "error: cmd=" ++ (cmd ++ (codes " kind=" ++ kind_text kind))

-- the code behind it, where there is one
unfoldable pub error_code : Option ℕ → List ℕ
error_code None = []
error_code (Some code) = codes " code=" ++ decimal code

-- the first words of a tile: the part, the pixels
unfoldable pub tile_pixels : Place → List ℕ
tile_pixels key =
    codes "tile: part=" ++ (decimal key.part ++ (codes " width=" ++ (decimal key.width ++ (codes " height=" ++ decimal key.height))))

-- the next words: the place and the size in twips
unfoldable pub tile_twips : Place → List ℕ
tile_twips key =
    codes " tileposx=" ++ (decimal key.posx ++ (codes " tileposy=" ++ (decimal key.posy
    ++ (codes " tilewidth=" ++ (decimal key.tilewidth ++ (codes " tileheight=" ++ decimal key.tileheight))))))

-- the word of a look, which stands where it is 1
unfoldable pub look_text : ℕ → List ℕ
look_text n = if nat_eq n 1 then codes " nviewid=1" else []

-- the last words: the version and the number, and the newline
unfoldable pub tile_numbers : ℕ → Wid → List ℕ
tile_numbers ver wid = codes " ver=" ++ (decimal ver ++ (codes " wid=" ++ (decimal wid.0 ++ codes "\n")))

-- the line of a tile with its newline
unfoldable pub tile_line : Place → ℕ → Wid → List ℕ
tile_line key ver wid = ((tile_pixels key ++ tile_twips key) ++ look_text key.nviewid) ++ tile_numbers ver wid

-- the bytes of a frame
unfoldable pub frame_bytes : Frame → List ℕ
frame_bytes Server = server_bytes
frame_bytes (Status kit parts size view readonly) = status_document kit parts size ++ status_view view readonly
frame_bytes (Invalidate part rect) = invalidate_place part rect ++ invalidate_size rect
frame_bytes (SaveDone inputs put) = saved_bytes inputs put
frame_bytes (Error cmd kind code) = error_head cmd kind ++ error_code code
frame_bytes (Tile key ver wid pixels) = tile_line key ver wid ++ pixels
