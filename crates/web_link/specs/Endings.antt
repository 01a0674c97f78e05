-- How errors end a link.
use Rattle.std.specs.Prelude.{◌≡◌, ◌≢◌, ◌⊎◌}
use Rattle.std.specs.IoError.{error_kind}
use Rattle.std.specs.declared.io.ErrorKind.TheVariants.{WouldBlock}
use Rattle.tungstenite.specs.declared.error.Error.{Error}
use Rattle.web_link.specs.declared.heard.Ending.{Ending}
use Rattle.web_link.specs.declared.heard.Ending.TheVariants.{Waits, NoMemory, Lost, Broken}

-- A stream that would wait ends nothing. A message that is too long, a text that is no UTF-8 and a
-- broken rule end it by the codes 1009, 1007 and 1002; any other error ends it without one.
abbrev pub EndsBy : Error → Ending → Type 0
EndsBy (Error.Io cause) ending =
    ((error_kind cause ≡ WouldBlock) × (ending ≡ Waits))
    ⊎ ((error_kind cause ≢ WouldBlock) × (ending ≡ Lost))
EndsBy Error.OutOfMemory ending = ending ≡ NoMemory
EndsBy (Error.Capacity cause) ending = ending ≡ Broken 1009
EndsBy Error.Utf8 ending = ending ≡ Broken 1007
EndsBy (Error.Protocol cause) ending = ending ≡ Broken 1002
EndsBy e ending = ending ≡ Lost
