-- The host's table: what each operation does to a file, by its lock.
use Rattle.std.specs.Prelude.{ℕ, Bool, true, false, ◌&&◌, not, nat_le, List, length, Option, Some, None, if◌then◌else◌, codes, bytes_eq}
use Rattle.std.specs.List.{list_all}
use Rattle.http_message.specs.declared.Method.{Method}
use Rattle.http_message.specs.declared.Method.TheVariants.{Get, Post, Other}
use Rattle.wopi_host.specs.declared.table.TheConstants.{LOCK_LIMIT}
use Rattle.wopi_host.specs.declared.table.Operation.{Operation}
use Rattle.wopi_host.specs.declared.table.Operation.TheVariants as Asks
use Rattle.wopi_host.specs.declared.table.Held.{Held}
use Rattle.wopi_host.specs.declared.table.Held.TheVariants.{NoLock, TheSame, Another}
use Rattle.wopi_host.specs.declared.table.Action.{Action}
use Rattle.wopi_host.specs.declared.table.Action.TheVariants.{Refused, Info, Content, Sets, Removes, TellsLock, Replaces, Conflict}

-- the operation that `X-WOPI-Override` names at a file
unfoldable pub file_operation : List ℕ → Option Operation
file_operation over =
    if bytes_eq over (codes "LOCK") then Some Asks.Lock
    else (if bytes_eq over (codes "UNLOCK") then Some Asks.Unlock
    else (if bytes_eq over (codes "REFRESH_LOCK") then Some Asks.RefreshLock
    else (if bytes_eq over (codes "GET_LOCK") then Some Asks.GetLock else None)))

-- the same at its contents
unfoldable pub contents_operation : List ℕ → Option Operation
contents_operation over = if bytes_eq over (codes "PUT") then Some Asks.PutFile else None

-- a post asks what the override names
abbrev pub posted : Bool → Option (List ℕ) → Option Operation
posted contents None = None
posted contents (Some over) = if contents then contents_operation over else file_operation over

-- a get has no override
abbrev pub gotten : Bool → Option (List ℕ) → Option Operation
gotten contents None = if contents then Some Asks.GetFile else Some Asks.CheckFileInfo
gotten contents (Some over) = None

-- the operation that method and override name
abbrev pub operation_of : Method → Bool → Option (List ℕ) → Option Operation
operation_of Get contents over = gotten contents over
operation_of Post contents over = posted contents over
operation_of Other contents over = None

-- these want a token that may write
abbrev pub wants_right : Operation → Bool
wants_right Asks.CheckFileInfo = false
wants_right Asks.GetFile = false
wants_right Asks.Lock = true
wants_right Asks.RefreshLock = true
wants_right Asks.Unlock = true
wants_right Asks.GetLock = false
wants_right Asks.PutFile = true

-- these want the id of a lock
abbrev pub wants_id : Operation → Bool
wants_id Asks.CheckFileInfo = false
wants_id Asks.GetFile = false
wants_id Asks.Lock = true
wants_id Asks.RefreshLock = true
wants_id Asks.Unlock = true
wants_id Asks.GetLock = false
wants_id Asks.PutFile = false

-- a printable ASCII character
abbrev pub is_printable : ℕ → Bool
is_printable b = nat_le 32 b && nat_le b 126

-- the id of a lock is 1 to `LOCK_LIMIT` printable ASCII characters
unfoldable pub is_lock_text : List ℕ → Bool
is_lock_text id = nat_le 1 (length id) && nat_le (length id) LOCK_LIMIT && list_all is_printable id

-- there is one
abbrev pub is_lock_id : Option (List ℕ) → Bool
is_lock_id None = false
is_lock_id (Some id) = is_lock_text id

-- how the request's lock stands to the one that counts; a missing one is another
abbrev pub held_for : Option (List ℕ) → Option (List ℕ) → Held
held_for None asked = NoLock
held_for (Some id) None = Another
held_for (Some id) (Some asked) = if bytes_eq id asked then TheSame else Another

-- the table, where the flag says that the file has no byte
abbrev pub table : Operation → Held → Bool → Action
table Asks.CheckFileInfo held empty = Info
table Asks.GetFile held empty = Content
table Asks.Lock NoLock empty = Sets
table Asks.Lock TheSame empty = Sets
table Asks.Lock Another empty = Conflict
table Asks.RefreshLock NoLock empty = Conflict
table Asks.RefreshLock TheSame empty = Sets
table Asks.RefreshLock Another empty = Conflict
table Asks.Unlock NoLock empty = Conflict
table Asks.Unlock TheSame empty = Removes
table Asks.Unlock Another empty = Conflict
table Asks.GetLock held empty = TellsLock
table Asks.PutFile NoLock empty = if empty then Replaces else Conflict
table Asks.PutFile TheSame empty = Replaces
table Asks.PutFile Another empty = Conflict

-- 400 where an operation that wants an id has none
abbrev pub by_id : Operation → Option (List ℕ) → Option (List ℕ) → Bool → Action
by_id op asked current empty =
    if wants_id op && not (is_lock_id asked) then Refused 400 else table op (held_for current asked) empty

-- 401 where a token that may not write asks what wants it
abbrev pub by_right : Operation → Bool → Option (List ℕ) → Option (List ℕ) → Bool → Action
by_right op writer asked current empty =
    if wants_right op && not writer then Refused 401 else by_id op asked current empty

-- 501 where no operation is named or the old lock is there
abbrev pub by_operation : Option Operation → Bool → Bool → Option (List ℕ) → Option (List ℕ) → Bool → Action
by_operation None old_lock writer asked current empty = Refused 501
by_operation (Some op) old_lock writer asked current empty =
    if old_lock then Refused 501 else by_right op writer asked current empty
