-- What the client asks and what it reads in the host's response.
use Rattle.std.specs.Prelude.{ℕ, ◌≡◌, ◌≢◌, ◌⊎◌, false, List, [], ◌++◌, Some, None, Result, Ok, Err, option_and_then, unwrap_or, codes, IsUtf8}
use Rattle.serde_json.specs.Read.{read}
use Rattle.http_message.specs.declared.Method.TheVariants.{Get as GetMethod, Post}
use Rattle.http_message.specs.declared.Request.{Request}
use Rattle.http_message.specs.declared.Response.{Response}
use Rattle.outside.specs.declared.errands.Admission.{Admission}
use Rattle.outside.specs.declared.faults.StoreFault.{StoreFault}
use Rattle.outside.specs.declared.faults.StoreFault.TheVariants.{Conflict, Denied, Missing, BadAnswer, Wire, BadJson, Memory}
use Rattle.wopi_info.specs.Infos.{admitted}
use Rattle.wopi_client.specs.declared.asks.Ask.{Ask}
use Rattle.wopi_client.specs.declared.asks.Ask.TheVariants as Asks
use Rattle.wopi_client.specs.declared.asks.Told.{Told}
use Rattle.wopi_client.specs.declared.asks.Told.TheVariants.{Info, Content, Done}

-- the target that names a file, with the token
unfoldable pub file_target : List ℕ → List ℕ → List ℕ
file_target file token = codes "/wopi/files/" ++ file ++ codes "?access_token=" ++ token

-- the target that names its contents
unfoldable pub contents_target : List ℕ → List ℕ → List ℕ
contents_target file token = codes "/wopi/files/" ++ file ++ codes "/contents?access_token=" ++ token

-- the id of the client's lock on a file
unfoldable pub lock_id : List ℕ → List ℕ
lock_id file = codes "cool-" ++ file

-- a get
abbrev pub getting : List ℕ → Request
getting target = record { method = GetMethod; target = target; lock = None; over = None; old_lock = false; body = [] }

-- a post under the client's lock
abbrev pub posting : List ℕ → List ℕ → List ℕ → List ℕ → Request
posting target file over body = record { method = Post; target = target; lock = Some (lock_id file); over = Some over; old_lock = false; body = body }

-- the request that asks it
abbrev pub request_for : Ask → Request
request_for (Asks.Check file token) = getting (file_target file token)
request_for (Asks.Get file token) = getting (contents_target file token)
request_for (Asks.Lock file token) = posting (file_target file token) file (codes "LOCK") []
request_for (Asks.Refresh file token) = posting (file_target file token) file (codes "REFRESH_LOCK") []
request_for (Asks.Unlock file token) = posting (file_target file token) file (codes "UNLOCK") []
request_for (Asks.Put file token content) = posting (contents_target file token) file (codes "PUT") content

-- the body is the JSON that tells this
abbrev pub IsInfo : List ℕ → Admission → Type 0
IsInfo body a = IsUtf8 body × (option_and_then admitted (read body) ≡ Some a)

-- the body is no such JSON
abbrev pub IsNoInfo : List ℕ → Type 0
IsNoInfo body = IsUtf8 body → option_and_then admitted (read body) ≡ None

-- what the body of a 200 tells
abbrev pub Tells : Ask → List ℕ → Told → Type 0
Tells (Asks.Check file token) body (Info a) = IsInfo body a
Tells (Asks.Check file token) body (Content bytes) = ⊥
Tells (Asks.Check file token) body Done = ⊥
Tells (Asks.Get file token) body (Info a) = ⊥
Tells (Asks.Get file token) body (Content bytes) = bytes ≡ body
Tells (Asks.Get file token) body Done = ⊥
Tells (Asks.Lock file token) body told = told ≡ Done
Tells (Asks.Refresh file token) body told = told ≡ Done
Tells (Asks.Unlock file token) body told = told ≡ Done
Tells (Asks.Put file token content) body told = told ≡ Done

-- only a check wants JSON
abbrev pub WantsInfo : Ask → Type 0
WantsInfo (Asks.Check file token) = Unit {0}
WantsInfo (Asks.Get file token) = ⊥
WantsInfo (Asks.Lock file token) = ⊥
WantsInfo (Asks.Refresh file token) = ⊥
WantsInfo (Asks.Unlock file token) = ⊥
WantsInfo (Asks.Put file token content) = ⊥

-- a status that has no meaning for the client
abbrev pub IsOther : ℕ → Type 0
IsOther status = (status ≢ 200) × (status ≢ 401) × (status ≢ 404) × (status ≢ 409)

-- what a 200 tells besides that it was done
abbrev pub TellsMore : Ask → Type 0
TellsMore (Asks.Check file token) = Unit {0}
TellsMore (Asks.Get file token) = Unit {0}
TellsMore (Asks.Lock file token) = ⊥
TellsMore (Asks.Refresh file token) = ⊥
TellsMore (Asks.Unlock file token) = ⊥
TellsMore (Asks.Put file token content) = ⊥

-- memory is taken for the id of a conflict and for what a 200 tells; so a put that was answered with 200 is done
abbrev pub TakesMemory : Ask → ℕ → Type 0
TakesMemory ask status = (status ≡ 409) ⊎ ((status ≡ 200) × TellsMore ask)

-- what a refusal says of the response
abbrev pub Refuses : Ask → Response → StoreFault → Type 0
Refuses ask r (Conflict id) = (r.status ≡ 409) × (id ≡ unwrap_or r.lock [])
Refuses ask r Denied = r.status ≡ 401
Refuses ask r Missing = r.status ≡ 404
Refuses ask r (BadAnswer status) = (r.status ≡ status) × IsOther status
Refuses ask r (Wire fault) = ⊥
Refuses ask r BadJson = (r.status ≡ 200) × WantsInfo ask × IsNoInfo r.body
Refuses ask r Memory = TakesMemory ask r.status

-- what the client reads in the response
abbrev pub Understands : Ask → Response → Result Told StoreFault → Type 0
Understands ask r (Ok told) = (r.status ≡ 200) × Tells ask r.body told
Understands ask r (Err fault) = Refuses ask r fault

-- what a check's body tells
abbrev pub InfoTold : List ℕ → Result Told StoreFault → Type 0
InfoTold body (Ok (Info a)) = IsInfo body a
InfoTold body (Ok (Content bytes)) = ⊥
InfoTold body (Ok Done) = ⊥
InfoTold body (Err (Conflict id)) = ⊥
InfoTold body (Err Denied) = ⊥
InfoTold body (Err Missing) = ⊥
InfoTold body (Err (BadAnswer status)) = ⊥
InfoTold body (Err (Wire fault)) = ⊥
InfoTold body (Err BadJson) = IsNoInfo body
InfoTold body (Err Memory) = Unit {0}
