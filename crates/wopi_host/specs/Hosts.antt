-- The answer of the host, and what it has after it.
use Rattle.std.specs.Prelude.{ℕ, ◌+◌, ◌≡◌, Bool, true, false, not, ◌&&◌, ◌==◌, List, [], length, Option, Some, None, unwrap_or, if◌then◌else◌, codes, bytes_eq, nat_eq, ◌⊎◌, Result, Ok, Err}
use Rattle.std.specs.Fmt.{decimal}
use Rattle.http_message.specs.declared.Request.{Request}
use Rattle.http_message.specs.declared.Response.{Response}
use Rattle.wopi_info.specs.Infos.{info_text}
use Rattle.http_message.specs.Statuses.{is_bodiless}
use Rattle.wopi_host.specs.declared.table.Action.{Action}
use Rattle.wopi_host.specs.declared.table.Action.TheVariants.{Refused, Info, Content, Sets, Removes, TellsLock, Replaces, Conflict}
use Rattle.wopi_host.specs.declared.marks.Lock.{Lock}
use Rattle.wopi_host.specs.declared.marks.Marks.{Marks}
use Rattle.wopi_host.specs.Targets.{Named, Nothing, TheFile, TheContents, named_at, path_of, target_right}
use Rattle.wopi_host.specs.Table.{operation_of, by_operation}
use Rattle.wopi_host.specs.Keepers.{Files, Holdings, IsKept, Keeps, SameHoldings}
use Rattle.wopi_host.specs.Marks.{counting, marks_after}

-- the marks of each file, by its id
abbrev pub Pages : Type 0
Pages = List ℕ → Marks

-- each file has the marks that it had
abbrev pub SamePages : Pages → Pages → Type 0
SamePages old new = (id : List ℕ) → new id ≡ old id

-- this file has these marks, and all others have theirs
abbrev pub WritesPage : Pages → List ℕ → Marks → Pages → Type 0
WritesPage old file marks new = (id : List ℕ) → new id ≡ (if bytes_eq id file then marks else old id)

-- this file has this lock, and all else stays
abbrev pub SetsLock : Pages → List ℕ → Option Lock → Pages → Type 0
SetsLock old file lock new = WritesPage old file (record (old file) { lock = lock }) new

-- this file has one put more, and all else stays
abbrev pub CountsPut : Pages → List ℕ → Pages → Type 0
CountsPut old file new = WritesPage old file (record (old file) { puts = (old file).puts + 1 }) new

-- what a host has: what its keeper holds, and the marks of each file
pub record HostAt : Type 0 where
  pub held : Holdings
  pub pages : Pages

-- the same, where the files are told
abbrev pub told_host : Files → ℕ → Pages → HostAt
told_host files accepted pages =
    record { held = record { files = Some files; accepted = accepted }; pages = pages }

-- nothing of it changed
pub record HostStays (old new : HostAt) : Type 0 where
  pub held : SameHoldings old.held new.held
  pub pages : SamePages old.pages new.pages

-- what is asked at a moment of a file, or of its contents
pub record Asking : Type 0 where
  pub file : List ℕ
  pub contents : Bool
  pub request : Request
  pub now : ℕ

-- the id of the lock that counts
abbrev pub current_lock : Asking → HostAt → Option (List ℕ)
current_lock a h = counting (h.pages a.file).lock a.now

-- a token without a right comes before a missing file, and that before the rest
abbrev pub action_at : Bool → Option Bool → Option (List ℕ) → Request → Option (List ℕ) → Action
action_at contents None content r current = Refused 401
action_at contents (Some writer) None r current = Refused 404
action_at contents (Some writer) (Some bytes) r current =
    by_operation (operation_of r.method contents r.over) r.old_lock writer r.lock current (length bytes == 0)

-- the status
abbrev pub status_of : Action → ℕ
status_of (Refused status) = status
status_of Info = 200
status_of Content = 200
status_of Sets = 200
status_of Removes = 200
status_of TellsLock = 200
status_of Replaces = 200
status_of Conflict = 409

-- a conflict and GetLock tell the id of the lock that counts, empty where there is none
abbrev pub lock_told : Action → Option (List ℕ) → Option (List ℕ)
lock_told (Refused status) current = None
lock_told Info current = None
lock_told Content current = None
lock_told Sets current = None
lock_told Removes current = None
lock_told TellsLock current = Some (unwrap_or current [])
lock_told Replaces current = None
lock_told Conflict current = Some (unwrap_or current [])

-- the name of the token's user
abbrev pub user_of : Bool → List ℕ
user_of writer = if writer then codes "rw" else codes "ro"

-- what CheckFileInfo tells of a file with this content and so many puts
abbrev pub info_for : List ℕ → List ℕ → Bool → ℕ → List ℕ
info_for file content writer puts =
    info_text file (length content) writer (user_of writer) (decimal puts)

-- the body
abbrev pub body_of : Action → List ℕ → List ℕ → Bool → ℕ → List ℕ
body_of (Refused status) file content writer puts = []
body_of Info file content writer puts = info_for file content writer puts
body_of Content file content writer puts = content
body_of Sets file content writer puts = []
body_of Removes file content writer puts = []
body_of TellsLock file content writer puts = []
body_of Replaces file content writer puts = []
body_of Conflict file content writer puts = []

-- the response
abbrev pub response_for : Action → List ℕ → List ℕ → Bool → Option (List ℕ) → ℕ → Response
response_for action file content writer current puts = record {
  status = status_of action;
  lock = lock_told action current;
  body = body_of action file content writer puts;
}

-- a response with a status alone
abbrev pub bare : ℕ → Response
bare status = record { status = status; lock = None; body = [] }

-- a response with a body
abbrev pub with_content : List ℕ → Response
with_content body = record { status = 200; lock = None; body = body }

-- a response that tells the id of the lock that counts, empty where there is none
abbrev pub with_current : ℕ → Option (List ℕ) → Response
with_current status current = record { status = status; lock = Some (unwrap_or current []); body = [] }

-- what the keeper holds after the action: a replaced content by one keep, or what it held
abbrev pub HeldAfter : Action → Holdings → List ℕ → List ℕ → Holdings → Type 0
HeldAfter (Refused status) old file body new = SameHoldings old new
HeldAfter Info old file body new = SameHoldings old new
HeldAfter Content old file body new = SameHoldings old new
HeldAfter Sets old file body new = SameHoldings old new
HeldAfter Removes old file body new = SameHoldings old new
HeldAfter TellsLock old file body new = SameHoldings old new
HeldAfter Replaces old file body new = Keeps old file body new
HeldAfter Conflict old file body new = SameHoldings old new

-- what the host does at a file with this content, or without one
abbrev pub chosen_action : Option Bool → Asking → Option (List ℕ) → HostAt → Action
chosen_action right a content h = action_at a.contents right content a.request (current_lock a h)

-- the response to it
abbrev pub told_response : Option Bool → Asking → Option (List ℕ) → HostAt → Action → Response
told_response right a content h action =
    response_for action a.file (unwrap_or content []) (unwrap_or right false) (current_lock a h)
    (h.pages a.file).puts

-- the file's marks after it
abbrev pub MarksAfter : Asking → HostAt → Action → HostAt → Type 0
MarksAfter a old action new =
    WritesPage old.pages a.file (marks_after action (old.pages a.file) a.request.lock a.now) new.pages

-- what the host has after it
pub record ActsAt (a : Asking) (old : HostAt) (action : Action) (new : HostAt) : Type 0 where
  pub kept : HeldAfter action old.held a.file a.request.body new.held
  pub marked : MarksAfter a old action new

-- the table's answer at a file, and what the host has after it
pub record AnswersAt (right : Option Bool) (a : Asking) (old : HostAt) (response : Response)
    (new : HostAt) : Type 0 where
  pub content : Option (List ℕ)
  pub action : Action
  pub kept : IsKept old.held a.file content
  pub chosen : action ≡ chosen_action right a content old
  pub told : response ≡ told_response right a content old action
  pub acts : ActsAt a old action new

-- the answer where the path names nothing, or by the table
abbrev pub Answers : Named → Option Bool → HostAt → Request → ℕ → Response → HostAt → Type 0
Answers Nothing right old r now response new = (response ≡ bare 404) × HostStays old new
Answers (TheFile file) right old r now response new =
    AnswersAt right (record { file = file; contents = false; request = r; now = now }) old response new
Answers (TheContents file) right old r now response new =
    AnswersAt right (record { file = file; contents = true; request = r; now = now }) old response new

-- a request is answered at a moment by the table
abbrev pub TableAnswers : HostAt → Request → ℕ → Response → HostAt → Type 0
TableAnswers old r now response new =
    Answers (named_at (path_of r.target)) (target_right r.target) old r now response new

-- by the table, or with 500, which changes nothing
abbrev pub HostAnswers : HostAt → Request → ℕ → Response → HostAt → Type 0
HostAnswers old r now response new =
    TableAnswers old r now response new ⊎ ((response ≡ bare 500) × HostStays old new)

-- a status that is not that of a failed keeper, and that has a body
abbrev pub is_ordinary : ℕ → Bool
is_ordinary status = not (nat_eq status 500) && not (is_bodiless status)

-- the same of a response
abbrev pub IsOrdinary : Response → Type 0
IsOrdinary r = is_ordinary r.status ≡ true

-- the answer is 500, which the table never gives
abbrev pub host_failed : {E : Type 0} → Result Response E → Bool
host_failed (Ok r) = nat_eq r.status 500
host_failed (Err e) = false
