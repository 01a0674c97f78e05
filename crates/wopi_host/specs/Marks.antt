-- The locks and counts of puts that a host keeps.
use Rattle.std.specs.Prelude.{ℕ, ◌+◌, ◌-◌, ◌^◌, min, nat_lt, List, [], Option, Some, None, unwrap_or, if◌then◌else◌, String}
use Rattle.std.specs.BTreeMap.{BTreeMap, get_by_text}
use Rattle.wopi_host.specs.declared.hosts.TheConstants.{LOCK_SECONDS}
use Rattle.wopi_host.specs.declared.marks.Lock.{Lock}
use Rattle.wopi_host.specs.declared.marks.Marks.{Marks}
use Rattle.wopi_host.specs.declared.table.Action.{Action}
use Rattle.wopi_host.specs.declared.table.Action.TheVariants.{Refused, Info, Content, Sets, Removes, TellsLock, Replaces, Conflict}

-- no lock and no put
abbrev pub unmarked : Marks
unmarked = record { lock = None; puts = 0 }

-- the marks of a file
abbrev pub marks_in : {Y : Type 0} → BTreeMap (String Y) Marks → List ℕ → Marks
marks_in book file = unwrap_or (get_by_text book file) unmarked

-- the id of the lock, where it counts: before its end
abbrev pub counting : Option Lock → ℕ → Option (List ℕ)
counting None now = None
counting (Some lock) now = if nat_lt now lock.end then Some lock.id else None

-- a lock that is set or refreshed ends so many seconds later
abbrev pub lock_end : ℕ → ℕ
lock_end now = min (now + LOCK_SECONDS) (2 ^ 64 - 1)

-- the lock of this id, set at this moment
abbrev pub lock_of : List ℕ → ℕ → Lock
lock_of id now = record { id = id; end = lock_end now }

-- the marks behind the action
abbrev pub marks_after : Action → Marks → Option (List ℕ) → ℕ → Marks
marks_after (Refused status) marks asked now = marks
marks_after Info marks asked now = marks
marks_after Content marks asked now = marks
marks_after Sets marks asked now = record marks { lock = Some (lock_of (unwrap_or asked []) now) }
marks_after Removes marks asked now = record marks { lock = None }
marks_after TellsLock marks asked now = marks
marks_after Replaces marks asked now = record marks { puts = marks.puts + 1 }
marks_after Conflict marks asked now = marks
