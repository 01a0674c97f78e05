-- The calls of a store over a host.
use Rattle.std.specs.Prelude.{ℕ, ◌≡◌, ◌-◌, ◌⊎◌, Bool, true, false, nat_lt, List, map, Result, Ok}
use Rattle.std.specs.Prelude.{Err}
use Rattle.outside.specs.declared.errands.Errand.{Errand}
use Rattle.outside.specs.declared.faults.WireFault.TheVariants.{WriteFault}
use Rattle.outside.specs.declared.faults.StoreFault.{StoreFault}
use Rattle.outside.specs.declared.faults.StoreFault.TheVariants.{Wire, Memory}
use Rattle.outside.specs.Causes.{HasCause}
use Rattle.outside.specs.Stores.{store_failed, StoreCall, Admits, Fetches as FetchesCall}
use Rattle.outside.specs.Stores.{Puts as PutsCall}
use Rattle.outside.specs.Stores.{Refreshes, Unlocks}
use Rattle.wopi_client.specs.declared.asks.Ask.{Ask}
use Rattle.wopi_client.specs.declared.asks.Ask.TheVariants as asked
use Rattle.wopi_client.specs.declared.asks.Told.{Told}
use Rattle.wopi_host.specs.Hosts.{HostAt, HostStays}
use Rattle.host_store.specs.Exchanges.{Exchanges}
use Rattle.host_store.specs.declared.notes.Noted.{Noted}

-- What a store has: its host, the moment, how many of the next wires fail, and its count of faults.
pub record StoreAt : Type 0 where
  pub host : HostAt
  pub now : ℕ
  pub failing : ℕ
  pub faults : ℕ

-- A wire that is to fail fails at its first send, and the host stays; else there is one exchange.
abbrev pub AskedIf : Bool → StoreAt → Ask → Result Told StoreFault → StoreAt → Type 0
AskedIf true old ask result new =
    (result ≡ Err (Wire WriteFault)) × HostStays old.host new.host
AskedIf false old ask result new = Exchanges old.host ask old.now result new.host

-- One operation, over one wire each way. The count rises exactly where the answer is a fault of a
-- wire.
pub record AsksOnce (old : StoreAt) (ask : Ask) (result : Result Told StoreFault)
    (new : StoreAt) : Type 0 where
  pub said : AskedIf (nat_lt 0 old.failing) old ask result new
  pub now : new.now ≡ old.now
  pub failing : new.failing ≡ old.failing - 1
  pub cause : HasCause old.faults new.faults (store_failed result ≡ true)

-- The same where no memory may be left to ask.
abbrev pub Asks : StoreAt → Ask → Result Told StoreFault → StoreAt → Type 0
Asks old ask result new = AsksOnce old ask result new ⊎ ((result ≡ Err Memory) × (new ≡ old))

-- What comes after a first answer: the next ask after a success, and nothing after a refusal.
abbrev pub After : (first last : Result Told StoreFault) → Type 0 → (mid new : StoreAt) → Type 0
After (Ok told) last next mid new = next
After (Err fault) last next mid new = (last ≡ Err fault) × (new ≡ mid)

-- Two operations, the second one after a success of the first.
abbrev pub AsksTwice : StoreAt → Ask → Ask → Result Told StoreFault → StoreAt → Type 0
AsksTwice old one two result new =
    (mid : StoreAt) × (first : Result Told StoreFault) × Asks old one first mid
    × After first result (Asks mid two result new) mid new

-- A fetch gets the content; where it is to be written, the file is locked first.
abbrev pub Fetches : StoreAt → (file token : List ℕ) → Bool → Result Told StoreFault → StoreAt
    → Type 0
Fetches old file token false result new = Asks old (asked.Get file token) result new
Fetches old file token true result new =
    AsksTwice old (asked.Lock file token) (asked.Get file token) result new

-- A put locks the file first.
abbrev pub Puts : StoreAt → Errand → Result Told StoreFault → StoreAt → Type 0
Puts old errand result new =
    AsksTwice old (asked.Lock errand.file errand.token)
    (asked.Put errand.file errand.token errand.content) result new

-- The call that was noted.
abbrev pub call_of : Noted × Unit {0} → StoreCall
call_of (Noted.Admits file token answer, u) = Admits file token answer
call_of (Noted.Fetches file token write answer, u) = FetchesCall file token write answer
call_of (Noted.Puts errand answer, u) = PutsCall errand answer
call_of (Noted.Refreshes file token answer, u) = Refreshes file token answer
call_of (Noted.Unlocks file token answer, u) = Unlocks file token answer

-- The calls, in order.
abbrev pub calls_of : List (Noted × Unit {0}) → List StoreCall
calls_of notes = map call_of notes
