-- What is seen of a host and of a keeper in memory.
use Rattle.std.specs.Prelude.{ℕ, ◌≡◌, true, List, Option, Some, Result}
use Rattle.std.specs.BTreeMap.{get_by_text}
use Rattle.outside.specs.Causes.{HasCause}
use Rattle.wopi_host.specs.declared.hosts.Host.{Host}
use Rattle.wopi_host.specs.declared.hosts.Asked.{Asked}
use Rattle.wopi_host.specs.declared.keepers.KeeperFault.{KeeperFault}
use Rattle.wopi_host.specs.declared.keepers.MemoryKeeper.{MemoryKeeper}
use Rattle.wopi_host.specs.Keepers.{Holdings, keeper_failed}
use Rattle.wopi_host.specs.Marks.{marks_in}
use Rattle.wopi_host.specs.Hosts.{HostAt, HostStays, Pages, Asking}

-- the content of each file in memory, by its id
abbrev pub contents_in : MemoryKeeper → List ℕ → Option (List ℕ)
contents_in keeper = get_by_text keeper.files

-- what a keeper in memory holds
abbrev pub held_in : MemoryKeeper → Holdings
held_in keeper = record { files = Some (contents_in keeper); accepted = keeper.accepted }

-- the keeper
abbrev pub keeper_of : {Q : Type 0} → Host Q → Q
keeper_of host = host.keeper

-- what its keeper holds
abbrev pub held_of : {Q : Type 0} → (Q → Holdings) → Host Q → Holdings
held_of holds host = holds host.keeper

-- the marks of each file, by its id
abbrev pub pages_of : {Q : Type 0} → Host Q → Pages
pages_of host = marks_in host.book

-- what it has, by what its keeper holds
abbrev pub host_at : {Q : Type 0} → (Q → Holdings) → Host Q → HostAt
host_at holds host = record { held = holds host.keeper; pages = marks_in host.book }

-- nothing that it has changed
abbrev pub StaysAt : {Q : Type 0} → (Q → Holdings) → Host Q → Host Q → Type 0
StaysAt holds old new = HostStays (host_at holds old) (host_at holds new)

-- the fault of a keeper comes exactly where its count of faults rose from one host to the other
abbrev pub FailsByKeeper : {Q A : Type 0} → (Q → ℕ) → Host Q → Host Q → Result A KeeperFault → Type 0
FailsByKeeper faults old new result =
    HasCause (faults old.keeper) (faults new.keeper) (keeper_failed result ≡ true)

-- what the code asks of a file
abbrev pub asking : Asked → Asking
asking a = record { file = a.file.now; contents = a.contents; request = a.request.now; now = a.moment }
