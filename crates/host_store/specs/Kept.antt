-- What is seen of a store over a host.
use Rattle.std.specs.Prelude.{◌≡◌}
use Rattle.wopi_host.specs.declared.hosts.Host.{Host}
use Rattle.wopi_host.specs.declared.keepers.MemoryKeeper.{MemoryKeeper}
use Rattle.wopi_host.specs.Hosts.{HostAt, Pages}
use Rattle.wopi_host.specs.Keepers.{Holdings}
use Rattle.wopi_host.specs.Kept.{held_in, host_at, keeper_of, pages_of}
use Rattle.host_store.specs.declared.stores.HostStore.{HostStore}
use Rattle.host_store.specs.Calls.{StoreAt}

-- What a host in memory has: the files with their contents, how many keeps were accepted, and the
-- marks of each file.
abbrev pub memory_host : Host MemoryKeeper → HostAt
memory_host host = host_at held_in host

-- What the store has.
abbrev pub store_at : HostStore → StoreAt
store_at store = record {
  host = memory_host store.host;
  now = store.moment;
  failing = store.failing;
  faults = store.faults;
}

-- What its host's keeper holds.
abbrev pub held_by : HostStore → Holdings
held_by store = held_in (keeper_of store.host)

-- The marks of each file.
abbrev pub pages_in : HostStore → Pages
pages_in store = pages_of store.host

-- All but its host stays.
pub record StaysBeside (old new : HostStore) : Type 0 where
  pub moment : new.moment ≡ old.moment
  pub failing : new.failing ≡ old.failing
  pub faults : new.faults ≡ old.faults
  pub calls : new.calls ≡ old.calls
