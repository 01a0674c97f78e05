-- What is seen of a store.
use Rattle.std.specs.Prelude.{ℕ, List}
use Rattle.wopi_client.specs.declared.stores.WopiStore.{WopiStore}

-- its dial
abbrev pub dial_of : {D W : Type 0} → WopiStore D W → D
dial_of store = store.dial

-- the host that its requests name
abbrev pub host_of : {D W : Type 0} → WopiStore D W → List ℕ
host_of store = store.host
