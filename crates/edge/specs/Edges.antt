-- What an edge tells: what its nets, wires, stores and keepers told when they were closed, in order.
use Rattle.std.specs.Prelude.{ℕ, ◌≡◌, ◌+◌, ◌-◌, ◌<◌, Bool, true, false, ◌==◌, List, [], ◌∷◌, ◌++◌, Option, Some, None, Result, Ok, Err, if◌then◌else◌}
use Rattle.std.specs.Option.{option_map, IfSome}
use Rattle.outside.specs.Wires.{Talk, silence}
use Rattle.net_traits.specs.Nets.{NetTold}
use Rattle.outside.specs.Stores.{StoreCall}
use Rattle.wopi_host.specs.Keepers.{Holdings}
use Rattle.edge.specs.declared.EdgeFault.{EdgeFault}
use Rattle.edge.specs.declared.EdgeFault.TheVariants.{Net, Memory as NoMemory}

-- A net that was closed: what it told, and how many of its takes failed.
pub record NetEnd : Type 0 where
  pub told : Option NetTold
  pub faults : ℕ

-- A wire that was closed: its talk, where it told it, and its count of faults.
pub record WireEnd : Type 0 where
  pub talk : Option Talk
  pub faults : ℕ

-- A keeper as it stands: what it holds, and how many of its calls failed.
pub record Stock : Type 0 where
  pub held : Holdings
  pub faults : ℕ

-- The stock of a keeper.
abbrev pub stock_of : {Q : Type 0} → (Q → Holdings) → (Q → ℕ) → Q → Stock
stock_of holds faults keeper = record { held = holds keeper; faults = faults keeper }

-- What an edge tells. Nets, wires, stores and keepers are told as they were when they were closed, in
-- order, keepers also as they were when they were given. The moments are those that its clocks give.
-- The four counts say how many of each kind were given and not closed.
pub record EdgeTold : Type 0 where
  pub nets : Option (List NetEnd)
  pub wires : Option (List WireEnd)
  pub stores : Option (List (Option (List StoreCall)))
  pub opened : Option (List Stock)
  pub closed : Option (List Stock)
  pub moments : Option (List ℕ)
  pub nets_out : ℕ
  pub wires_out : ℕ
  pub stores_out : ℕ
  pub keepers_out : ℕ

-- One more at the end of the list, where it is told.
abbrev pub one_more : {A : Type 0} → A → Option (List A) → Option (List A)
one_more a told = option_map (λ list. list ++ a ∷ []) told

-- A net, wire, store or keeper was given.
abbrev pub net_given : EdgeTold → EdgeTold
net_given t = record t { nets_out = t.nets_out + 1 }

abbrev pub wire_given : EdgeTold → EdgeTold
wire_given t = record t { wires_out = t.wires_out + 1 }

abbrev pub store_given : EdgeTold → EdgeTold
store_given t = record t { stores_out = t.stores_out + 1 }

abbrev pub keeper_given : Stock → EdgeTold → EdgeTold
keeper_given stock t = record t { opened = one_more stock t.opened; keepers_out = t.keepers_out + 1 }

-- It was closed.
abbrev pub net_closed : NetEnd → EdgeTold → EdgeTold
net_closed net t = record t { nets = one_more net t.nets; nets_out = t.nets_out - 1 }

abbrev pub wire_closed : WireEnd → EdgeTold → EdgeTold
wire_closed wire t = record t { wires = one_more wire t.wires; wires_out = t.wires_out - 1 }

abbrev pub store_closed : Option (List StoreCall) → EdgeTold → EdgeTold
store_closed calls t = record t { stores = one_more calls t.stores; stores_out = t.stores_out - 1 }

abbrev pub keeper_closed : Stock → EdgeTold → EdgeTold
keeper_closed stock t = record t { closed = one_more stock t.closed; keepers_out = t.keepers_out - 1 }

-- Nothing was said over the wire yet, where it tells its talk.
abbrev pub IsNew : Option Talk → Type 0
IsNew talk = IfSome talk (λ (t : Talk). t ≡ silence)

-- How many links may open over a net: none without a port, any number where the sessions are 0.
abbrev pub room_for : Option ℕ → ℕ → Option ℕ
room_for None sessions = Some 0
room_for (Some port) sessions = if sessions == 0 then None else Some sessions

-- The edge failed for another cause than memory.
abbrev pub edge_failed : {A : Type 0} → Result A EdgeFault → Bool
edge_failed (Ok a) = false
edge_failed (Err Net) = true
edge_failed (Err NoMemory) = false
