-- What an edge in memory tells of what it gave and of what was closed.
use Rattle.std.specs.Prelude.{ℕ, List, Some, map}
use Rattle.outside.specs.Wires.{Held}
use Rattle.wopi_host.specs.declared.keepers.MemoryKeeper.{MemoryKeeper}
use Rattle.wopi_host.specs.Kept.{held_in}
use Rattle.edge.specs.Edges.{WireEnd, Stock}

-- A wire in memory as it was closed.
abbrev pub wire_closed_as : Held × Unit {0} → WireEnd
wire_closed_as (wire, u) = record { talk = Some wire.talk; faults = wire.faults }

-- The wires, in order.
abbrev pub wires_told : List (Held × Unit {0}) → List WireEnd
wires_told wires = map wire_closed_as wires

-- A keeper in memory as it stood.
abbrev pub keeper_stood_as : MemoryKeeper × Unit {0} → Stock
keeper_stood_as (keeper, u) = record { held = held_in keeper; faults = 0 }

-- The keepers, in order.
abbrev pub keepers_told : List (MemoryKeeper × Unit {0}) → List Stock
keepers_told keepers = map keeper_stood_as keepers
