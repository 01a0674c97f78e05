-- What writing over a wire does.
use Rattle.std.specs.Prelude.{◌≡◌, ℕ, List, ◌++◌, Option, Result, Ok, Err}
use Rattle.outside.specs.declared.faults.WireFault.{WireFault}
use Rattle.outside.specs.declared.faults.WireFault.TheVariants.{WriteFault}
use Rattle.outside.specs.Wires.{Talk, Says}
use Rattle.wire_body.specs.declared.faults.HttpFault.{HttpFault}
use Rattle.wire_body.specs.declared.faults.HttpFault.TheVariants.{Wire, Memory as NoMemory}

-- a front of these bytes was sent
abbrev pub SaysSome : Option Talk → List ℕ → Option Talk → Type 0
SaysSome old bytes new = (done : List ℕ) × (rest : List ℕ) × (bytes ≡ done ++ rest) × Says old done new

-- the bytes were sent; a fault is a write's, and then a front of them was sent
abbrev pub SendsWhole : Option Talk → List ℕ → Result (Unit {0}) WireFault → Option Talk → Type 0
SendsWhole old bytes (Ok done) new = Says old bytes new
SendsWhole old bytes (Err fault) new = (fault ≡ WriteFault) × SaysSome old bytes new

-- the same where memory may be wanting, before the first byte is sent
abbrev pub Writes : Option Talk → List ℕ → Result (Unit {0}) HttpFault → Option Talk → Type 0
Writes old bytes (Ok done) new = Says old bytes new
Writes old bytes (Err (Wire fault)) new = (fault ≡ WriteFault) × SaysSome old bytes new
Writes old bytes (Err NoMemory) new = new ≡ old
