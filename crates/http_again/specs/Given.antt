-- A wire that gives stated bytes, and an answer that is the message itself.
use Rattle.std.specs.Prelude.{ℕ, ◌≡◌, Bool, true, List, [], ◌++◌, Result, Ok, Err, ⊤}
use Rattle.outside.specs.Wires.{Talk}
use Rattle.outside.specs.declared.faults.WireFault.TheVariants.{ReadFault}
use Rattle.wire_body.specs.declared.faults.HttpFault.{HttpFault}
use Rattle.wire_body.specs.declared.faults.HttpFault.TheVariants.{Wire, Memory as NoMemory}

-- These bytes were received of a wire that gives the whole, and its end only after the last of them.
abbrev pub IsGiven : List ℕ → List ℕ → Bool → Type 0
IsGiven whole bytes ended = (more : List ℕ) × (bytes ++ more ≡ whole) × (ended ≡ true → more ≡ [])

-- Between these two talks a wire gave a front of the whole, and its end only after the last byte of it.
abbrev pub GivesFront : List ℕ → Talk → Talk → Type 0
GivesFront whole old new =
    (bytes : List ℕ) × (more : List ℕ) × (new.received ≡ old.received ++ bytes) × (bytes ++ more ≡ whole)
    × (new.ended ≡ true → more ≡ [])

-- The answer is the message; or it says that memory ran out, or that a read failed.
abbrev pub IsItself : {M : Type 0} → M → Result M HttpFault → Type 0
IsItself m (Ok n) = n ≡ m
IsItself m (Err NoMemory) = ⊤
IsItself m (Err (Wire fault)) = fault ≡ ReadFault
