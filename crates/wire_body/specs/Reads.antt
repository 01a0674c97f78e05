-- A body that is read from a wire.
use Rattle.std.specs.Prelude.{ℕ, ◌≡◌, ◌≤◌, ◌⊎◌, Bool, true, false, List, [], ◌++◌, length}
use Rattle.std.specs.Prelude.{Option, Some, None, Result, Ok, Err, ⊤}
use Rattle.outside.specs.declared.faults.WireFault.{WireFault}
use Rattle.outside.specs.declared.faults.WireFault.TheVariants.{ReadFault, WriteFault}
use Rattle.outside.specs.Wires.{Talk, Hears}
use Rattle.wire_body.specs.declared.faults.HttpFault.{HttpFault}
use Rattle.wire_body.specs.declared.faults.HttpFault.TheVariants.{Wire, Memory as NoMemory}
use Rattle.wire_body.specs.declared.states.BodyState.{BodyState}
use Rattle.wire_body.specs.declared.reads.TheConstants.{PIECE_LIMIT}
use Rattle.wire_body.specs.Bodies.{body_says}

-- The fault is the one that the bytes say. A failed read comes only where they say nothing yet, and
-- no read answers that a write failed.
abbrev pub FaultSaid : {A : Type 0} → Option (Result A WireFault) → WireFault → Type 0
FaultSaid said ReadFault = said ≡ None
FaultSaid said WriteFault = ⊥
FaultSaid said fault = said ≡ Some (Err fault)

-- An answer is what the bytes say. Where memory ran out they may say anything.
abbrev pub IsSaid : {A : Type 0} → Option (Result A WireFault) → Result A HttpFault → Type 0
IsSaid said (Ok a) = said ≡ Some (Ok a)
IsSaid said (Err NoMemory) = ⊤
IsSaid said (Err (Wire fault)) = FaultSaid said fault

-- The end was asked for only where the bytes said nothing yet.
abbrev pub Stops : {A : Type 0} → Option (Result A WireFault) → Bool → Type 0
Stops said ended = ended ≡ true → said ≡ None

-- Bytes came in pieces, one in each receive, and of those before the last piece this holds. Or no
-- bytes came.
abbrev pub AllButLast : (List ℕ → Type 0) → List ℕ → Type 0
AllButLast Holds bytes =
    (bytes ≡ [])
    ⊎ ((before : List ℕ) × (last : List ℕ) × (bytes ≡ before ++ last)
    × (length last ≤ PIECE_LIMIT) × Holds before)

-- The bytes say nothing yet of a body that begins there, behind those that came before.
abbrev pub IsSilent : BodyState → List ℕ → List ℕ → Type 0
IsSilent start front bytes = body_says start (front ++ bytes) false ≡ None

-- Bytes were received, with the end or without, and the answer is what they say behind those that came
-- before. No end was asked for behind a body that was whole without it, and all bytes but the last
-- piece said nothing yet.
abbrev pub ReadsBody : Option Talk → Option Talk → BodyState → List ℕ → Result (List ℕ) HttpFault → Type 0
ReadsBody old new start front result =
    (more : List ℕ) × (ended : Bool) × Hears old more ended new × IsSaid (body_says start (front ++ more) ended) result
    × Stops (body_says start (front ++ more) false) ended × AllButLast (IsSilent start front) more
