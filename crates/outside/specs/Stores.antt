-- What a store tells: its calls with their answers.
use Rattle.std.specs.Prelude.{ℕ, ◌≡◌, ◌⊎◌, Bool, true, false, List, [], ◌∷◌, ◌++◌, Option, Result, Ok, Err, IfOk, ⊤}
use Rattle.std.specs.Option.{option_map}
use Rattle.outside.specs.declared.faults.WireFault.{WireFault}
use Rattle.outside.specs.declared.faults.WireFault.TheVariants.{BadHead, HeadTooLong, BodyTooLong, BadChunk, CutOff, ReadFault, WriteFault}
use Rattle.outside.specs.declared.faults.StoreFault.{StoreFault}
use Rattle.outside.specs.declared.faults.StoreFault.TheVariants.{Conflict, Denied, Missing, BadAnswer, Wire, BadJson, Memory as NoMemory}
use Rattle.outside.specs.declared.errands.Admission.{Admission}
use Rattle.outside.specs.declared.errands.Errand.{Errand}
use Rattle.outside.specs.declared.errands.Receipt.{Receipt}

-- A fault that comes only where a count of faults rose; the others come from the bytes that were read.
abbrev pub is_of_wire : WireFault → Bool
is_of_wire BadHead = false
is_of_wire HeadTooLong = false
is_of_wire BodyTooLong = false
is_of_wire BadChunk = false
is_of_wire CutOff = false
is_of_wire ReadFault = true
is_of_wire WriteFault = true

-- The same of a store's fault.
abbrev pub is_wire_fault : StoreFault → Bool
is_wire_fault (Conflict id) = false
is_wire_fault Denied = false
is_wire_fault Missing = false
is_wire_fault (BadAnswer status) = false
is_wire_fault (Wire fault) = is_of_wire fault
is_wire_fault BadJson = false
is_wire_fault NoMemory = false

-- The same of a store's answer.
abbrev pub store_failed : {A : Type 0} → Result A StoreFault → Bool
store_failed (Ok a) = false
store_failed (Err fault) = is_wire_fault fault

-- The code by which a client learns of a store's fault.
abbrev pub code_of : StoreFault → ℕ
code_of (Conflict id) = 409
code_of Denied = 401
code_of Missing = 404
code_of (BadAnswer status) = status
code_of (Wire fault) = 1000
code_of BadJson = 1001
code_of NoMemory = 1002

-- One call of a store, with its answer.
pub data StoreCall : Type 0 where
  Admits : (file token : List ℕ) (answer : Result Admission StoreFault) → StoreCall
  Fetches : (file token : List ℕ) (write : Bool) (answer : Result (List ℕ) StoreFault) → StoreCall
  Puts : (errand : Errand) (answer : Result Receipt StoreFault) → StoreCall
  Refreshes : (file token : List ℕ) (answer : Result (Unit {0}) StoreFault) → StoreCall
  Unlocks : (file token : List ℕ) (answer : Result (Unit {0}) StoreFault) → StoreCall

-- The call was made. Both lists are told or neither is.
abbrev pub Calls : Option (List StoreCall) → StoreCall → Option (List StoreCall) → Type 0
Calls old call new = new ≡ option_map (λ calls. calls ++ call ∷ []) old

-- The call was made and is told with its answer; or memory was refused, and nothing is told of it.
abbrev pub Tells : {A : Type 0} → Option (List StoreCall) → StoreCall → Result A StoreFault → Option (List StoreCall) → Type 0
Tells old call result new = Calls old call new ⊎ ((result ≡ Err NoMemory) × (new ≡ old))

-- A receipt is for the errand's content in the errand's file.
abbrev pub IsReceiptOf : Errand → Receipt → Type 0
IsReceiptOf errand receipt = (receipt.file ≡ errand.file) × (receipt.content ≡ errand.content)
