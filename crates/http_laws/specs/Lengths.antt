-- What bodies say whose bytes are only counted.
use Rattle.std.specs.Prelude.{ℕ, Bool, List, length, take, nat_le, if◌then◌else◌, Option, Some, None, Result, Ok, Err}
use Rattle.outside.specs.declared.faults.WireFault.{WireFault}
use Rattle.outside.specs.declared.faults.WireFault.TheVariants.{BodyTooLong, CutOff}
use Rattle.wire_body.specs.declared.states.TheConstants.{BODY_LIMIT}

-- the first so many bytes, once they are there
abbrev pub said_of_length : ℕ → List ℕ → Bool → Option (Result (List ℕ) WireFault)
said_of_length len bytes ended =
    if nat_le len BODY_LIMIT
    then (if nat_le len (length bytes) then Some (Ok (take len bytes)) else (if ended then Some (Err CutOff) else None))
    else Some (Err BodyTooLong)

-- all bytes, once the wire ended
abbrev pub said_of_open : List ℕ → Bool → Option (Result (List ℕ) WireFault)
said_of_open bytes ended =
    if nat_le (length bytes) BODY_LIMIT then (if ended then Some (Ok bytes) else None) else Some (Err BodyTooLong)
