-- What contracts see of an address that was read.
use Rattle.std.specs.Prelude.{ℕ, List}
use Rattle.load_address.specs.declared.address.LoadAddress.{LoadAddress}

-- its file and its token
abbrev pub named : LoadAddress → List ℕ × List ℕ
named found = (found.file, found.token)
