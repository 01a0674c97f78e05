-- What of a document is stored.
use Rattle.std.specs.Prelude.{ℕ, Bool, not, nat_eq, List, length, Option, None, Some, Result, Ok, Err}
use Rattle.outside.specs.declared.errands.Receipt.{Receipt}
use Rattle.outside.specs.declared.faults.StoreFault.{StoreFault}
use Rattle.save_core.specs.Saving.{Saving, answered_token, last_stored}
use Rattle.document_machine.specs.State.{Document}

-- the content stored last lacks some of the accepted inputs
abbrev pub has_unstored : {S : Type 0} → Document S → Bool
has_unstored d = not (nat_eq (last_stored d.saving) (length d.journal))

-- the token with which a store locked the file for the put under way, where it answered that by a receipt
abbrev pub lock_token : (ticket : ℕ) → Result Receipt StoreFault → Saving → Option (List ℕ)
lock_token ticket (Ok receipt) s = answered_token ticket (Some receipt) s
lock_token ticket (Err fault) s = None
