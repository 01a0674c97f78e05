-- When a document may be closed, and whether something of it is lost then.
use Rattle.std.specs.Prelude.{Bool, not, ◌&&◌, nat_eq, length, is_none}
use Rattle.save_core.specs.Saving.{last_stored}
use Rattle.document_machine.specs.State.{Document}

-- a document is done where it has no view, no save that is not answered and no put under way
abbrev pub is_done : {S : Type 0} → Document S → Bool
is_done d = nat_eq (length d.views) 0 && (nat_eq (length d.saving.saves) 0 && is_none d.saving.put)

-- a document that is done is lost where the content stored last lacks some of its inputs
abbrev pub is_lost : {S : Type 0} → Document S → Bool
is_lost d = is_done d && not (nat_eq (last_stored d.saving) (length d.journal))
