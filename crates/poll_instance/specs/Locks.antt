-- Whose token the lock has that a put gives.
use Rattle.std.specs.Prelude.{ℕ, List, find, Option, None, Some, option_and_then, Result, Ok, Err}
use Rattle.std.specs.Option.{option_map}
use Rattle.outside.specs.declared.errands.Receipt.{Receipt}
use Rattle.outside.specs.declared.faults.StoreFault.{StoreFault}
use Rattle.save_core.specs.Saving.{Saving, answered_put}

-- the token of the put's errand: that of the first save that it is for
abbrev pub put_token : Saving → Option (List ℕ)
put_token s = option_map (λ save. save.token) (find (λ save. save.bound) s.saves)

-- the token of the lock that a store's answer gives: that of the errand, where the answer is a
-- receipt for the put under way
abbrev pub lock_token : Saving → ℕ → Result Receipt StoreFault → Option (List ℕ)
lock_token s ticket (Ok receipt) =
    option_and_then (λ put. put_token s) (answered_put ticket (Some receipt) s.put)
lock_token s ticket (Err fault) = None
