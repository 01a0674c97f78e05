-- Runs of the calls, and what holds in every one of them.
use Rattle.std.specs.Prelude.{ℕ, ◌≡◌, ◌≤◌, nat_eq, Bool, not, ◌&&◌, is_none, true, false, List, [], ◌∷◌, map, filter, Option, None, Some, if◌then◌else◌}
use Rattle.std.specs.List.{list_any, AllByRecursion}
use Rattle.cool_base.specs.declared.ids.ViewId.{ViewId}
use Rattle.outside.specs.declared.errands.Receipt.{Receipt}
use Rattle.save_core.specs.declared.values.Save.{Save}
use Rattle.save_core.specs.declared.values.Put.{Put}
use Rattle.save_core.specs.declared.values.SaveAnswer.{SaveAnswer}
use Rattle.save_core.specs.Saving.{Saving, waits, is_ready, served, answered, token_kept, final_waits, answer_of}

-- one call that changes something: a save waits, the ready saves are served, the store's answer comes, a token
-- is kept for a final save, a final save waits
pub data Event : Type 0 where
  Waited : (view : Option ViewId) (mark : ℕ) (skip : Bool) (token : List ℕ) → Event
  Served : (applied : ℕ) (file content : List ℕ) → Event
  Answered : (ticket : ℕ) (receipt : Option Receipt) → Event
  Kept : (token : List ℕ) → Event
  WaitedFinal : (mark : ℕ) → Event

-- what the call makes of a document's saves; where no save is ready nothing is served
abbrev pub next : Event → Saving → Saving
next (Waited view mark skip token) s = waits view mark skip token s
next (Served applied file content) s = if is_ready applied s then served applied file content s else s
next (Answered ticket receipt) s = answered ticket receipt s
next (Kept token) s = token_kept token s
next (WaitedFinal mark) s = final_waits mark s

-- what the calls make of them, one after the other
abbrev pub after_all : List Event → Saving → Saving
after_all [] s = s
after_all (event ∷ events) s = after_all events (next event s)

-- a save that a final save may be: it has no view, and needs a put
abbrev pub is_final : Save → Bool
is_final save = is_none save.view && not save.skip

-- a bound save's mark is at most the number of the put under way; without a put no save is bound
abbrev pub IsBoundTo : Option Put → Save → Type 0
IsBoundTo None save = save.bound ≡ false
IsBoundTo (Some put) save = save.bound ≡ true → save.mark ≤ put.number

-- what the saves of a put are answered that was stored: the put's number, which is at least the mark of each
-- of them, and is stored
pub record AreAcknowledged (old : Saving) (put : Put) (given : List SaveAnswer) (new : Saving) : Type 0 where
  pub marks : AllByRecursion (λ save. save.mark ≤ put.number) (filter (λ save. save.bound) old.saves)
  pub answers : given ≡ map (answer_of put.number true) (filter (λ save. save.bound) old.saves)
  pub stored : list_any (nat_eq put.number) new.stored ≡ true
