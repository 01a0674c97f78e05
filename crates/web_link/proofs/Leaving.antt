-- The frames that wait, as they leave.
use Rattle.std.proofs.Common.{◌≡◌, ap, refl, ℕ, ◌<◌, true, List, [], ◌∷◌, length, Option, Some, None, Result, Ok, Err, IfOk, OnErr, slice_index_or, rules, arith, subst}
use Rattle.tungstenite.specs.Failure.{IsIo}
use Rattle.tungstenite.specs.Socket.{Socket, Flushed}
use Rattle.tungstenite.specs.declared.error.Error.{Error}
use Rattle.cool_base.specs.declared.want.Memory.{Memory}
use Rattle.net_rules.specs.Queues.{Queue, IsFirst, Goes}
use Rattle.web_link.specs.Endings.{EndsBy}
use Rattle.web_link.specs.Frames.{Sends}
use Rattle.web_link.specs.Pushing.{PushesNext, Empties, Leaves, PushesOne, Free, Stops, Next, PushesEnd}
use Rattle.web_link.specs.declared.heard.Ending.{Ending}
use Rattle.web_link.specs.declared.heard.Ending.TheVariants as End
use Rattle.web_link.specs.declared.heard.Pushed.{Pushed}
use Rattle.web_link.specs.declared.heard.Pushed.TheVariants.{Idle, More, Blocked, Ended}

idle_is_not_more : More ≡ Idle → ⊥
idle_is_not_more e = search rules

-- A socket that stops lets no more leave.
no_more : (ending : Ending) → PushesEnd ending More → ⊥
no_more End.Waits x = search rules
no_more End.NoMemory x = x
no_more End.Lost x = search rules
no_more (End.Broken code) x = search rules

-- What stands first in both lists is the same.
same_first : (xs : List (List ℕ)) (x y : List ℕ) (tail other : List (List ℕ)) → xs ≡ x ∷ tail
    → xs ≡ y ∷ other → y ≡ x
same_first xs x y tail other one two =
    subst (λ z. z ≡ x) (ap (λ l. slice_index_or l 0 []) two) (ap (λ l. slice_index_or l 0 []) one)

-- The first that waits is the one that goes.
first_goes : (before after : Queue) (frame : List ℕ) (gone : Option (List ℕ))
    → IsFirst frame before → Goes before gone after → Goes before (Some frame) after
first_goes before after frame None first goes =
    absurd (omega (
      arith,
      ap (λ (l : List (List ℕ)). length l) first.1,
      ap (λ (l : List (List ℕ)). length l) goes.0,
    ))
first_goes before after frame (Some other) first goes = (
  subst (λ f. before.waiting ≡ f ∷ after.waiting)
      (same_first before.waiting frame other first.0 after.waiting first.1 goes.0) goes.0,
  goes.1,
)

-- Where one waits first, one waits.
pub one_waits : (q : Queue) (frame : List ℕ) → IsFirst frame q → 0 < length q.waiting
one_waits q frame first = omega (arith, ap (λ (l : List (List ℕ)). length l) first.1)

module _ {S : Type 0} (contents : S → Option (List ℕ)) where
  -- The first that waits was sent, and then waits no longer.
  pub leaves : (old new : Socket S) (before between after : Queue) (frame : List ℕ)
      (gone : Option (List ℕ)) (pushed : Pushed) → IsFirst frame before → between ≡ before
      → Goes between gone after → Sends contents old frame pushed new
      → PushesNext contents old before pushed new after
  leaves old new before between after frame gone pushed first same goes sends =
      Leaves frame
      (first_goes before after frame gone first (subst (λ q. Goes q gone after) same goes)) sends

  -- The one on its way has left, and the next one goes.
  pub next_goes : (old mid new : Socket S) (before after : Queue) (result : Result Pushed Memory)
      → before.busy ≡ true → Flushed contents old mid → mid.output ≡ []
      → IfOk result (λ pushed. PushesNext contents mid before pushed new after)
      → IfOk result (λ pushed. PushesOne contents old before pushed new after)
  next_goes old mid new before after (Ok pushed) busy sent left next = Next mid busy sent left next
  next_goes old mid new before after (Err e) busy sent left next = tt

  -- The socket stops, as the error says.
  pub stops_waiting : (old new : Socket S) (before : Queue) (e : Error) → before.busy ≡ true
      → Flushed contents old new → IsIo e → EndsBy e End.Waits
      → PushesOne contents old before Blocked new before
  stops_waiting old new before e busy sent io by = Stops e End.Waits busy sent io by refl refl

  pub stops_lost : (old new : Socket S) (before : Queue) (e : Error) → before.busy ≡ true
      → Flushed contents old new → IsIo e → EndsBy e End.Lost
      → PushesOne contents old before Ended new before
  stops_lost old new before e busy sent io by = Stops e End.Lost busy sent io by refl refl

  -- Where more may leave, fewer wait.
  pub fewer_wait : (old : Socket S) (before : Queue) (new : Socket S) (after : Queue)
      → PushesOne contents old before More new after → length after.waiting < length before.waiting
  fewer_wait old before new after (Free free is x y) = absurd (idle_is_not_more is)
  fewer_wait old before new after (Stops e ending busy sent io by ends x) =
      absurd (no_more ending ends)
  fewer_wait old before new after (Next mid busy sent left (Empties is goes x)) =
      absurd (idle_is_not_more is)
  fewer_wait old before new after (Next mid busy sent left (Leaves frame goes sends)) =
      omega (arith, ap (λ (l : List (List ℕ)). length l) goes.0)

-- Where memory is refused, a fact of that moment stands.
pub where_refused : {A E X : Type 0} (result : Result A E) → X → OnErr result X
where_refused (Ok a) x = tt
where_refused (Err e) x = x
