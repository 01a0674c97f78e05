-- The statuses that the table gives: none of them is 500, and each has a body.
use Rattle.std.proofs.Common.{ℕ, ◌≡◌, Bool, true, false, not, ◌&&◌, nat_eq, List, Option, Some, None, length, Result, Ok, Err, IfOk, refl, sym, subst}
use Rattle.std.specs.Prelude.{if◌then◌else◌}
use Rattle.outside.specs.Causes.{HasCause}
use Rattle.http_message.specs.declared.Request.{Request}
use Rattle.http_message.specs.declared.Response.{Response}
use Rattle.http_message.specs.Statuses.{is_bodiless, HasDueBody}
use Rattle.wopi_host.specs.declared.table.Operation.{Operation}
use Rattle.wopi_host.specs.declared.table.Operation.TheVariants as Asks
use Rattle.wopi_host.specs.declared.table.Held.{Held}
use Rattle.wopi_host.specs.declared.table.Held.TheVariants.{NoLock, TheSame, Another}
use Rattle.wopi_host.specs.declared.table.Action.{Action}
use Rattle.wopi_host.specs.declared.table.Action.TheVariants.{Refused}
use Rattle.wopi_host.specs.Table.{operation_of, wants_right, wants_id, is_lock_id, held_for, table, by_id, by_right, by_operation}
use Rattle.wopi_host.specs.Hosts.{HostAt, Asking, action_at, status_of, is_ordinary, IsOrdinary, AnswersAt}

-- the action's status is one
abbrev Fits : Action → Type 0
Fits v = is_ordinary (status_of v) ≡ true

if_fits : (b : Bool) (x y : Action) → Fits x → Fits y → Fits (if b then x else y)
if_fits true x y a b = a
if_fits false x y a b = b

table_fits : (op : Operation) (held : Held) (empty : Bool) → Fits (table op held empty)
table_fits Asks.CheckFileInfo held empty = refl
table_fits Asks.GetFile held empty = refl
table_fits Asks.Lock NoLock empty = refl
table_fits Asks.Lock TheSame empty = refl
table_fits Asks.Lock Another empty = refl
table_fits Asks.RefreshLock NoLock empty = refl
table_fits Asks.RefreshLock TheSame empty = refl
table_fits Asks.RefreshLock Another empty = refl
table_fits Asks.Unlock NoLock empty = refl
table_fits Asks.Unlock TheSame empty = refl
table_fits Asks.Unlock Another empty = refl
table_fits Asks.GetLock held empty = refl
table_fits Asks.PutFile NoLock true = refl
table_fits Asks.PutFile NoLock false = refl
table_fits Asks.PutFile TheSame empty = refl
table_fits Asks.PutFile Another empty = refl

id_fits : (op : Operation) (asked current : Option (List ℕ)) (empty : Bool) → Fits (by_id op asked current empty)
id_fits op asked current empty =
    if_fits (wants_id op && not (is_lock_id asked)) (Refused 400) (table op (held_for current asked) empty) refl (table_fits op (held_for current asked) empty)

right_fits : (op : Operation) (writer : Bool) (asked current : Option (List ℕ)) (empty : Bool) → Fits (by_right op writer asked current empty)
right_fits op writer asked current empty =
    if_fits (wants_right op && not writer) (Refused 401) (by_id op asked current empty) refl (id_fits op asked current empty)

operation_fits : (op : Option Operation) (old_lock writer : Bool) (asked current : Option (List ℕ)) (empty : Bool) → Fits (by_operation op old_lock writer asked current empty)
operation_fits None old_lock writer asked current empty = refl
operation_fits (Some op) old_lock writer asked current empty =
    if_fits old_lock (Refused 501) (by_right op writer asked current empty) refl (right_fits op writer asked current empty)

action_fits : (contents : Bool) (right : Option Bool) (content : Option (List ℕ)) (r : Request) (current : Option (List ℕ)) → Fits (action_at contents right content r current)
action_fits contents None content r current = refl
action_fits contents (Some writer) None r current = refl
action_fits contents (Some writer) (Some bytes) r current = operation_fits (operation_of r.method contents r.over) r.old_lock writer r.lock current (nat_eq (length bytes) 0)

-- so is the status of the table's answer
at_ordinary : (right : Option Bool) (a : Asking) (old : HostAt) (response : Response) (new : HostAt)
    → AnswersAt right a old response new → IsOrdinary response
at_ordinary right a old response new answer =
    subst (λ (x : Response). IsOrdinary x) (sym answer.told)
    (subst (λ (x : Action). Fits x) (sym answer.chosen) (action_fits a.contents right answer.content a.request _))

-- the same of an answer that may be refused
pub if_ok_ordinary : {E : Type 0} (right : Option Bool) (a : Asking) (old new : HostAt) (result : Result Response E)
    → IfOk result (λ x. AnswersAt right a old x new) → IfOk result IsOrdinary
if_ok_ordinary right a old new (Ok x) answer = at_ordinary right a old x new answer
if_ok_ordinary right a old new (Err e) answer = tt

both_false : (a b : Bool) → (not a && not b) ≡ true → (a ≡ false) × (b ≡ false)
both_false false false is = (refl, refl)
both_false false true is = cc
both_false true b is = cc

false_true : (a : Bool) → a ≡ false → a ≡ true → ⊥
false_true true is not = cc
false_true false is not = cc

-- behind an ordinary answer no count of faults rose
pub ordinary_cause : (before after : ℕ) (r : Response) → IsOrdinary r → HasCause before after (false ≡ true) → HasCause before after (nat_eq r.status 500 ≡ true)
ordinary_cause before after r is cause = record {
  later = cause.later;
  failed = λ failed. absurd (false_true (nat_eq r.status 500) (both_false _ _ is).0 failed);
  kept = λ none. cause.kept (λ no. false_true false refl no);
}

-- an ordinary answer may have a body
pub ordinary_body : (r : Response) → IsOrdinary r → HasDueBody r
ordinary_body r is = λ bodiless. absurd (false_true (is_bodiless r.status) (both_false _ _ is).1 bodiless)
