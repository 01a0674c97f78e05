-- What a document knows of its saves: what is stored, which saves wait, and the put under way.
use Rattle.std.specs.Prelude.{ℕ, ◌+◌, ◌-◌, ◌<◌, ◌≡◌, Bool, true, false, not, ◌&&◌, ◌||◌, nat_eq, nat_le, List, [], ◌∷◌, ◌++◌, length, filter, map, find, slice_get, Option, None, Some, is_some, is_none, unwrap_or, if◌then◌else◌}
use Rattle.std.specs.Option.{option_and_then, option_map, ForSome}
use Rattle.std.specs.List.{list_any, filter_map}
use Rattle.std.specs.Str.{bytes_eq}
use Rattle.cool_base.specs.declared.ids.ViewId.{ViewId}
use Rattle.outside.specs.declared.errands.Errand.{Errand}
use Rattle.outside.specs.declared.errands.Receipt.{Receipt}
use Rattle.save_core.specs.declared.values.Save.{Save}
use Rattle.save_core.specs.declared.values.Put.{Put}
use Rattle.save_core.specs.declared.values.SaveAnswer.{SaveAnswer}
use Rattle.save_core.specs.declared.values.TheConstants.{MOST_SAVES}

-- how many inputs the stored contents hold, in the order stored, where 0 is the loaded file; the saves that
-- are not answered, in the order asked for; the put under way; the token kept for final saves; whether one
-- and its room are there for a final save; the next ticket
pub record Saving : Type 0 where
  pub stored : List ℕ
  pub saves : List Save
  pub put : Option Put
  pub last_token : Option (List ℕ)
  pub has_room : Bool
  pub next_ticket : ℕ

-- a document as it is loaded: its file is stored, and no save waits
abbrev pub opening : Saving
opening = record { stored = 0 ∷ []; saves = []; put = None; last_token = None; has_room = false; next_ticket = 1 }

-- how many inputs the content holds that was stored last
abbrev pub last_stored : Saving → ℕ
last_stored s = unwrap_or (slice_get s.stored (length s.stored - 1)) 0

-- whether this is the view's id
abbrev pub is_view : ViewId → Option ViewId → Bool
is_view view None = false
is_view view (Some other) = nat_eq other.0 view.0

-- the save is one of this view's
abbrev pub is_of : ViewId → Save → Bool
is_of view save = is_view view save.view

-- the view has as many saves that are not answered as it may have; saves without a view are never too many
abbrev pub is_full : Option ViewId → List Save → Bool
is_full None saves = false
is_full (Some view) saves = nat_le MOST_SAVES (length (filter (is_of view) saves))

-- one more save waits
abbrev pub waits : (view : Option ViewId) (mark : ℕ) (skip : Bool) (token : List ℕ) → Saving → Saving
waits view mark skip token s =
    record s { saves = s.saves ++ record { view = view; mark = mark; skip = skip; token = token; bound = false } ∷ [] }

-- a save that a content of so many inputs answers, and that no put is for yet
abbrev pub is_ready_save : ℕ → Save → Bool
is_ready_save applied save = not save.bound && nat_le save.mark applied

-- a put may begin: none is under way, and some save is ready
abbrev pub is_ready : ℕ → Saving → Bool
is_ready applied s = is_none s.put && list_any (is_ready_save applied) s.saves

-- a ready save that needs no put: it asked for none where nothing is new, and the content stored last holds
-- all that is applied
abbrev pub is_unmodified : (applied last : ℕ) → Save → Bool
is_unmodified applied last save = is_ready_save applied save && (save.skip && nat_eq last applied)

-- a ready save that needs a put
abbrev pub needs_put : (applied last : ℕ) → Save → Bool
needs_put applied last save = is_ready_save applied save && not (save.skip && nat_eq last applied)

-- the views of some saves, in order
abbrev pub views_of : List Save → List ViewId
views_of saves = filter_map (λ save. save.view) saves

-- the views that are answered that nothing was new
abbrev pub unmodified : ℕ → Saving → List ViewId
unmodified applied s = views_of (filter (is_unmodified applied (last_stored s)) s.saves)

-- a save is bound to the put that begins, where it is ready; a bound one stays so
abbrev pub bound_to : ℕ → Save → Save
bound_to applied save = record save { bound = save.bound || nat_le save.mark applied }

-- the saves that are left once those without need of a put are answered; the ready ones among them are bound
abbrev pub left_over : (applied last : ℕ) → List Save → List Save
left_over applied last saves =
    map (bound_to applied) (filter (λ save. not (is_unmodified applied last save)) saves)

-- the token of the first save that needs a put
abbrev pub token_for : (applied last : ℕ) → List Save → Option (List ℕ)
token_for applied last saves = option_map (λ save. save.token) (find (needs_put applied last) saves)

-- what goes out to the store: the content with the token of the first save that needs a put, where one does
abbrev pub errand_for : ℕ → (file content : List ℕ) → Saving → Option Errand
errand_for applied file content s =
    option_map (λ token. record { ticket = record { 0 = s.next_ticket }; file = file; token = token; content = content; number = applied })
    (token_for applied (last_stored s) s.saves)

-- the errand is the put under way
abbrev pub put_of : Errand → Put
put_of errand =
    record { ticket = errand.ticket; file = errand.file; number = errand.number; content = errand.content }

-- the put of the errand begins, where there is one
abbrev pub begun : Option Errand → Saving → Saving
begun None s = s
begun (Some errand) s = record s { put = Some (put_of errand); next_ticket = s.next_ticket + 1 }

-- the ready saves are served: those without need of a put are answered, for the others one put begins
abbrev pub served : ℕ → (file content : List ℕ) → Saving → Saving
served applied file content s =
    begun (errand_for applied file content s) (record s { saves = left_over applied (last_stored s) s.saves })

-- the receipt, where there is one, is for this file and content
abbrev pub is_for : (file content : List ℕ) → Option Receipt → Bool
is_for file content None = true
is_for file content (Some receipt) = bytes_eq receipt.file file && bytes_eq receipt.content content

-- the put that an answer is for: that under way, where it has the ticket and the receipt is for it
abbrev pub answered_put : ℕ → Option Receipt → Option Put → Option Put
answered_put ticket receipt None = None
answered_put ticket receipt (Some put) =
    if nat_eq put.ticket.0 ticket && is_for put.file put.content receipt then Some put else None

-- the token with which the put under way went out: that of the first save that it is for
abbrev pub put_token : Saving → Option (List ℕ)
put_token s = option_map (λ save. save.token) (find (λ save. save.bound) s.saves)

-- the same, where the answer is for the put under way
abbrev pub answered_token : ℕ → Option Receipt → Saving → Option (List ℕ)
answered_token ticket receipt s = option_and_then (λ put. put_token s) (answered_put ticket receipt s.put)

-- the stored numbers, with this one where it was stored
abbrev pub stored_with : Bool → ℕ → List ℕ → List ℕ
stored_with stored number numbers = if stored then numbers ++ number ∷ [] else numbers

-- the put goes, and with it the saves that it was for; where it was stored, its number is
abbrev pub ended : Option Put → (stored : Bool) → Saving → Saving
ended None stored s = s
ended (Some put) stored s =
    record s {
      stored = stored_with stored put.number s.stored;
      saves = filter (λ save. not save.bound) s.saves;
      put = None;
      has_room = is_some s.last_token;
    }

-- the store's answer, a receipt or a fault, came for the errand of this ticket; nothing changes where it is
-- no answer for the put under way
abbrev pub answered : ℕ → Option Receipt → Saving → Saving
answered ticket receipt s = ended (answered_put ticket receipt s.put) (is_some receipt) s

-- what a save is answered whose put ended: how many inputs the content holds, and whether it was stored
abbrev pub answer_of : (number : ℕ) (stored : Bool) → Save → SaveAnswer
answer_of number stored save = record { view = save.view; number = number; stored = stored }

-- what each bound save is answered when the put ends, in order
abbrev pub endings : Option Put → (stored : Bool) → List Save → List SaveAnswer
endings None stored saves = []
endings (Some put) stored saves =
    map (answer_of put.number stored) (filter (λ save. save.bound) saves)

-- what the saves are answered by the store's answer
abbrev pub answers : ℕ → Option Receipt → Saving → List SaveAnswer
answers ticket receipt s = endings (answered_put ticket receipt s.put) (is_some receipt) s.saves

-- a token is kept for a final save, and its room
abbrev pub token_kept : List ℕ → Saving → Saving
token_kept token s = record s { last_token = Some token; has_room = true }

-- a save without a view waits with this token, where one is kept, and the room for it is used
abbrev pub final_with : ℕ → Option (List ℕ) → Saving → Saving
final_with mark None s = s
final_with mark (Some token) s = record (waits None mark false token s) { has_room = false }

-- a save without a view waits, with the token kept
abbrev pub final_waits : ℕ → Saving → Saving
final_waits mark s = final_with mark s.last_token s

-- some save that is not answered has this mark
abbrev pub has_mark : ℕ → Saving → Bool
has_mark mark s = list_any (λ save. nat_eq save.mark mark) s.saves

-- a token for a final save is a copy of the one kept, and there is room for one more save than there are
abbrev pub IsRoomy : (kept spare : Option (List ℕ)) (count capacity : ℕ) → Type 0
IsRoomy kept spare count capacity = ForSome spare (λ token. (kept ≡ Some token) × (count < capacity))
