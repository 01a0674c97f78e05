-- What one poll holds: links and at most one document with its kept tiles; and what one turn of it does. It is said by
-- the moves of the document machine, for any kit.
use Rattle.std.specs.Prelude.{ℕ, ◌≡◌, nat_lt, List, [], ◌∷◌, ◌++◌, length, map, codes, Option, None, Some, is_some, Bool, true, false, ◌||◌, if◌then◌else◌}
use Rattle.std.specs.List.{flat_map, AllByRecursion}
use Rattle.cool_base.specs.declared.ids.ViewId.{ViewId}
use Rattle.cool_frame.specs.declared.frame.Frame.{Frame}
use Rattle.cool_message.specs.Writing.{written}
use Rattle.cool_message.specs.declared.message.ClientMessage.TheVariants.{TileProcessed}
use Rattle.document_laws.specs.AtOnce.{all_answered, numbers}
use Rattle.document_machine.specs.Event.{Joined, Left, Said}
use Rattle.document_machine.specs.Goes.{DoesNext, Moves}
use Rattle.document_machine.specs.Held.{Held, opening_held}
use Rattle.document_machine.specs.Kept.{IsHeld}
use Rattle.document_machine.specs.Outputs.{nothing}
use Rattle.document_machine.specs.Run.{Run}
use Rattle.document_machine.specs.State.{View, find_view}
use Rattle.document_machine.specs.Step.{Rests}
use Rattle.document_machine.specs.declared.limits.TheConstants.{MOST_VIEWS}
use Rattle.document_machine.specs.declared.outs.Outs.{Outs}
use Rattle.document_machine.specs.declared.outs.Turned.TheVariants.{Worked}
use Rattle.document_machine.specs.declared.rights.Rights.{Rights}
use Rattle.kit_trait.specs.Rules.{Rules}
use Rattle.tile_key.specs.Places.{Place}
use Rattle.script_world.specs.Seats.{Seats, is_waiting, view_of, enters, sits, without, link_of, tells, records, lobby_frame, bad_file, views_full}
use Rattle.script_world.specs.declared.event.Waiting.{Waiting}
use Rattle.script_world.specs.declared.event.Waiting.TheVariants.{Opened, Loads, Says, Gone}

-- who is there, and the document with the tiles that are kept of it, once a load of it was taken
pub record House (S : Type 0) : Type 0 where
  pub seats : Seats
  pub document : Option (Held S)

-- the document of a broker, if there is one; one that was given up shows none
abbrev pub document_of : {S : Type 0} → Option (Option (Held S)) → Option (Held S)
document_of None = None
document_of (Some document) = document

-- the rights of a link that writes, and of one that only looks, with their tokens
abbrev pub rights : Bool → Rights
rights true = record { can_write = true; token = codes "t-rw" }
rights false = record { can_write = false; token = codes "t-ro" }

-- A load of a document that is there: the link is a new view of it, or, where it has all the views that it may have, is refused and stays
-- in the lobby.
abbrev pub JoinsWhere : {C B S : Type 0} → Bool → Rules C B → (C → Place → S) → Seats → ℕ → Rights → Held S → List ℕ → House S → Type 0
JoinsWhere {C} {B} {S} true rules cut seats link given old out new = (held : Held S) × (outs : Outs S)
    × Moves rules cut old (Joined given) outs held
    × (new ≡ record { seats = sits seats link old.document.next_view; document = Some held })
    × (out ≡ records (sits seats link old.document.next_view) outs.frames)
JoinsWhere false rules cut seats link given old out new =
    (out ≡ tells link views_full) × (new ≡ record { seats = seats; document = Some old })

abbrev pub JoinsOne : {C B S : Type 0} → Rules C B → (C → Place → S) → Seats → ℕ → Rights → Held S → List ℕ → House S → Type 0
JoinsOne rules cut seats link given old out new =
    JoinsWhere (nat_lt (length old.document.views) MOST_VIEWS) rules cut seats link given old out new

-- The first load begins the document over no bytes, unless the kit refuses no bytes as a file.
abbrev pub BeginsWhere : {C B S : Type 0} → Bool → Rules C B → (C → Place → S) → Seats → ℕ → List ℕ → Rights → List ℕ → House S → Type 0
BeginsWhere true rules cut seats link file given out new = JoinsOne rules cut seats link given (opening_held file []) out new
BeginsWhere false rules cut seats link file given out new =
    (out ≡ tells link bad_file) × (new ≡ record { seats = seats; document = None })

abbrev pub LoadsOne : {C B S : Type 0} → Rules C B → (C → Place → S) → Seats → Option (Held S) → ℕ → List ℕ → Rights → List ℕ → House S → Type 0
LoadsOne rules cut seats None link file given out new = BeginsWhere (rules.accepts []) rules cut seats link file given out new
LoadsOne rules cut seats (Some old) link file given out new = JoinsOne rules cut seats link given old out new

-- only a link of the lobby loads
abbrev pub LoadsWhere : {C B S : Type 0} → Bool → Rules C B → (C → Place → S) → House S → ℕ → List ℕ → Rights → List ℕ → House S → Type 0
LoadsWhere true rules cut old link file given out new = LoadsOne rules cut old.seats old.document link file given out new
LoadsWhere false rules cut old link file given out new = (out ≡ []) × (new ≡ old)

-- the view with this id, where the document has it
abbrev pub seated_at : {S : Type 0} → Option (Held S) → Option ℕ → Option (Held S × ℕ)
seated_at None seat = None
seated_at (Some held) None = None
seated_at (Some held) (Some id) = if is_some (find_view held.document.views id) then Some (held, id) else None

-- the document with the view that the link is
abbrev pub seated : {S : Type 0} → House S → ℕ → Option (Held S × ℕ)
seated house link = seated_at house.document (view_of house.seats link)

-- A message of a view is a move of its document; one of the lobby is answered there; one of a link that isn't held
-- changes nothing.
abbrev pub lobby_tells : Bool → ℕ → List ℕ → List ℕ
lobby_tells true link text = tells link (lobby_frame text)
lobby_tells false link text = []

abbrev pub SaysAs : {C B S : Type 0} → Rules C B → (C → Place → S) → House S → ℕ → List ℕ → Option (Held S × ℕ) → List ℕ → House S → Type 0
SaysAs rules cut old link text None out new = (out ≡ lobby_tells (is_waiting old.seats link) link text) × (new ≡ old)
SaysAs {C} {B} {S} rules cut old link text (Some seat) out new = (held : Held S) × (outs : Outs S)
    × Moves rules cut seat.0 (Said seat.1 text) outs held
    × (new ≡ record old { document = Some held }) × (out ≡ records old.seats outs.frames)

-- A view that leaves is a move of its document; then the link is no longer held.
abbrev pub LeavesAs : {C B S : Type 0} → Rules C B → (C → Place → S) → House S → ℕ → Option (Held S × ℕ) → List ℕ → House S → Type 0
LeavesAs rules cut old link None out new = (out ≡ []) × (new ≡ record old { seats = without old.seats link })
LeavesAs {C} {B} {S} rules cut old link (Some seat) out new = (held : Held S)
    × Moves rules cut seat.0 (Left seat.1) nothing held
    × (out ≡ []) × (new ≡ record { seats = without old.seats link; document = Some held })

-- taking one event
abbrev pub TakesOne : {C B S : Type 0} → Rules C B → (C → Place → S) → Waiting → House S → List ℕ → House S → Type 0
TakesOne rules cut (Opened link) old out new = (out ≡ []) × (new ≡ record old { seats = enters old.seats link })
TakesOne rules cut (Loads link file writes) old out new =
    LoadsWhere (is_waiting old.seats link) rules cut old link file (rights writes) out new
TakesOne rules cut (Says link text) old out new = SaysAs rules cut old link text (seated old link) out new
TakesOne rules cut (Gone link) old out new = LeavesAs rules cut old link (seated old link) out new

-- taking the first event that waits, if one does
abbrev pub TakesFirst : {C B S : Type 0} → Rules C B → (C → Place → S) → List Waiting → House S → List ℕ → List Waiting → House S → Type 0
TakesFirst rules cut [] old out rest new = (rest ≡ []) × (out ≡ []) × (new ≡ old)
TakesFirst rules cut (event ∷ events) old out rest new = (rest ≡ events) × TakesOne rules cut event old out new

-- A turn that does the one work that is next, and directly after it the answers to the jobs that it cut, in order, and to
-- the put that it began: a script's store takes each content at once. These are all the frames.
pub record WorksAtOnce {C B S : Type 0} (rules : Rules C B) (cut : C → Place → S) (old : Held S) (frames : List (ViewId × Frame)) (new : Held S) : Type 0 where
  pub mid : Held S
  pub first : Outs S
  pub later : Outs S
  pub does : DoesNext rules cut old (Worked first) mid
  pub answered : Run (Moves rules cut) mid (all_answered first) later new
  pub frames_are : frames ≡ first.frames ++ later.frames

-- One turn of the document, its jobs painted and its put answered at once: what it wrote and that it worked; or it rests,
-- and so does a house without a document.
abbrev pub TurnsDocument : {C B S : Type 0} → Rules C B → (C → Place → S) → Seats → Option (Held S) → List ℕ → Bool → Option (Held S) → Type 0
TurnsDocument rules cut seats None out worked new = (out ≡ []) × (worked ≡ false) × (new ≡ None)
TurnsDocument {C} {B} {S} rules cut seats (Some old) out true new = (held : Held S) × (frames : List (ViewId × Frame))
    × WorksAtOnce rules cut old frames held × (out ≡ records seats frames) × (new ≡ Some held)
TurnsDocument rules cut seats (Some old) out false new = (out ≡ []) × Rests rules old.document × (new ≡ Some old)

-- A poll turn takes the first event that waits, if one does, and then the document makes one turn. It worked where it
-- took an event or where the document's turn worked.
pub record PollTurn {C B S : Type 0} (rules : Rules C B) (cut : C → Place → S) (waiting : List Waiting) (old : House S) (out : List ℕ) (worked : Bool) (rest : List Waiting) (new : House S) : Type 0 where
  pub mid : House S
  pub here : List ℕ
  pub later : List ℕ
  pub turned : Bool
  pub takes : TakesFirst rules cut waiting old here rest mid
  pub turns : TurnsDocument rules cut mid.seats mid.document later turned new.document
  pub stays : new.seats ≡ mid.seats
  pub worked_is : worked ≡ (nat_lt 0 (length waiting) || turned)
  pub is : out ≡ here ++ later

-- the numbers of the tiles that a view has not acknowledged, in order
abbrev pub wids_of : Option View → List ℕ
wids_of None = []
wids_of (Some view) = numbers view

-- the link says that it has processed tiles with these numbers, if there are some
abbrev pub says_processed : ℕ → List ℕ → List Waiting
says_processed link [] = []
says_processed link (wid ∷ wids) = Says link (written (TileProcessed (wid ∷ wids))) ∷ []

abbrev pub window_in : {S : Type 0} → Option (Held S) → ℕ → List ℕ
window_in None view = []
window_in (Some held) view = wids_of (find_view held.document.views view)

-- each view whose window isn't empty acknowledges all its tiles, in order of links
abbrev pub acknowledgements_by : {S : Type 0} → Option (Held S) → List (ℕ × ℕ) → List Waiting
acknowledgements_by document views = flat_map (λ seat. says_processed seat.0 (window_in document seat.1)) views

abbrev pub acknowledgements : {S : Type 0} → House S → List Waiting
acknowledgements house = acknowledgements_by house.document house.seats.views

-- the ids of views
abbrev pub ids_of : List View → List ℕ
ids_of views = map (λ view. view.id) views

-- a document and who is there: it is as a broker keeps it with its tiles, no job is out, no put is under way, and each
-- of its views has a link
pub record IsSeated {C B S : Type 0} (rules : Rules C B) (cut : C → Place → S) (seats : Seats) (held : Held S) : Type 0 where
  pub kept : IsHeld rules cut held
  pub none_out : held.document.jobs ≡ []
  pub none_put : held.document.saving.put ≡ None
  pub linked : AllByRecursion (λ id. is_some (link_of seats id) ≡ true) (ids_of held.document.views)

abbrev pub IsHousedBy : {C B S : Type 0} → Rules C B → (C → Place → S) → Seats → Option (Held S) → Type 0
IsHousedBy rules cut seats None = Unit {0}
IsHousedBy rules cut seats (Some held) = IsSeated rules cut seats held

abbrev pub IsHoused : {C B S : Type 0} → Rules C B → (C → Place → S) → House S → Type 0
IsHoused rules cut house = IsHousedBy rules cut house.seats house.document
