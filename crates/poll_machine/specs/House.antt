-- The house of a poll, what happens in it, and its step.
use Rattle.std.specs.Prelude.{◌≡◌, ◌≢◌, ℕ, ◌+◌, ◌<◌, Bool, true, false, not, ◌==◌, nat_eq, nat_lt}
use Rattle.std.specs.Prelude.{List, [], ◌∷◌, ◌++◌, filter, Option, None, Some, Result, Ok, Err}
use Rattle.std.specs.Prelude.{if◌then◌else◌, ⊤}
use Rattle.std.specs.List.{list_any}
use Rattle.cool_base.specs.declared.ids.DocId.{DocId}
use Rattle.cool_frame.specs.declared.kind.ErrorKind.{ErrorKind}
use Rattle.document_machine.specs.declared.rights.Rights.{Rights}
use Rattle.hall_machine.specs.declared.words.CloseFault.{CloseFault}
use Rattle.hall_machine.specs.declared.words.Entered.{Entered}
use Rattle.hall_machine.specs.declared.words.HallFault.{HallFault}
use Rattle.hall_machine.specs.declared.words.Owner.{Owner}
use Rattle.net_traits.specs.declared.nets.Given.{Given}
use Rattle.net_traits.specs.declared.nets.Given.TheVariants.{Sent, Failed}
use Rattle.net_traits.specs.declared.nets.Taken.{Taken}
use Rattle.net_traits.specs.declared.nets.Taken.TheVariants as taken
use Rattle.outside.specs.Stores.{StoreCall}
use Rattle.poll_machine.specs.Words.{Answer, Ways}
use Rattle.poll_machine.specs.Agenda.{ViewLink, Lock, HeldDocument, view_of, Here, Joins, Gives}
use Rattle.poll_machine.specs.Agenda.{Releases, HeldStep}

-- the answer to a load that was refused: its kind, and its code where it has one
pub record Refusal : Type 0 where
  pub kind : ErrorKind
  pub code : Option ℕ

-- what is held under an id: a document, or a file whose load was refused, with the answer that it
-- keeps
pub data Slot (D J P L : Type 0) : Type 0 where
  Live : (held : HeldDocument D J P L) → Slot D J P L
  Refused : (file : List ℕ) (refusal : Refusal) → Slot D J P L

-- a document on its way from one poll to another: its file, its state, its views with their links,
-- its lock
pub record Parcel (D L : Type 0) : Type 0 where
  pub file : List ℕ
  pub doc : D
  pub links : List (ℕ × L)
  pub lock : Option Lock

-- mail for a document: a link that joins, an answer, or that it is to move
pub data Mail (P L : Type 0) : Type 0 where
  Join : (link : ℕ) (carried : L) (rights : Rights) → Mail P L
  Answered : (answer : Answer P) → Mail P L
  Move : (to : ℕ) → Mail P L

-- a call on the port with its answer, refused ones too
pub data PortCall (D P L : Type 0) : Type 0 where
  Enters : (file : List ℕ) (answer : Result Entered HallFault) → PortCall D P L
  Posts : (id : ℕ) (mail : Mail P L) (urgent : Bool) (answer : Result (Unit {0}) HallFault)
      → PortCall D P L
  Collects : (id : ℕ) (answer : Result ℕ Owner) (bag : List (Mail P L)) → PortCall D P L
  Departs : (id to : ℕ) (parcel : Parcel D L) (answer : Result (Unit {0}) HallFault)
      → PortCall D P L
  Arrives : (answer : Option (DocId × Parcel D L)) → PortCall D P L
  Closes : (id : ℕ) (answer : Result (Unit {0}) CloseFault) → PortCall D P L
  Advises : (poll : ℕ) → PortCall D P L
  Spares : (spare : Bool) → PortCall D P L
  Counts : (polls : ℕ) → PortCall D P L

-- what is done to one document: what happens to a held one; a file that was fetched is opened, with
-- its lock; a refused one is held, since the hall didn't close it; its mails are collected; it
-- arrives; it departs, with the hall's answer; it is closed, with the hall's answer
pub data SlotAct (D J P L : Type 0) : Type 0 where
  At : (here : Here J P L) → SlotAct D J P L
  Opens : (file bytes : List ℕ) (lock : Option Lock) → SlotAct D J P L
  Keeps : (file : List ℕ) (refusal : Refusal) (why : CloseFault) → SlotAct D J P L
  Gets : (answer : Result ℕ Owner) (bag : List (Mail P L)) → SlotAct D J P L
  ComesIn : (parcel : Parcel D L) → SlotAct D J P L
  GoesTo : (to : ℕ) (parcel : Parcel D L) (answer : Result (Unit {0}) HallFault) → SlotAct D J P L
  Ends : (answer : Result (Unit {0}) CloseFault) → SlotAct D J P L

-- what happens in a house, one event for each call on the clock, the net, the port, the store, the
-- yard and on a document: the clock tells the moment; the net is asked for an event; the port, or
-- the store, is called for no held document; something is done to a document, at this moment; a
-- frame is given to a link of the lobby; such a link is released after its give failed, or for a
-- post; a link is adopted into the lobby
pub data Happens (D J P L : Type 0) : Type 0 where
  Ticks : (moment : ℕ) → Happens D J P L
  Takes : (taken : Taken) → Happens D J P L
  Calls : (call : PortCall D P L) → Happens D J P L
  Reads : (call : StoreCall) → Happens D J P L
  OfDoc : (id moment : ℕ) (act : SlotAct D J P L) → Happens D J P L
  Shows : (link : ℕ) (frame : List ℕ) (given : Given) → Happens D J P L
  Frees : (link : ℕ) (gave : Option L) → Happens D J P L
  Posted : (link : ℕ) (gave : Option L) → Happens D J P L
  Adopted : (carried : L) (link : ℕ) → Happens D J P L

-- a house: its poll; whether it spreads its documents; what it holds, in the order of ids; the
-- links of the lobby; the files of the documents that it closed as lost, in order; how many links
-- opened here, and how many ended; and the greatest moment that the clock has given
pub record House (D J P L : Type 0) : Type 0 where
  pub me : ℕ
  pub spread : Bool
  pub docs : List (ℕ × Slot D J P L)
  pub lobby : List ℕ
  pub lost : List (List ℕ)
  pub opened : ℕ
  pub ended : ℕ
  pub moment : ℕ

-- a house that has done nothing yet
abbrev pub new_house : {D J P L : Type 0} → ℕ → Bool → House D J P L
new_house me spread = record {
  me = me;
  spread = spread;
  docs = [];
  lobby = [];
  lost = [];
  opened = 0;
  ended = 0;
  moment = 0;
}

-- what is held under an id
abbrev pub slot_of : {D J P L : Type 0} → ℕ → List (ℕ × Slot D J P L) → Option (Slot D J P L)
slot_of id [] = None
slot_of id (p ∷ docs) = if nat_eq p.0 id then Some p.1 else slot_of id docs

-- the ids rise
abbrev pub Rises : {D J P L : Type 0} → List (ℕ × Slot D J P L) → Type 0
Rises [] = ⊤
Rises (p ∷ []) = ⊤
Rises (p ∷ q ∷ docs) = (p.0 < q.0) × Rises (q ∷ docs)

-- a document as it is opened over the bytes of its file
abbrev pub opened_over : {D J P L : Type 0} → List ℕ → D → Option Lock → HeldDocument D J P L
opened_over file doc lock = record {
  file = file;
  doc = doc;
  views = [];
  packed = [];
  lock = lock;
  todo = [];
}

-- a document as it comes in: its links are still to be adopted
abbrev pub come_in : {D J P L : Type 0} → Parcel D L → HeldDocument D J P L
come_in parcel = record {
  file = parcel.file;
  doc = parcel.doc;
  views = [];
  packed = parcel.links;
  lock = parcel.lock;
  todo = [];
}

-- the parcel of a document whose links are all packed
abbrev pub parcel_of : {D J P L : Type 0} → HeldDocument D J P L → Parcel D L
parcel_of h = record { file = h.file; doc = h.doc; links = h.packed; lock = h.lock }

-- what is held after the hall answered: nothing more, or the same where it refused
abbrev pub unless_refused : {F S : Type 0} → Result (Unit {0}) F → S → Option S
unless_refused (Ok u) slot = None
unless_refused (Err why) slot = Some slot

-- what may be closed: a document that is done, to which nothing is owed and whose lock is released,
-- and a refused one
abbrev pub MayEnd : {D J P L : Type 0} → Ways D J P → Slot D J P L → Type 0
MayEnd w (Live h) = (w.is_done h.doc ≡ true) × (h.todo ≡ []) × (h.lock ≡ None)
MayEnd w (Refused file refusal) = ⊤

-- nothing is owed to what is held
abbrev pub is_free : {D J P L : Type 0} → Option (Slot D J P L) → Bool
is_free None = true
is_free (Some (Refused file refusal)) = true
is_free (Some (Live h)) = elim h.todo [ [] ↦ true | t ∷ rest ↦ false ]

-- one step of what is held under one id, if anything, at a moment
abbrev pub SlotStep : {D J P L : Type 0} → Ways D J P → Option (Slot D J P L) → ℕ × SlotAct D J P L
    → Option (Slot D J P L) → Type 0
SlotStep {D} {J} {P} {L} w old (moment, At here) new =
    (h : HeldDocument D J P L) × (z : HeldDocument D J P L) × (old ≡ Some (Live h))
    × HeldStep w moment h here z × (new ≡ Some (Live z))
SlotStep {D} {J} {P} {L} w old (moment, Opens file bytes lock) new =
    (doc : D) × (old ≡ None) × (w.opening file bytes ≡ Some doc)
    × (new ≡ Some (Live (opened_over file doc lock)))
SlotStep {D} {J} {P} {L} w old (moment, Keeps file refusal why) new = (old ≡ None)
    × (new ≡ Some (Refused file refusal))
SlotStep {D} {J} {P} {L} w old (moment, Gets answer bag) new =
    (slot : Slot D J P L) × (old ≡ Some slot) × (is_free old ≡ true) × (new ≡ old)
SlotStep {D} {J} {P} {L} w old (moment, ComesIn parcel) new = (old ≡ None)
    × (new ≡ Some (Live (come_in parcel)))
SlotStep {D} {J} {P} {L} w old (moment, GoesTo to parcel answer) new =
    (h : HeldDocument D J P L) × (old ≡ Some (Live h)) × (h.todo ≡ []) × (h.views ≡ [])
    × (parcel ≡ parcel_of h)
    × (new ≡ unless_refused answer (Live h))
SlotStep {D} {J} {P} {L} w old (moment, Ends answer) new =
    (slot : Slot D J P L) × (old ≡ Some slot) × MayEnd w slot × (new ≡ unless_refused answer slot)

-- the links but this one
abbrev pub without_link : ℕ → List ℕ → List ℕ
without_link link links = filter (λ l. not (l == link)) links

-- whether a link is among these
abbrev pub is_among : ℕ → List ℕ → Bool
is_among link links = list_any (λ l. l == link) links

-- the document and the view of a link, where it is a view's
abbrev pub view_at : {D J P L : Type 0} → ℕ × Slot D J P L → ℕ → Option ℕ
view_at (id, Live h) link = view_of h.views link
view_at (id, Refused file refusal) link = None

abbrev pub found_or : ℕ → Option ℕ → Option (ℕ × ℕ) → Option (ℕ × ℕ)
found_or id (Some view) later = Some (id, view)
found_or id None later = later

abbrev pub view_in : {D J P L : Type 0} → List (ℕ × Slot D J P L) → ℕ → Option (ℕ × ℕ)
view_in [] link = None
view_in (p ∷ docs) link = found_or p.0 (view_at p link) (view_in docs link)

-- whether the house holds a link
abbrev pub is_view : Option (ℕ × ℕ) → Bool
is_view (Some found) = true
is_view None = false

abbrev pub holds : {D J P L : Type 0} → House D J P L → ℕ → Bool
holds h link = if is_among link h.lobby then true else is_view (view_in h.docs link)

-- the house after the net answered: a link that opens is in the lobby; one that leaves is in the
-- lobby no more, and ended, where it was held. Its view leaves by an event of its document
abbrev pub after_take : {D J P L : Type 0} → Taken → House D J P L → House D J P L
after_take (taken.Opened link) h = record h {
  lobby = h.lobby ++ link.0 ∷ [];
  opened = h.opened + 1;
}
after_take (taken.Said link bytes) h = h
after_take (taken.Left link) h = record h {
  lobby = without_link link.0 h.lobby;
  ended = h.ended + (if holds h link.0 then 1 else 0);
}
after_take taken.Nothing h = h
after_take taken.Failed h = h

-- the lobby after something was done to a document: a link that joins is there no more
abbrev pub lobby_after : {D J P L : Type 0} → SlotAct D J P L → List ℕ → List ℕ
lobby_after (At (Joins link rights outs)) lobby = without_link link lobby
lobby_after _ lobby = lobby

-- a link that joins was in the lobby
abbrev pub may_join : {D J P L : Type 0} → SlotAct D J P L → List ℕ → Bool
may_join (At (Joins link rights outs)) lobby = is_among link lobby
may_join _ lobby = true

-- how many links ended by it: one whose give failed, and one that the net had no longer at a
-- departure
abbrev pub ends_by : {D J P L : Type 0} → SlotAct D J P L → ℕ
ends_by (At (Gives view link frame Failed)) = 1
ends_by (At (Releases view link None)) = 1
ends_by _ = 0

-- the lost files after it: a lost document that is closed adds its file
abbrev pub lost_by : {D J P L : Type 0} → Ways D J P → Option (Slot D J P L) → SlotAct D J P L
    → List (List ℕ)
lost_by w (Some (Live h)) (Ends (Ok u)) = if w.is_lost h.doc then h.file ∷ [] else []
lost_by w _ _ = []

-- something is done to one document: it steps, and every other document stays as it is. The order
-- of ids is kept; of the rest only the lobby, the ended links and the lost files change
pub record DocStep {D J P L : Type 0} (w : Ways D J P) (old : House D J P L) (id moment : ℕ)
    (act : SlotAct D J P L) (new : House D J P L) : Type 0 where
  pub now : moment ≡ old.moment
  pub one : SlotStep w (slot_of id old.docs) (moment, act) (slot_of id new.docs)
  pub others : (x : ℕ) → x ≢ id → slot_of x new.docs ≡ slot_of x old.docs
  pub order : Rises new.docs
  pub waits : may_join act old.lobby ≡ true
  pub rest : new ≡ record old {
    docs = new.docs;
    lobby = lobby_after act old.lobby;
    ended = old.ended + ends_by act;
    lost = old.lost ++ lost_by w (slot_of id old.docs) act;
  }

-- the house after a give to a link of the lobby, and after such a link was released for a post
abbrev pub after_show : {D J P L : Type 0} → ℕ → Given → House D J P L → House D J P L
after_show link Sent h = h
after_show link Failed h = record h { lobby = without_link link h.lobby; ended = h.ended + 1 }

abbrev pub after_post : {D J P L : Type 0} → ℕ → Option L → House D J P L → House D J P L
after_post link (Some carried) h = record h { lobby = without_link link h.lobby }
after_post link None h = record h { lobby = without_link link h.lobby; ended = h.ended + 1 }

-- one step of a house
abbrev pub HouseStep : {D J P L : Type 0} → Ways D J P → House D J P L → Happens D J P L
    → House D J P L → Type 0
HouseStep w old (Ticks moment) new = new
    ≡ record old { moment = if nat_lt old.moment moment then moment else old.moment }
HouseStep w old (Takes taken) new = new ≡ after_take taken old
HouseStep w old (Calls call) new = new ≡ old
HouseStep w old (Reads call) new = new ≡ old
HouseStep w old (OfDoc id moment act) new = DocStep w old id moment act new
HouseStep w old (Shows link frame given) new = (is_among link old.lobby ≡ true)
    × (new ≡ after_show link given old)
HouseStep w old (Frees link gave) new = new ≡ old
HouseStep w old (Posted link gave) new = (is_among link old.lobby ≡ true)
    × (new ≡ after_post link gave old)
HouseStep w old (Adopted carried link) new = new ≡ record old { lobby = old.lobby ++ link ∷ [] }
